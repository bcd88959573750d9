-- What the indexes stand for while a document is written.
use Rattle.std.specs.Prelude.{◌≡◌, ◌<◌, ◌≤◌, ◌+◌, ◌≢◌, ◌⊎◌, ℕ, zero, suc, List, [], ◌∷◌, ◌++◌, length, map, take, drop, slice_index_or, slice_set, refl}
use Rattle.std.proofs.Common.{sym, ap, ◌∙◌, subst, inl, inr, arith, add-one, length-set, get_or-set_same, get_or-set_other}
use Rattle.std.proofs.lemmas.Bool.Decides.{eqb_tells}
use Rattle.ft_base.specs.Docs.{Doc}
use Rattle.indexed_store.specs.Standing.{IndexStands}
use Rattle.ft_index.proofs.TakingLaws.{all-before, before-of}
use Rattle.ft_index.specs.Lists.{AllLists}
use Rattle.ft_index.specs.Markers.{AreBefore, IsBefore, marker_at}
use Rattle.ft_index.specs.Index.{Index, Indexes, IsIndex}
use Rattle.inverted_list.specs.declared.marker.Marker.{Marker}
use Rattle.inverted_list.specs.declared.marker.Markers.{Markers}

-- what was given before some markers was given before later ones
is_before-later : (old new : Markers) (marker : Marker) → (old.event < new.event) ⊎ ((old.event ≡ new.event) × (old.next ≤ new.next)) → IsBefore old marker → IsBefore new marker
is_before-later old new marker (inl h) (inl before) = inl (omega (arith, h, before))
is_before-later old new marker (inl h) (inr before) = inl (omega (arith, h, before.0))
is_before-later old new marker (inr h) (inl before) = inl (omega (arith, h.0, before))
is_before-later old new marker (inr h) (inr before) = inr (before.0 ∙ h.0, omega (arith, h.1, before.1))

pub are_before-later : (old new : Markers) (lists : AllLists) → (old.event < new.event) ⊎ ((old.event ≡ new.event) × (old.next ≤ new.next)) → AreBefore old lists → AreBefore new lists
are_before-later old new lists later before = all-before new (marker_at lists) (λ name marker has. is_before-later old new marker later (before-of old (marker_at lists) name marker before has))

pub stands-later : (space : List Doc) (next next' : ℕ) (old new : Markers) (index : Index) → next ≤ next' → (old.event < new.event) ⊎ ((old.event ≡ new.event) × (old.next ≤ new.next))
    → IndexStands space next old index → IndexStands space next' new index
stands-later space next next' old new index more later stands = record {
  documents = stands.documents;
  sound = stands.sound;
  earlier = omega (arith, more, stands.earlier);
  before = are_before-later old new index.lists later stands.before;
}

-- what holds of one item and of all others holds of a list whose item was set to it
pub all-set : (P : Index → Type 0) (xs : List Index) (i : ℕ) (x : Index) → i < length xs → P x → ((k : ℕ) (d : Index) → k ≢ i → k < length xs → P (slice_index_or xs k d))
    → (k : ℕ) (d : Index) → k < length (slice_set xs i x) → P (slice_index_or (slice_set xs i x) k d)
all-set P xs i x within here others k d short =
    let short : k < length xs = omega (arith, short, length-set xs i x) in
    elim (eqb_tells k i) [
      | inl same ↦ subst (λ j. P (slice_index_or (slice_set xs i x) j d)) (sym same.1) (subst P (sym (get_or-set_same xs i x d within)) here)
      | inr apart ↦ subst P (sym (get_or-set_other xs i k x d apart.1)) (others k d apart.1 short)
    ]

-- an index in which a document was prepared, or was to be
pub prepared : (space : List Doc) (id : ℕ) (markers : Markers) (new : Index) → Indexes new space → IsIndex new → new.table.last ≤ id → AreBefore markers new.lists
    → IndexStands space (id + 1) markers new
prepared space id markers new documents sound last before = record { documents = documents; sound = sound; earlier = omega (arith, last); before = before }

-- an item that was set, and those below it
pub set-below : (P : Index → Type 0) (xs : List Index) (i : ℕ) (x : Index) → i < length xs → P x → ((k : ℕ) (d : Index) → k < i → P (slice_index_or xs k d))
    → (k : ℕ) (d : Index) → k ≤ i → P (slice_index_or (slice_set xs i x) k d)
set-below P xs i x within here below k d upto =
    elim (eqb_tells k i) [
      | inl same ↦ subst (λ j. P (slice_index_or (slice_set xs i x) j d)) (sym same.1) (subst P (sym (get_or-set_same xs i x d within)) here)
      | inr apart ↦ subst P (sym (get_or-set_other xs i k x d apart.1)) (below k d (below_or upto apart.1))
    ]
  where
    below_or : k ≤ i → k ≢ i → k < i
    below_or upto apart = omega (arith, upto, apart)

-- and those above it
pub set-above : (P : Index → Type 0) (xs : List Index) (i : ℕ) (x : Index) → ((k : ℕ) (d : Index) → i < k → k < length xs → P (slice_index_or xs k d))
    → (k : ℕ) (d : Index) → i < k → k < length (slice_set xs i x) → P (slice_index_or (slice_set xs i x) k d)
set-above P xs i x above k d over short =
    let apart : k ≢ i = omega (arith, over) in
    subst P (sym (get_or-set_other xs i k x d apart)) (above k d over (omega (arith, short, length-set xs i x)))

-- a list whose first items are mapped
abbrev pub mapped : (Index → Index) → ℕ → List Index → List Index
mapped f i xs = map f (take i xs) ++ drop i xs

mapped-get : (f : Index → Index) (xs : List Index) (i : ℕ) (d : Index) → slice_index_or (mapped f i xs) i d ≡ slice_index_or xs i d
mapped-get f [] zero d = refl
mapped-get f [] (suc i) d = refl
mapped-get f (x ∷ xs) zero d = refl
mapped-get f (x ∷ xs) (suc i) d = mapped-get f xs i d

mapped-set : (f : Index → Index) (xs : List Index) (i : ℕ) (d : Index) → i < length xs → slice_set (mapped f i xs) i (f (slice_index_or xs i d)) ≡ mapped f (suc i) xs
mapped-set f [] i d within = absurd (omega (arith, within))
mapped-set f (x ∷ xs) zero d within = refl
mapped-set f (x ∷ xs) (suc i) d within = ap (λ rest. f x ∷ rest) (mapped-set f xs i d (omega (arith, within)))

-- the next item is mapped too
pub mapped-next : (f : Index → Index) (xs now : List Index) (i : ℕ) (x d : Index) → i < length xs → now ≡ mapped f i xs → x ≡ f (slice_index_or now i d)
    → slice_set now i x ≡ mapped f (i + 1) xs
mapped-next f xs now i x d within same is =
    let same_item : slice_index_or now i d ≡ slice_index_or xs i d = ap (λ ys. slice_index_or ys i d) same ∙ mapped-get f xs i d in
    rw (same, is, same_item, add-one) (mapped-set f xs i d within)
