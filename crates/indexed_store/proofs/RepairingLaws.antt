-- An index with a list that was spliced, among the others.
use Rattle.std.specs.Prelude.{◌≡◌, ◌<◌, ◌+◌, ℕ, zero, suc, Bool, List, [], ◌∷◌, ◌++◌, None, Some, drop, find, length, position, slice_get, slice_index_or, slice_set, take, refl}
use Rattle.std.specs.List.{position_or_len}
use Rattle.std.proofs.Common.{sym, ap, ◌∙◌, subst, inl, inr, arith}
use Rattle.std.proofs.lemmas.Bool.{cases_Bool}
use Rattle.std.proofs.lemmas.List.Folds.{find_at}
use Rattle.std.proofs.lemmas.List.{take_at}
use Rattle.std.proofs.lemmas.Option.{slice_get-get_or}
use Rattle.ft_index.specs.Index.{Index, is_live}
use Rattle.ft_index.specs.Lists.{AllLists, rows_of}
use Rattle.ft_index.specs.Markers.{AreBefore, GainsMarkers, marker_at}
use Rattle.ft_index.specs.Splicing.{GainsMarker, IsNew}
use Rattle.ft_index.specs.Thinned.{ListsThin}
use Rattle.ft_index.proofs.CollectLaws.{tags-same, thin-same}
use Rattle.ft_index.proofs.TakingLaws.{before-of}
use Rattle.ft_index.proofs.ThinLaws.{slot-same}
use Rattle.inverted_list.specs.declared.marker.Marker.{Marker}
use Rattle.inverted_list.specs.declared.marker.Markers.{Markers}
use Rattle.indexed_store.specs.Named.{has_serial, with_serial}
use Rattle.indexed_store.specs.Repairing.{IndexesThin, splice_marker}
use Rattle.indexed_store.specs.Standing.{markers_at}
use Rattle.indexed_store.proofs.NamedLaws.{first-here, first-later, no-place, place-is, suc_is}

-- the index at the place that was found is the first that passes
pub found-at : (p : Index → Bool) (xs : List Index) (i : ℕ) (d : Index) → position p xs ≡ Some i → find p xs ≡ Some (slice_index_or xs i d)
found-at p xs i d found = let at = place-is p xs i found in find_at p xs ∙ (ap (slice_get xs) (sym at.0) ∙ slice_get-get_or xs i d at.1)

none-passes : (p : Index → Bool) (xs : List Index) → length xs < position_or_len p xs + 1 → find p xs ≡ None
none-passes p [] none = refl
none-passes p (x ∷ xs) none = elim (cases_Bool (p x)) [
  | inl y ↦ absurd (omega (arith, none, first-here p x xs y))
  | inr n ↦ rw n (none-passes p xs (omega (arith, none, first-later p x xs n)))
]

-- none passes where no place is found
pub none-found : (p : Index → Bool) (xs : List Index) → position p xs ≡ None → find p xs ≡ None
none-found p xs none = none-passes p xs (no-place p xs none)

set-first : (xs : List Index) (serial i : ℕ) (new : Index) → i ≡ position_or_len (has_serial serial) xs → i < length xs → slice_set xs i new ≡ with_serial xs serial new
set-first [] serial i new is less = absurd (omega (arith, less))
set-first (x ∷ xs) serial i new is less = elim (cases_Bool (has_serial serial x)) [
  | inl y ↦ let start : i ≡ 0 = is ∙ first-here (has_serial serial) x xs y in rw (start, y) refl
  | inr n ↦
      let up : i ≡ suc (position_or_len (has_serial serial) xs) = suc_is i (position_or_len (has_serial serial) xs) (is ∙ first-later (has_serial serial) x xs n) in
      rw (up, n) (ap (λ (rest : List Index). x ∷ rest) (set-first xs serial (position_or_len (has_serial serial) xs) new refl (omega (arith, less, up))))
]

-- another index is put in the place of the one of a serial
pub set-serial : (xs : List Index) (serial i : ℕ) (new : Index) → position (has_serial serial) xs ≡ Some i → slice_set xs i new ≡ with_serial xs serial new
set-serial xs serial i new found = let at = place-is (has_serial serial) xs i found in set-first xs serial i new at.0 at.1

lists-same : (live : ℕ → Bool) (lists : AllLists) → ListsThin live lists lists
lists-same live lists = record { words = thin-same live lists.words; tags = tags-same live lists.tags; ranges = λ field. slot-same live (rows_of lists.ranges field) }

-- nothing goes where nothing changes
pub indexes-same : (xs : List Index) → IndexesThin xs xs
indexes-same [] = tt
indexes-same (x ∷ xs) = (lists-same (is_live x) x.lists, indexes-same xs)

-- one index loses dead entries
pub thin-set : (xs : List Index) (i : ℕ) (d new : Index) → i < length xs → ListsThin (is_live (slice_index_or xs i d)) (slice_index_or xs i d).lists new.lists → IndexesThin xs (slice_set xs i new)
thin-set [] i d new within thin = absurd (omega (arith, within))
thin-set (x ∷ xs) zero d new within thin = (thin, indexes-same xs)
thin-set (x ∷ xs) (suc i) d new within thin = (lists-same (is_live x) x.lists, thin-set xs i d new (omega (arith, within)) thin)

-- the markers behind the one that a splice gives
abbrev pub markers_behind : ℕ → Markers
markers_behind event = record { event = event; next = 1 }

-- no list of before has the marker of a splice
pub marker-new : (event : ℕ) (lists : AllLists) → AreBefore (markers_at event) lists → IsNew (splice_marker event) lists
marker-new event lists before name has = elim (before-of (markers_at event) (marker_at lists) name (splice_marker event) before has) [
  | inl earlier ↦ omega (arith, earlier)
  | inr same ↦ omega (arith, same.1)
]

-- the one marker that is given is one that the event gave
pub marker-gained : (event : ℕ) (old new : AllLists) → GainsMarker old new (splice_marker event) → GainsMarkers old new (markers_at event) (markers_behind event)
marker-gained event old new gains marker has = elim (gains marker has) [
  | inl stood ↦ inl stood
  | inr given ↦ inr (record {
    event = ap (λ (m : Marker). m.event) given;
    least = omega arith;
    below = omega (arith, ap (λ (m : Marker). m.nth) given);
  })
]

-- what holds of the indexes that were lent, and of what became of them, holds of what was held and is held then
pub lent-back : (F : List Index → List Index → Type 0) (held items lent now : List Index) (len : ℕ) → length now ≡ len → lent ≡ items → items ≡ held → F lent now
    → F held (take len (now ++ drop (length now) items))
lent-back F held items lent now len whole same view has =
    subst (F held) (sym (take_at now (drop (length now) items) len whole)) (subst (λ (xs : List Index). F xs now) (same ∙ view) has)
