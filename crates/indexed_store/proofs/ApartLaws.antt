-- No two indexes share a marker, whatever becomes of them.
use Rattle.std.specs.Prelude.{◌≡◌, ◌≢◌, ◌<◌, ◌⊎◌, ℕ, suc, List, [], ◌∷◌, ◌++◌, length, map, slice_index_or, slice_set}
use Rattle.std.specs.List.{All, AllPairs}
use Rattle.std.proofs.Common.{sym, ap, ◌∙◌, subst, inl, inr, arith, length-set, get_or-set_same, get_or-set_other}
use Rattle.std.proofs.lemmas.Bool.{cases_Bool}
use Rattle.std.proofs.lemmas.Bool.Decides.{eqb_tells}
use Rattle.std.proofs.lemmas.List.{get_or-map, get_or_default, length-map}
use Rattle.std.proofs.lemmas.List.Kept.{AllPairs-cons}
use Rattle.std.proofs.lemmas.List.Quantifiers.{all_pairs_push}
use Rattle.ft_base.specs.Docs.{Doc}
use Rattle.ft_index.specs.Index.{Index}
use Rattle.ft_index.proofs.TakingLaws.{before-of, not-again}
use Rattle.ft_index.specs.Lists.{AllLists}
use Rattle.ft_index.specs.Markers.{AreBefore, GainsMarkers, HasMarker, IsBefore, marker_at}
use Rattle.inverted_list.proofs.ReachLaws.{le_or_lt}
use Rattle.inverted_list.specs.declared.marker.Marker.{Marker}
use Rattle.inverted_list.specs.declared.marker.Markers.{Markers}
use Rattle.indexed_store.specs.Named.{is_named, without_named}
use Rattle.indexed_store.specs.Standing.{AreApart, AreOfEvent, IndexStands, markers_at}
use Rattle.indexed_store.proofs.NamedLaws.{others-have}

-- a marker that a list has was given before
has-before : (markers : Markers) (lists : AllLists) (marker : Marker) → AreBefore markers lists → HasMarker lists marker → IsBefore markers marker
has-before markers lists marker before has = before-of markers (marker_at lists) has.name marker before has.has

pub apart-turned : (index other : Index) → AreApart index other → AreApart other index
apart-turned index other apart marker has there = apart marker there has

-- an index that is made in an event shares no marker with those of earlier events
pub new-apart : (space : List Doc) (next : ℕ) (indexes : List Index) (index : Index) → All (IndexStands space next (markers_at next)) indexes → AreOfEvent next index → All (AreApart index) indexes
new-apart space next indexes index stand given k d short marker has there =
    elim (has-before (markers_at next) (slice_index_or indexes k d).lists marker (stand k d short).before there) [
      | inl earlier ↦ omega (arith, earlier, given marker has)
      | inr same ↦ omega (arith, same.1)
    ]

-- two of them, in either order
pub two-apart : (indexes : List Index) (i j : ℕ) (d : Index) → i ≢ j → i < length indexes → j < length indexes → AllPairs AreApart indexes → AreApart (slice_index_or indexes i d) (slice_index_or indexes j d)
two-apart indexes i j d differ here there apart = elim (lt_or_gt i j differ) [
  | inl less ↦ apart i j d less there
  | inr more ↦ apart-turned (slice_index_or indexes j d) (slice_index_or indexes i d) (apart j i d more here)
]
  where
    lt_or_gt : (i j : ℕ) → i ≢ j → (i < j) ⊎ (j < i)
    lt_or_gt i j differ = elim (le_or_lt i j) [ inl le ↦ inl (omega (arith, le, differ)) | inr gt ↦ inr gt ]

-- one index in the place of another
pub apart-set : (indexes : List Index) (i : ℕ) (index : Index) → i < length indexes → ((k : ℕ) (d : Index) → k ≢ i → k < length indexes → AreApart index (slice_index_or indexes k d))
    → AllPairs AreApart indexes → AllPairs AreApart (slice_set indexes i index)
apart-set indexes i index within others apart a b d less short =
    let there : b < length indexes = omega (arith, short, length-set indexes i index) in
    let here : a < length indexes = omega (arith, less, there) in
    elim (eqb_tells a i) [
      | inl same ↦
          let away : b ≢ i = omega (arith, less, same.1) in
          subst (λ (x : Index). AreApart x (slice_index_or (slice_set indexes i index) b d)) (sym (ap (λ n. slice_index_or (slice_set indexes i index) n d) same.1 ∙ get_or-set_same indexes i index d within))
          (subst (AreApart index) (sym (get_or-set_other indexes i b index d away)) (others b d away there))
      | inr apart_a ↦ elim (eqb_tells b i) [
        | inl same ↦
            subst (λ (x : Index). AreApart (slice_index_or (slice_set indexes i index) a d) x) (sym (ap (λ n. slice_index_or (slice_set indexes i index) n d) same.1 ∙ get_or-set_same indexes i index d within))
            (subst (λ (x : Index). AreApart x index) (sym (get_or-set_other indexes i a index d apart_a.1)) (apart-turned index (slice_index_or indexes a d) (others a d apart_a.1 here)))
        | inr apart_b ↦
            subst (λ (x : Index). AreApart (slice_index_or (slice_set indexes i index) a d) x) (sym (get_or-set_other indexes i b index d apart_b.1))
            (subst (λ (x : Index). AreApart x (slice_index_or indexes b d)) (sym (get_or-set_other indexes i a index d apart_a.1)) (apart a b d less there))
      ]
    ]

-- an index whose lists gain markers that were given to it alone
pub apart-prepared : (indexes : List Index) (at : ℕ) (item new : Index) (from to : Markers) → at < length indexes → GainsMarkers (slice_index_or indexes at item).lists new.lists from to
    → ((k : ℕ) (d : Index) → k < length indexes → AreBefore from (slice_index_or indexes k d).lists) → AllPairs AreApart indexes → AllPairs AreApart (slice_set indexes at new)
apart-prepared indexes at item new from to within gains before apart =
    apart-set indexes at new within
    (λ k d differ short marker has there. elim (gains marker has) [
      | inl old ↦ two-apart indexes at k item (λ same. differ (sym same)) within short apart marker old (same_item k d short marker there)
      | inr given ↦ not-again from to marker (has-before from (slice_index_or indexes k d).lists marker (before k d short) there) given
    ])
    apart
  where
    same_item : (k : ℕ) (d : Index) → k < length indexes → (marker : Marker) → HasMarker (slice_index_or indexes k d).lists marker → HasMarker (slice_index_or indexes k item).lists marker
    same_item k d short marker has = subst (λ (index : Index). HasMarker index.lists marker) (get_or_default indexes k d item short) has

-- where each index keeps its lists
pub apart-mapped : (f : Index → Index) (indexes : List Index) → ((index : Index) → (f index).lists ≡ index.lists) → AllPairs AreApart indexes → AllPairs AreApart (map f indexes)
apart-mapped f indexes keeps apart a b d less short marker has there =
    let within : b < length indexes = omega (arith, short, length-map indexes f) in
    let here : a < length indexes = omega (arith, less, within) in
    apart a b d less within marker
    (subst (λ (lists : AllLists). HasMarker lists marker) (ap (λ (i : Index). i.lists) (get_or-map f indexes a d d here) ∙ keeps (slice_index_or indexes a d)) has)
    (subst (λ (lists : AllLists). HasMarker lists marker) (ap (λ (i : Index). i.lists) (get_or-map f indexes b d d within) ∙ keeps (slice_index_or indexes b d)) there)

-- an index more
pub apart-more : (indexes : List Index) (index : Index) → All (AreApart index) indexes → AllPairs AreApart indexes → AllPairs AreApart (indexes ++ index ∷ [])
apart-more indexes index others apart = all_pairs_push AreApart indexes index apart (λ k d short. apart-turned index (slice_index_or indexes k d) (others k d short))

first-apart : (index : Index) (indexes : List Index) → AllPairs AreApart (index ∷ indexes) → All (AreApart index) indexes
first-apart index indexes apart k d short = apart 0 (suc k) d (omega arith) (omega (arith, short))

rest-apart : (index : Index) (indexes : List Index) → AllPairs AreApart (index ∷ indexes) → AllPairs AreApart indexes
rest-apart index indexes apart i j d less short = apart (suc i) (suc j) d (omega (arith, less)) (omega (arith, short))

-- the indexes but one
pub apart-others : (indexes : List Index) (name : List ℕ) → AllPairs AreApart indexes → AllPairs AreApart (without_named indexes name)
apart-others [] name apart = apart
apart-others (index ∷ indexes) name apart = elim (cases_Bool (is_named name index)) [
  | inl y ↦ rw y (rest-apart index indexes apart)
  | inr n ↦ rw n (AllPairs-cons AreApart index (without_named indexes name) (others-have (AreApart index) indexes name (first-apart index indexes apart)) (apart-others indexes name (rest-apart index indexes apart)))
]
