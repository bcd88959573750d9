-- How many documents keys lead to.
use Rattle.std.proofs.Common.{◌≡◌, ◌<◌, ◌≤◌, ◌+◌, ℕ, suc, Bool, true, false, List, [], ◌∷◌, ◌++◌, length, take, map, Option, Some, None, refl, sym, ap, ◌∙◌, subst, inl, inr, arith}
use Rattle.std.specs.Prelude.{◌||◌, ◌&&◌, filter, not, slice_index_or}
use Rattle.std.specs.List.{AllByRecursion, IsDistinct, dedup, dedup_from, list_any}
use Rattle.std.specs.List.Retain.{DiffersFromLast, IsFiltered}
use Rattle.std.specs.List.Sorted.{IsPermutation, IsSorted, IsStrictlyIncreasing}
use Rattle.std.specs.Ordering.{eq_by_cmp, nat_cmp}
use Rattle.std.specs.Option.{option_map}
use Rattle.std.specs.Str.{bytes_eq}
use Rattle.std.proofs.Math.Dec.{eqb}
use Rattle.std.proofs.lemmas.Bool.{cases_Bool}
use Rattle.std.proofs.lemmas.Bool.Decides.{eqb_tells}
use Rattle.std.proofs.lemmas.Cmp.{eq_by_cmp_equiv, nat_cmp_total}
use Rattle.std.proofs.lemmas.List.{append-nil, length-append, length-map, take_more}
use Rattle.std.proofs.lemmas.List.Filters.{dedup_is, length-filter_both}
use Rattle.std.proofs.lemmas.List.Sorted.{list_any-IsPermutation}
use Rattle.std.proofs.lemmas.Map.Keys.{IsDistinct-from_sorted, IsStrictlyIncreasing-dedup, sorted_from_strictly_increasing}
use Rattle.std.proofs.lemmas.Map.Made.{length-from_keys}
use Rattle.std.proofs.lemmas.Slice.Eq.{bytes_eq-Decides}
use Rattle.ft_base.specs.Space.{doc_of, erase}
use Rattle.ft_base.specs.Docs.{Doc}
use Rattle.indexed_store.specs.Counting.{before, ids_of}
use Rattle.ft_machine.specs.Definitions.{without_keys}
use Rattle.indexed_store.proofs.KeysLaws.{KeysDiffer, distinct-filter, erase-filter, key-apart, others-differ}
use Rattle.indexed_store.proofs.StepLaws.{id_of}

before-append : (doc : Option Doc) (front back : List ℕ) → before doc (front ++ back) ≡ before doc front ++ back
before-append None front back = refl
before-append (Some doc) front back = refl

ids-append : (docs : List Doc) (front back : List (List ℕ)) → ids_of docs (front ++ back) ≡ ids_of docs front ++ ids_of docs back
ids-append docs [] back = refl
ids-append docs (key ∷ front) back = ap (before (doc_of docs key)) (ids-append docs front back) ∙ before-append (doc_of docs key) (ids_of docs front) (ids_of docs back)

ids-next : (docs : List Doc) (keys : List (List ℕ)) (i : ℕ) (key : List ℕ) → i < length keys → key ≡ slice_index_or keys i []
    → ids_of docs (take (i + 1) keys) ≡ ids_of docs (take i keys) ++ before (doc_of docs key) []
ids-next docs keys i key within is =
    ap (ids_of docs) (take_more keys i [] within ∙ ap (λ (k : List ℕ). take i keys ++ k ∷ []) (sym is)) ∙ ids-append docs (take i keys) (key ∷ [])

-- the document of the next key is noted, or there is none
pub noted-some : (docs : List Doc) (keys : List (List ℕ)) (i : ℕ) (key old new : List ℕ) (id : ℕ) → i < length keys → key ≡ slice_index_or keys i [] → old ≡ ids_of docs (take i keys) → Some id ≡ id_of docs key → new ≡ old ++ id ∷ []
    → new ≡ ids_of docs (take (i + 1) keys)
noted-some docs keys i key old new id within is noted found more =
    more ∙ (ap (λ (ids : List ℕ). ids ++ id ∷ []) noted ∙ (ap (λ (ids : List ℕ). ids_of docs (take i keys) ++ ids) (here (doc_of docs key) found) ∙ sym (ids-next docs keys i key within is)))
  where
    here : (doc : Option Doc) → Some id ≡ option_map (λ (doc : Doc). doc.id) doc → id ∷ [] ≡ before doc []
    here None said = cc (said)
    here (Some doc) said = let same : id ≡ doc.id = cc (said) in ap (λ n. n ∷ []) same

pub noted-none : (docs : List Doc) (keys : List (List ℕ)) (i : ℕ) (key old : List ℕ) → i < length keys → key ≡ slice_index_or keys i [] → old ≡ ids_of docs (take i keys) → None ≡ id_of docs key
    → old ≡ ids_of docs (take (i + 1) keys)
noted-none docs keys i key old within is noted found =
    noted ∙ (sym (append-nil (ids_of docs (take i keys))) ∙ (ap (λ (ids : List ℕ). ids_of docs (take i keys) ++ ids) (here (doc_of docs key) found) ∙ sym (ids-next docs keys i key within is)))
  where
    here : (doc : Option Doc) → None ≡ option_map (λ (doc : Doc). doc.id) doc → [] ≡ before doc []
    here None said = refl
    here (Some doc) said = cc (said)

-- whether a document's key is among these
abbrev named : List (List ℕ) → Doc → Bool
named keys doc = list_any (λ key. bytes_eq key doc.key) keys

all-pass : (docs : List Doc) → filter (λ (doc : Doc). true) docs ≡ docs
all-pass [] = refl
all-pass (doc ∷ docs) = ap (λ rest. doc ∷ rest) (all-pass docs)

filter-twice : (key : List ℕ) (keys : List (List ℕ)) (docs : List Doc)
    → filter (λ doc. not (named keys doc)) (filter (λ (doc : Doc). not (bytes_eq key doc.key)) docs) ≡ filter (λ doc. not (named (key ∷ keys) doc)) docs
filter-twice key keys [] = refl
filter-twice key keys (doc ∷ docs) = elim (cases_Bool (bytes_eq key doc.key)) [
  | inl y ↦ rw y (filter-twice key keys docs)
  | inr n ↦ elim (cases_Bool (named keys doc)) [
    | inl there ↦ rw (n, there) (filter-twice key keys docs)
    | inr away ↦ rw (n, away) (ap (λ rest. doc ∷ rest) (filter-twice key keys docs))
  ]
]

-- the documents but those of the keys
without-filter : (keys : List (List ℕ)) (docs : List Doc) → KeysDiffer docs → without_keys docs keys ≡ filter (λ doc. not (named keys doc)) docs
without-filter [] docs differ = sym (all-pass docs)
without-filter (key ∷ keys) docs differ =
    let out = erase-filter docs key differ in
    let still : KeysDiffer (erase docs key) = subst KeysDiffer (sym out) (distinct-filter bytes_eq (λ (doc : Doc). doc.key) (λ (doc : Doc). not (bytes_eq key doc.key)) docs differ) in
    without-filter keys (erase docs key) still ∙ (ap (filter (λ doc. not (named keys doc))) out ∙ filter-twice key keys docs)

none-found : (docs : List Doc) (key : List ℕ) → AllByRecursion (λ k. bytes_eq key k ≡ false) (map (λ (doc : Doc). doc.key) docs) → doc_of docs key ≡ None
none-found [] key each = refl
none-found (doc ∷ docs) key each = rw each.0 (none-found docs key each.1)

-- the ids of keys among one document more
ids-more : (test : ℕ → Bool) (doc : Doc) (docs : List Doc) (keys : List (List ℕ)) → doc_of docs doc.key ≡ None
    → list_any test (ids_of (doc ∷ docs) keys) ≡ ((named keys doc && test doc.id) || list_any test (ids_of docs keys))
ids-more test doc docs [] none = refl
ids-more test doc docs (key ∷ keys) none = elim (cases_Bool (bytes_eq key doc.key)) [
  | inl y ↦
      let same : key ≡ doc.key = (bytes_eq-Decides key doc.key).0 y in
      let away : doc_of docs key ≡ None = ap (doc_of docs) same ∙ none in
      rw (y, away, ids-more test doc docs keys none) (here (test doc.id) (named keys doc) (list_any test (ids_of docs keys)))
  | inr n ↦ rw n (there (doc_of docs key) (named keys doc && test doc.id) (ids-more test doc docs keys none))
]
  where
    here : (a b c : Bool) → (a || ((b && a) || c)) ≡ (a || c)
    here true b c = refl
    here false true c = refl
    here false false c = refl

    there : (found : Option Doc) (a : Bool) → list_any test (ids_of (doc ∷ docs) keys) ≡ (a || list_any test (ids_of docs keys))
        → list_any test (before found (ids_of (doc ∷ docs) keys)) ≡ (a || list_any test (before found (ids_of docs keys)))
    there None a more = more
    there (Some found) a more = rw more (swap (test found.id) a (list_any test (ids_of docs keys)))
      where
        swap : (a b c : Bool) → (a || (b || c)) ≡ (b || (a || c))
        swap true true c = refl
        swap true false c = refl
        swap false true c = refl
        swap false false c = refl

-- the ids of the keys are those of the documents that have one
ids-named : (test : ℕ → Bool) (docs : List Doc) (keys : List (List ℕ)) → KeysDiffer docs → list_any test (ids_of docs keys) ≡ list_any test (map (λ (doc : Doc). doc.id) (filter (named keys) docs))
ids-named test [] keys differ = none keys
  where
    none : (keys : List (List ℕ)) → list_any test (ids_of [] keys) ≡ false
    none [] = refl
    none (key ∷ keys) = none keys
ids-named test (doc ∷ docs) keys differ =
    ids-more test doc docs keys (none-found docs doc.key (key-apart doc docs differ)) ∙ (elim (cases_Bool (named keys doc)) [
      | inl y ↦ rw y (ap (λ (b : Bool). test doc.id || b) (ids-named test docs keys (others-differ doc docs differ)))
      | inr n ↦ rw n (ids-named test docs keys (others-differ doc docs differ))
    ])

-- what `dedup` leaves of numbers are the same numbers
dedup-from-any : (test : ℕ → Bool) (kept : ℕ) (xs : List ℕ) → list_any test (dedup_from eqb kept xs) ≡ (test kept || list_any test xs)
dedup-from-any test kept [] = refl
dedup-from-any test kept (x ∷ xs) = elim (eqb_tells x kept) [
  | inl same ↦ rw same.0 (dedup-from-any test kept xs ∙ subst (λ n. (test kept || list_any test xs) ≡ (test kept || (test n || list_any test xs))) (sym same.1) (twice (test kept) (list_any test xs)))
  | inr apart ↦ rw apart.0 (ap (λ (b : Bool). test kept || b) (dedup-from-any test x xs))
]
  where
    twice : (a b : Bool) → (a || b) ≡ (a || (a || b))
    twice true b = refl
    twice false b = refl

dedup-any : (test : ℕ → Bool) (xs : List ℕ) → list_any test (dedup eqb xs) ≡ list_any test xs
dedup-any test [] = refl
dedup-any test (x ∷ xs) = dedup-from-any test x xs

-- a filter that takes nothing out
filter-whole : (test : Doc → Bool) (docs : List Doc) → length (filter test docs) ≡ length docs → filter test docs ≡ docs
filter-whole test [] whole = refl
filter-whole test (doc ∷ docs) whole = elim (cases_Bool (test doc)) [
  | inl y ↦ let rest : suc (length (filter test docs)) ≡ suc (length docs) = rw y at whole in rw y (ap (λ rest. doc ∷ rest) (filter-whole test docs (omega (arith, rest))))
  | inr n ↦
      let rest : length (filter test docs) ≡ suc (length docs) = rw n at whole in
      absurd (omega (arith, rest, length-filter_both test (λ doc. not (test doc)) (λ doc. refl) docs))
]

-- The ids that are left once they are sorted and each is kept once are as many as the documents that go.
pub counted : (docs : List Doc) (keys : List (List ℕ)) (noted sorted kept : List ℕ) → IsStrictlyIncreasing (map (λ (doc : Doc). doc.id) docs) → KeysDiffer docs
    → noted ≡ ids_of docs keys → IsPermutation noted sorted → IsSorted nat_cmp sorted → IsFiltered (DiffersFromLast eqb) [] sorted kept → length kept + length (without_keys docs keys) ≡ length docs
counted docs keys noted sorted kept rises differ is permuted in_order filtered =
    let same : ℕ → ℕ → Bool = eq_by_cmp nat_cmp in
    let gone = filter (named keys) docs in
    let once : kept ≡ dedup eqb sorted = dedup_is eqb sorted kept filtered in
    let apart : IsDistinct same kept = subst (IsDistinct same) (sym once) (IsDistinct-from_sorted nat_cmp (dedup eqb sorted) (sorted_from_strictly_increasing (dedup eqb sorted) (IsStrictlyIncreasing-dedup sorted in_order))) in
    let ids : IsDistinct same (map (λ (doc : Doc). doc.id) gone) =
    distinct-filter same (λ (doc : Doc). doc.id) (named keys) docs (IsDistinct-from_sorted nat_cmp (map (λ (doc : Doc). doc.id) docs) (sorted_from_strictly_increasing (map (λ (doc : Doc). doc.id) docs) rises)) in
    let left : (test : ℕ → Bool) → list_any test kept ≡ list_any test noted = λ test. ap (list_any test) once ∙ (dedup-any test sorted ∙ sym (list_any-IsPermutation test noted sorted permuted)) in
    let members : (test : ℕ → Bool) → list_any test (map (λ (doc : Doc). doc.id) gone) ≡ list_any test noted = λ test. sym (ids-named test docs keys differ) ∙ ap (list_any test) (sym is) in
    let many = length-from_keys (eq_by_cmp_equiv nat_cmp_total) kept noted apart (λ q. left (same q)) in
    let few = length-from_keys (eq_by_cmp_equiv nat_cmp_total) (map (λ (doc : Doc). doc.id) gone) noted ids (λ q. members (same q)) in
    omega (
      arith,
      many,
      few,
      length-map gone (λ (doc : Doc). doc.id),
      length-filter_both (named keys) (λ doc. not (named keys doc)) (λ doc. refl) docs,
      ap (λ (rest : List Doc). length rest) (without-filter keys docs differ),
    )

-- one more id for one more key
pub few-more : (old new : List ℕ) (id i : ℕ) → length old ≤ i → new ≡ old ++ id ∷ [] → length new ≤ i + 1
few-more old new id i few more = omega (arith, few, ap (λ (ids : List ℕ). length ids) more, length-append old (id ∷ []))

-- no document is taken out of none
pub without-none : (docs : List Doc) (keys : List (List ℕ)) → length docs ≡ 0 → without_keys docs keys ≡ docs
without-none [] keys none = empty keys
  where
    empty : (keys : List (List ℕ)) → without_keys [] keys ≡ []
    empty [] = refl
    empty (key ∷ keys) = empty keys
without-none (doc ∷ docs) keys none = absurd (omega (arith, none))

-- none is taken out where none is counted
pub without-whole : (docs : List Doc) (keys : List (List ℕ)) → KeysDiffer docs → length (without_keys docs keys) ≡ length docs → without_keys docs keys ≡ docs
without-whole docs keys differ whole =
    let out = without-filter keys docs differ in
    out ∙ filter-whole (λ doc. not (named keys doc)) docs (omega (arith, whole, ap (λ (rest : List Doc). length rest) out))
