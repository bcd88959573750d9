-- The keys of documents differ, so a document that is taken out by its key is the one that was meant.
use Rattle.std.specs.Prelude.{◌≡◌, ◌≤◌, ℕ, Bool, true, false, cond, not, List, [], ◌∷◌, ◌++◌, Option, None, Some, filter, find, fold, map, nat_eq, refl}
use Rattle.std.proofs.Common.{sym, ap, ◌∙◌, subst, inl, inr, arith}
use Rattle.std.specs.Cmp.Lexicographic.{nat_list_eq_equiv}
use Rattle.std.specs.List.{AllByRecursion, IsDistinct}
use Rattle.std.specs.Map.{keys_of}
use Rattle.std.specs.Str.{bytes_eq}
use Rattle.std.proofs.lemmas.Bool.{cases_Bool}
use Rattle.std.proofs.lemmas.Bool.Decides.{nat_tests}
use Rattle.std.proofs.lemmas.Map.Keys.{IsDistinct-head, IsDistinct-tail}
use Rattle.std.proofs.lemmas.Map.Made.{IsDistinct-keys_filter}
use Rattle.std.proofs.lemmas.Slice.Eq.{bytes_eq-Decides}
use Rattle.ft_base.specs.Space.{doc_of, erase}
use Rattle.ft_base.specs.Docs.{Doc}
use Rattle.ft_index.proofs.AliveLaws.{above-no, same-yes, without-below}
use Rattle.ft_index.specs.Without.{without}
use Rattle.ft_machine.specs.Definitions.{without_keys}
use Rattle.hash_store.proofs.SpaceLaws.{IsFree, distinct-erase, distinct-push, doc_of-erase, free-from-none}
use Rattle.hash_store.specs.Erasing.{erase_doc, erase_id}
use Rattle.inverted_list.specs.Listing.{RisesAbove}

-- no two documents have one key
abbrev pub KeysDiffer : List Doc → Type 0
KeysDiffer docs = IsDistinct bytes_eq (map (λ (doc : Doc). doc.key) docs)

pub none-differ : KeysDiffer []
unfolding IsDistinct
none-differ = tt

-- documents as entries, each under what a function gives of it
abbrev entries : {K : Type 0} → (Doc → K) → List Doc → List (K × Doc)
entries f docs = map (λ (doc : Doc). (f doc, doc)) docs

keys-entries : {K : Type 0} (f : Doc → K) (docs : List Doc) → keys_of (entries f docs) ≡ map f docs
keys-entries f [] = refl
keys-entries f (doc ∷ docs) = ap (λ rest. f doc ∷ rest) (keys-entries f docs)

filter-entries : {K : Type 0} (f : Doc → K) (test : Doc → Bool) (docs : List Doc) → filter (λ (e : K × Doc). test e.1) (entries f docs) ≡ entries f (filter test docs)
filter-entries f test [] = refl
filter-entries f test (doc ∷ docs) = elim (cases_Bool (test doc)) [
  | inl y ↦ rw y (ap (λ rest. (f doc, doc) ∷ rest) (filter-entries f test docs))
  | inr n ↦ rw n (filter-entries f test docs)
]

pub distinct-filter : {K : Type 0} (eq : K → K → Bool) (f : Doc → K) (test : Doc → Bool) (docs : List Doc) → IsDistinct eq (map f docs) → IsDistinct eq (map f (filter test docs))
distinct-filter {K} eq f test docs distinct =
    subst (IsDistinct eq) (ap keys_of (filter-entries f test docs) ∙ keys-entries f (filter test docs))
    (IsDistinct-keys_filter eq (λ (e : K × Doc). test e.1) (entries f docs) (subst (IsDistinct eq) (sym (keys-entries f docs)) distinct))

pub key-apart : (doc : Doc) (docs : List Doc) → KeysDiffer (doc ∷ docs) → AllByRecursion (λ k. bytes_eq doc.key k ≡ false) (map (λ (doc : Doc). doc.key) docs)
key-apart doc docs differ = IsDistinct-head bytes_eq doc.key (map (λ (doc : Doc). doc.key) docs) differ

pub others-differ : (doc : Doc) (docs : List Doc) → KeysDiffer (doc ∷ docs) → KeysDiffer docs
others-differ doc docs differ = IsDistinct-tail bytes_eq doc.key (map (λ (doc : Doc). doc.key) docs) differ

-- all documents pass where none has the key
none-has : (key : List ℕ) (docs : List Doc) → AllByRecursion (λ k. bytes_eq key k ≡ false) (map (λ (doc : Doc). doc.key) docs) → filter (λ (doc : Doc). not (bytes_eq key doc.key)) docs ≡ docs
none-has key [] each = refl
none-has key (doc ∷ docs) each = rw each.0 (ap (λ rest. doc ∷ rest) (none-has key docs each.1))

pub erase-filter : (docs : List Doc) (key : List ℕ) → KeysDiffer docs → erase docs key ≡ filter (λ (doc : Doc). not (bytes_eq key doc.key)) docs
erase-filter [] key differ = refl
erase-filter (doc ∷ docs) key differ = elim (cases_Bool (bytes_eq key doc.key)) [
  | inl y ↦
      let same : key ≡ doc.key = (bytes_eq-Decides key doc.key).0 y in
      rw y (sym (none-has key docs (subst (λ (k : List ℕ). AllByRecursion (λ other. bytes_eq k other ≡ false) (map (λ (doc : Doc). doc.key) docs)) (sym same) (key-apart doc docs differ))))
  | inr n ↦ rw n (ap (λ rest. doc ∷ rest) (erase-filter docs key (others-differ doc docs differ)))
]

-- a document takes its key's old one's place
pub differ-written : (doc : Doc) (docs : List Doc) → KeysDiffer docs → KeysDiffer (erase docs doc.key ++ doc ∷ [])
differ-written doc docs differ =
    let free : doc_of (erase docs doc.key) doc.key ≡ None = doc_of-erase doc.key doc.key docs differ ∙ rw (nat_list_eq_equiv.refl doc.key) refl in
    distinct-push (erase docs doc.key) doc (distinct-erase doc.key docs differ) (free-from-none doc.key (erase docs doc.key) free)

-- ---- documents that are taken out by their ids

-- a document that is found has another key than one that is free
other-key : (key : List ℕ) (test : Doc → Bool) (docs : List Doc) (found : Doc) → find test docs ≡ Some found → IsFree key docs → bytes_eq found.key key ≡ false
other-key key test [] found is free = cc (is)
other-key key test (doc ∷ docs) found is free = by_test (test doc) is (λ later. other-key key test docs found later free.1)
  where
    by_test : (here : Bool) → cond here (Some doc) (find test docs) ≡ Some found → (find test docs ≡ Some found → bytes_eq found.key key ≡ false) → bytes_eq found.key key ≡ false
    by_test true is later = let same : doc ≡ found = cc (is) in subst (λ (d : Doc). bytes_eq d.key key ≡ false) same (nat_list_eq_equiv.symm doc.key key ∙ free.0)
    by_test false is later = later is

-- so one that no other shares its key with stays where another is taken out
apart-found : (doc : Doc) (docs : List Doc) (found : Option Doc) (test : Doc → Bool) → find test docs ≡ found → IsFree doc.key docs → erase_doc (doc ∷ docs) found ≡ doc ∷ erase_doc docs found
apart-found doc docs None test is free = refl
apart-found doc docs (Some found) test is free = rw (other-key doc.key test docs found is free) refl

erase_id-other : (doc : Doc) (docs : List Doc) (id : ℕ) → IsFree doc.key docs → nat_eq id doc.id ≡ false → erase_id (doc ∷ docs) id ≡ doc ∷ erase_id docs id
erase_id-other doc docs id free away = rw away (apart-found doc docs (find (λ (d : Doc). nat_eq id d.id) docs) (λ (d : Doc). nat_eq id d.id) refl free)

erase-first : (doc : Doc) (docs : List Doc) → erase (doc ∷ docs) doc.key ≡ docs
erase-first doc docs = rw (nat_list_eq_equiv.refl doc.key) refl

erase_id-first : (doc : Doc) (docs : List Doc) (id : ℕ) → nat_eq id doc.id ≡ true → erase_id (doc ∷ docs) id ≡ docs
erase_id-first doc docs id here = rw here (erase-first doc docs)

-- where ids rise, all documents but that of the id are left
pub erase_id-without : (low id : ℕ) (docs : List Doc) → RisesAbove low (map (λ (doc : Doc). (doc.id, doc.key)) docs) → KeysDiffer docs → erase_id docs id ≡ without id docs
erase_id-without low id [] rises differ = refl
erase_id-without low id (doc ∷ docs) rises differ = elim (cases_Bool (nat_eq id doc.id)) [
  | inl y ↦
      let below : id ≤ doc.id = grind (arith, nat_tests, y) in
      erase_id-first doc docs id y ∙ rw y (sym (without-below (λ (doc : Doc). doc.key) doc.id id docs rises.1 below))
  | inr n ↦ erase_id-other doc docs id (key-apart doc docs differ) n ∙ rw n (ap (λ rest. doc ∷ rest) (erase_id-without doc.id id docs rises.1 (others-differ doc docs differ)))
]

-- no key is free that a document has among those that are left
free-left : (key : List ℕ) (docs : List Doc) (found : Option Doc) → IsFree key docs → IsFree key (erase_doc docs found)
free-left key docs None free = free
free-left key docs (Some found) free = left docs free
  where
    left : (docs : List Doc) → IsFree key docs → IsFree key (erase docs found.key)
    left [] free = tt
    left (doc ∷ docs) free = elim (cases_Bool (bytes_eq found.key doc.key)) [
      | inl y ↦ rw y free.1
      | inr n ↦ rw n (free.0, left docs free.1)
    ]

-- the document that comes first stays where others go
ids-behind : (doc : Doc) (docs : List Doc) (ids : List ℕ) → IsFree doc.key docs → AllByRecursion (λ id. nat_eq id doc.id ≡ false) ids → fold erase_id (doc ∷ docs) ids ≡ doc ∷ fold erase_id docs ids
ids-behind doc docs [] free away = refl
ids-behind doc docs (id ∷ ids) free away =
    ap (λ (left : List Doc). fold erase_id left ids) (erase_id-other doc docs id free away.0)
    ∙ ids-behind doc (erase_id docs id) ids (free-left doc.key docs (find (λ (d : Doc). nat_eq id d.id) docs) free) away.1

keys-behind : (doc : Doc) (docs : List Doc) (keys : List (List ℕ)) → AllByRecursion (λ key. bytes_eq key doc.key ≡ false) keys → without_keys (doc ∷ docs) keys ≡ doc ∷ without_keys docs keys
keys-behind doc docs [] away = refl
keys-behind doc docs (key ∷ keys) away = rw away.0 (keys-behind doc (erase docs key) keys away.1)

-- the ids and the keys of documents that pass a test, where one comes before them all
ids-away : (id low : ℕ) (test : Doc → Bool) (docs : List Doc) → RisesAbove low (map (λ (doc : Doc). (doc.id, doc.key)) docs) → id ≤ low → AllByRecursion (λ other. nat_eq other id ≡ false) (map (λ (doc : Doc). doc.id) (filter test docs))
ids-away id low test [] rises below = tt
ids-away id low test (doc ∷ docs) rises below =
    let later = ids-away id doc.id test docs rises.1 (omega (arith, rises.0, below)) in
    elim (cases_Bool (test doc)) [
      | inl y ↦ rw y (above-no doc.id id (omega (arith, rises.0, below)), later)
      | inr n ↦ rw n later
    ]

keys-away : (key : List ℕ) (test : Doc → Bool) (docs : List Doc) → IsFree key docs → AllByRecursion (λ other. bytes_eq other key ≡ false) (map (λ (doc : Doc). doc.key) (filter test docs))
keys-away key test [] free = tt
keys-away key test (doc ∷ docs) free = elim (cases_Bool (test doc)) [
  | inl y ↦ rw y (nat_list_eq_equiv.symm doc.key key ∙ free.0, keys-away key test docs free.1)
  | inr n ↦ rw n (keys-away key test docs free.1)
]

-- those of some documents, taken out by their ids, are taken out by their keys
pub ids-keys : (low : ℕ) (test : Doc → Bool) (docs : List Doc) → RisesAbove low (map (λ (doc : Doc). (doc.id, doc.key)) docs) → KeysDiffer docs
    → fold erase_id docs (map (λ (doc : Doc). doc.id) (filter test docs)) ≡ without_keys docs (map (λ (doc : Doc). doc.key) (filter test docs))
ids-keys low test [] rises differ = refl
ids-keys low test (doc ∷ docs) rises differ =
    let free : IsFree doc.key docs = key-apart doc docs differ in
    let others = ids-keys doc.id test docs rises.1 (others-differ doc docs differ) in
    elim (cases_Bool (test doc)) [
      | inl y ↦
          rw y
          (ap (λ (left : List Doc). fold erase_id left (map (λ (d : Doc). d.id) (filter test docs))) (erase_id-first doc docs doc.id (same-yes doc.id))
          ∙ (others ∙ ap (λ (left : List Doc). without_keys left (map (λ (d : Doc). d.key) (filter test docs))) (sym (erase-first doc docs))))
      | inr n ↦
          rw n
          (ids-behind doc docs (map (λ (d : Doc). d.id) (filter test docs)) free (ids-away doc.id doc.id test docs rises.1 (omega arith))
          ∙ (ap (λ (left : List Doc). doc ∷ left) others ∙ sym (keys-behind doc docs (map (λ (d : Doc). d.key) (filter test docs)) (keys-away doc.key test docs free))))
    ]
