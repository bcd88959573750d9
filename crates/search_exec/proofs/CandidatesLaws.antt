-- The ids that are named, and those of them that an iterator has.
use Rattle.std.proofs.Common.{◌≡◌, ◌<◌, ◌≤◌, ℕ, Bool, true, false, ◌&&◌, ◌||◌, List, [], ◌∷◌, length, map, take, get_or, refl, sym, ap, ◌∙◌, subst, inl, inr, arith}
use Rattle.std.specs.Prelude.{Option, None, Some, nat_eq, option_map}
use Rattle.std.specs.Cmp.Lexicographic.{nat_list_eq_equiv}
use Rattle.std.specs.List.{All, AllByRecursion, IsDistinct, cons_option}
use Rattle.std.specs.List.Sorted.{IsNonDecreasing, IsPermutation, IsStrictlyIncreasing, IsStrictlySortedBy}
use Rattle.std.specs.Ordering.{nat_cmp}
use Rattle.std.specs.Str.{bytes_eq}
use Rattle.std.specs.declared.cmp.Ordering.TheVariants.{Less}
use Rattle.std.proofs.lemmas.Bool.{and_parts, cases_Bool, cases_lt, eq-eqb, ne_eqb}
use Rattle.std.proofs.lemmas.Bool.Decides.{nat_tests}
use Rattle.std.proofs.lemmas.List.{get_or-take, get_or_default, length-take}
use Rattle.std.proofs.lemmas.List.Folds.{list_any_at, list_any_none}
use Rattle.std.proofs.lemmas.List.Sorted.{list_any-IsPermutation}
use Rattle.std.proofs.lemmas.Map.Keys.{sorted_from_strictly_increasing, sorted_head, sorted_tail, IsDistinct-head, IsDistinct-tail}
use Rattle.std.proofs.lemmas.Slice.Eq.{bytes_eq-Decides}
use Rattle.ft_base.specs.Space.{doc_of}
use Rattle.ft_base.specs.Docs.{Doc}
use Rattle.ft_machine.specs.Counted.{is_among}
use Rattle.id_iters.specs.Held.{Held}
use Rattle.id_iters.specs.Least.{IsLeast, IsLeastAt, NoneFrom}
use Rattle.id_iters.specs.Sets.{About, living}
use Rattle.search_exec.specs.Candidates.{AreNamed, about_candidates, candidate, ids_with, in_candidates, is_id_of, is_named}
use Rattle.doc_reads.specs.Ids.{docs_in, docs_of}
use Rattle.search_exec.specs.declared.candidates.Candidates.{Candidates}

-- ---- which documents are named

-- the documents of a set whose ids are named are those of the set whose keys are named
pub docs-named : (has : ℕ → Bool) (ids : Option (List ℕ)) (keys : Option (List (List ℕ))) (docs : List Doc) → AreNamed ids keys docs
    → docs_in (λ id. has id && is_named ids id) docs ≡ docs_of keys (docs_in has docs)
docs-named has ids keys [] named = refl
docs-named has ids keys (doc ∷ docs) named =
    let rest : docs_in (λ id. has id && is_named ids id) docs ≡ docs_of keys (docs_in has docs) = docs-named has ids keys docs (record { each = named.each.1 }) in
    let first : is_named ids doc.id ≡ is_among keys doc.key = named.each.0 in
    elim (cases_Bool (has doc.id)) [
      | inl here ↦
          elim (cases_Bool (is_among keys doc.key)) [
            | inl among ↦ rw (here, first, among, rest) refl
            | inr left ↦ rw (here, first, left) rest
          ]
      | inr away ↦ rw away rest
    ]

-- the ids and the keys of documents
abbrev ids_of : List Doc → List ℕ
ids_of docs = map (λ (doc : Doc). doc.id) docs

abbrev keys_of : List Doc → List (List ℕ)
keys_of docs = map (λ (doc : Doc). doc.key) docs

-- the id of a key's document
abbrev id_with : List Doc → List ℕ → Option ℕ
id_with docs key = option_map (λ (doc : Doc). doc.id) (doc_of docs key)

-- whether an answer is an id
abbrev answers : Option ℕ → ℕ → Bool
answers None id = false
answers (Some n) id = nat_eq id n

-- all ids are above a number
abbrev Above : ℕ → List Doc → Type 0
Above low docs = AllByRecursion (λ id. nat_cmp low id ≡ Less) (ids_of docs)

-- the ids rise
abbrev Rises : List Doc → Type 0
Rises docs = IsStrictlySortedBy nat_cmp (ids_of docs)

-- the keys differ
abbrev Differ : List Doc → Type 0
Differ docs = IsDistinct bytes_eq (keys_of docs)

-- documents with higher ids don't answer a lower one
not-below : (low : ℕ) (docs : List Doc) (key : List ℕ) → Above low docs → answers (id_with docs key) low ≡ false
not-below low [] key above = refl
not-below low (doc ∷ docs) key above =
    elim (cases_Bool (bytes_eq key doc.key)) [
      | inl same ↦
          let less : nat_cmp low doc.id ≡ Less = above.0 in
          let over : low < doc.id = grind (arith, nat_tests) in
          rw same (grind (arith, nat_tests))
      | inr differ ↦ rw differ (not-below low docs key above.1)
    ]

-- bytes that differ do so the other way round
turned : (key other : List ℕ) → bytes_eq key other ≡ false → bytes_eq other key ≡ false
turned key other differ = nat_list_eq_equiv.symm other key ∙ differ

-- where a key is that of a document, its id is not that of others, nor is their key this one
others-differ : (key : List ℕ) (id : ℕ) (docs : List Doc) → Above id docs → AllByRecursion (λ other. bytes_eq key other ≡ false) (keys_of docs)
    → AllByRecursion (λ (doc : Doc). nat_eq doc.id id ≡ bytes_eq doc.key key) docs
others-differ key id [] above apart = tt
others-differ key id (doc ∷ docs) above apart =
    let less : nat_cmp id doc.id ≡ Less = above.0 in
    let over : id < doc.id = grind (arith, nat_tests) in
    let away : nat_eq doc.id id ≡ false = grind (arith, nat_tests) in
    (away ∙ sym (turned key doc.key apart.0), others-differ key id docs above.1 apart.1)

-- each of some documents answers by its id exactly where a key is its own
abbrev Answer : Option ℕ → List ℕ → List Doc → Type 0
Answer answer key docs = AllByRecursion (λ (doc : Doc). answers answer doc.id ≡ bytes_eq doc.key key) docs

-- each document answers a key by its id exactly where the key is its own
one-key : (key : List ℕ) (docs : List Doc) → Rises docs → Differ docs → Answer (id_with docs key) key docs
one-key key [] rise apart = tt
one-key key (doc ∷ docs) rise apart =
    let above : Above doc.id docs = sorted_head nat_cmp doc.id (ids_of docs) rise in
    let others : AllByRecursion (λ other. bytes_eq doc.key other ≡ false) (keys_of docs) = IsDistinct-head bytes_eq doc.key (keys_of docs) apart in
    elim (cases_Bool (bytes_eq key doc.key)) [
      | inl same ↦
          let found : id_with (doc ∷ docs) key ≡ Some doc.id = rw same refl in
          let is : key ≡ doc.key = (bytes_eq-Decides key doc.key).0 same in
          let own : nat_eq doc.id doc.id ≡ bytes_eq doc.key key = eq-eqb doc.id doc.id refl ∙ sym (nat_list_eq_equiv.symm doc.key key ∙ same) in
          let rest : Answer (Some doc.id) key docs = subst (λ (key : List ℕ). Answer (Some doc.id) key docs) (sym is) (others-differ doc.key doc.id docs above others) in
          let all : Answer (Some doc.id) key (doc ∷ docs) = (own, rest) in
          subst (λ (answer : Option ℕ). Answer answer key (doc ∷ docs)) (sym found) all
      | inr differ ↦
          let found : id_with (doc ∷ docs) key ≡ id_with docs key = rw differ refl in
          let later : Answer (id_with docs key) key docs = one-key key docs (sorted_tail nat_cmp doc.id (ids_of docs) rise) (IsDistinct-tail bytes_eq doc.key (keys_of docs) apart) in
          let all : Answer (id_with docs key) key (doc ∷ docs) = (not-below doc.id docs key above ∙ sym (turned key doc.key differ), later) in
          subst (λ (answer : Option ℕ). Answer answer key (doc ∷ docs)) (sym found) all
    ]

-- two facts of each of some documents make a third
both : {P Q R : Doc → Type 0} → ((doc : Doc) → P doc → Q doc → R doc) → (docs : List Doc) → AllByRecursion P docs → AllByRecursion Q docs → AllByRecursion R docs
both step [] ps qs = tt
both step (doc ∷ docs) ps qs = (step doc ps.0 qs.0, both step docs ps.1 qs.1)

-- a fact of every document is one of each of some
each-one : {P : Doc → Type 0} → ((doc : Doc) → P doc) → (docs : List Doc) → AllByRecursion P docs
each-one fact [] = tt
each-one fact (doc ∷ docs) = (fact doc, each-one fact docs)

-- an answer in front of ids
in-front : (answer : Option ℕ) (ids : List ℕ) (id : ℕ) → is_id_of (cons_option answer ids) id ≡ (answers answer id || is_id_of ids id)
in-front None ids id = refl
in-front (Some n) ids id = refl

-- the id of each document is among those of some keys exactly where its key is among these
with-keys : (docs : List Doc) (keys : List (List ℕ)) → Rises docs → Differ docs → AllByRecursion (λ (doc : Doc). is_id_of (ids_with docs keys) doc.id ≡ is_among (Some keys) doc.key) docs
with-keys docs [] rise apart = each-one (λ doc. refl) docs
with-keys docs (key ∷ keys) rise apart =
    both
    (λ (doc : Doc) (one : answers (id_with docs key) doc.id ≡ bytes_eq doc.key key) (others : is_id_of (ids_with docs keys) doc.id ≡ is_among (Some keys) doc.key).
    in-front (id_with docs key) (ids_with docs keys) doc.id ∙ (ap (λ (b : Bool). b || is_id_of (ids_with docs keys) doc.id) one ∙ ap (λ (b : Bool). bytes_eq doc.key key || b) others))
    docs (one-key key docs rise apart) (with-keys docs keys rise apart)

-- The ids of the documents with some keys, in another order, are named.
pub keys-named : (found ids : List ℕ) (keys : List (List ℕ)) (docs : List Doc) → IsStrictlyIncreasing (map (λ (doc : Doc). doc.id) docs) → IsDistinct bytes_eq (map (λ (doc : Doc). doc.key) docs)
    → found ≡ ids_with docs keys → IsPermutation found ids → AreNamed (Some ids) (Some keys) docs
keys-named found ids keys docs rise apart same order =
    let moved : (id : ℕ) → is_id_of ids id ≡ is_id_of (ids_with docs keys) id = λ id. sym (list_any-IsPermutation (nat_eq id) found ids order) ∙ ap (λ (ids : List ℕ). is_id_of ids id) same in
    record {
      each = both (λ (doc : Doc) (one : is_id_of ids doc.id ≡ is_id_of (ids_with docs keys) doc.id) (two : is_id_of (ids_with docs keys) doc.id ≡ is_among (Some keys) doc.key). one ∙ two) docs
          (each-one (λ doc. moved doc.id) docs)
          (with-keys docs keys (sorted_from_strictly_increasing (ids_of docs) rise) apart);
    }

-- ---- the next id that is named

-- the ids that lie behind are below
below-at : (ids : List ℕ) (behind from k d : ℕ) → All (λ id. id < from) (take behind ids) → k < behind → k < length ids → get_or ids k d < from
below-at ids behind from k d below before within =
    let there : k < length (take behind ids) = omega (arith, length-take behind ids) in
    subst (λ id. id < from) (get_or-take behind ids k d before) (below k d there)

-- the first id that doesn't lie behind is the next
pub next-named : (ids : List ℕ) (behind from id : ℕ) → IsNonDecreasing ids → All (λ id. id < from) (take behind ids) → behind < length ids → id ≡ get_or ids behind id → from ≤ id → IsLeastAt (is_id_of ids) from id
next-named ids behind from id rise below within at reached = record {
  reached = reached;
  passes = list_any_at (nat_eq id) ids behind id within (eq-eqb id (get_or ids behind id) at);
  below = record {
    fails = λ n low high.
        list_any_none (nat_eq n) ids
        (λ k d here.
        elim (cases_lt k behind) [
          | inl before ↦ let under : get_or ids k d < from = below-at ids behind from k d below before here in ne_eqb n (get_or ids k d) (λ same. absurd (omega (arith, under, low, same)))
          | inr after ↦
              let over : get_or ids behind d ≤ get_or ids k d = rise behind k d after here in
              let same-place : get_or ids behind id ≡ get_or ids behind d = get_or_default ids behind id d within in
              ne_eqb n (get_or ids k d) (λ same. absurd (omega (arith, over, same-place, at, high, same)))
        ]);
  };
}

-- where all lie behind, none is left
pub none-named : (ids : List ℕ) (behind from : ℕ) → All (λ id. id < from) (take behind ids) → length ids ≤ behind → NoneFrom (is_id_of ids) from
none-named ids behind from below all = record {
  fails = λ n low.
      list_any_none (nat_eq n) ids
      (λ k d here.
      let under : get_or ids k d < from = below-at ids behind from k d below (omega (arith, here, all)) here in
      ne_eqb n (get_or ids k d) (λ same. absurd (omega (arith, under, low, same))));
}

-- an id of candidates is live
pub live-candidate : (held : Held) (candidates : Candidates) (id : ℕ) → in_candidates held candidates id ≡ true → held.live id ≡ true
live-candidate held candidates id has_it =
    let part : About × Option (List ℕ) = about_candidates held candidates in
    let lives = (and_parts (living held.live part.0 id) (is_named part.1 id) has_it).0 in
    (and_parts (held.live id) (part.0.has id) lives).0

-- an answer of candidates that were asked is one of those that they were
pub answer-same : (held : Held) (first now : Candidates) (from : ℕ) (said answer : Option ℕ) → about_candidates held now ≡ about_candidates held first → said ≡ answer
    → IsLeast (in_candidates held now) from said → IsLeast (in_candidates held first) from answer
answer-same held first now from said answer same is least =
    subst (λ (answer : Option ℕ). IsLeast (in_candidates held first) from answer) is
    (subst (λ (part : About × Option (List ℕ)). IsLeast (candidate held.live part) from said) same least)

pub least-next : (held : Held) (first now : Candidates) (from id : ℕ) (said : Option ℕ) → about_candidates held now ≡ about_candidates held first → said ≡ Some id
    → IsLeast (in_candidates held now) from said → IsLeastAt (in_candidates held first) from id
least-next held first now from id said same is least = answer-same held first now from said (Some id) same is least
