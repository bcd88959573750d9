-- A set of ids, asked for the least from a number on: each answer is the id of the next document, and all are answered.
use Rattle.std.proofs.Common.{◌≡◌, ◌<◌, ◌≤◌, ◌+◌, ℕ, Bool, true, false, ◌&&◌, List, [], ◌∷◌, ◌++◌, map, filter, refl, sym, ap, ◌∙◌, subst, inl, inr, arith, append-nil, append_assoc}
use Rattle.std.specs.Prelude.{Option, None, Some, IsSome, nat_eq, nat_le}
use Rattle.std.specs.List.{AllByRecursion}
use Rattle.std.specs.List.Sorted.{IsStrictlyIncreasing, IsStrictlySortedBy}
use Rattle.std.specs.Ordering.{nat_cmp}
use Rattle.std.specs.declared.cmp.Ordering.TheVariants.{Less}
use Rattle.std.proofs.Math.Bool.{and-false}
use Rattle.std.proofs.lemmas.Bool.{cases_Bool, and_parts, and_right, eqb-true, false≢true, leb-true, le-leb, lt-leb}
use Rattle.std.proofs.lemmas.Bool.Decides.{nat_tests}
use Rattle.std.proofs.lemmas.Map.Keys.{sorted_from_strictly_increasing, sorted_head, sorted_tail}
use Rattle.ft_base.specs.Docs.{Doc}
use Rattle.hash_store.specs.Store.{Store, reads_after}
use Rattle.id_iters.specs.Held.{Held}
use Rattle.id_iters.specs.Least.{IsLeast, IsLeastAt, NoneFrom}
use Rattle.id_iters.specs.Sets.{About, about, in_set, living}
use Rattle.id_iters.specs.declared.iter.Iter.{Iter}
use Rattle.doc_reads.specs.Ids.{doc_at, docs_in}

abbrev pub ids : List Doc → List ℕ
ids docs = map (λ (doc : Doc). doc.id) docs

-- the documents whose ids a set has, from a number on
abbrev pub docs_from : ℕ → (ℕ → Bool) → List Doc → List Doc
docs_from from has docs = filter (λ (doc : Doc). nat_le from doc.id && has doc.id) docs

-- a document is passed over where its id fails wherever it is asked for
missed : (from id : ℕ) (has : ℕ → Bool) → (from ≤ id → has id ≡ false) → (nat_le from id && has id) ≡ false
missed from id has fails =
    elim (cases_Bool (nat_le from id)) [
      | inl here ↦ and_right (nat_le from id) (has id) (fails (leb-true from id here))
      | inr away ↦ rw away refl
    ]

-- where all ids are above a number, it does not matter from where below they are asked for
same-above : (from to low : ℕ) (has : ℕ → Bool) (docs : List Doc) → from ≤ low + 1 → to ≤ low + 1 → AllByRecursion (λ id. nat_cmp low id ≡ Less) (ids docs) → docs_from from has docs ≡ docs_from to has docs
same-above from to low has [] under below less = refl
same-above from to low has (doc ∷ docs) under below less =
    let first : nat_cmp low doc.id ≡ Less = less.0 in
    let over : low < doc.id = grind (arith, nat_tests) in
    rw (le-leb from doc.id (omega (arith, over)), le-leb to doc.id (omega (arith, over)), same-above from to low has docs under below less.1) refl

-- a document that is found has an id above
at-above : (low n : ℕ) (docs : List Doc) (doc : Doc) → AllByRecursion (λ id. nat_cmp low id ≡ Less) (ids docs) → doc_at n docs ≡ Some doc → low < n
at-above low n [] doc less found = cc (found)
at-above low n (d ∷ docs) doc less found =
    elim (cases_Bool (nat_eq n d.id)) [
      | inl here ↦
          let first : nat_cmp low d.id ≡ Less = less.0 in
          let over : low < d.id = grind (arith, nat_tests) in
          omega (arith, over, eqb-true n d.id here)
      | inr away ↦ at-above low n docs doc less.1 (rw away at found)
    ]

pub next : (from n : ℕ) (has : ℕ → Bool) (docs : List Doc) (doc : Doc) → IsStrictlySortedBy nat_cmp (ids docs) → doc_at n docs ≡ Some doc → IsLeastAt has from n
    → docs_from from has docs ≡ doc ∷ docs_from (n + 1) has docs
next from n has [] doc rise found least = cc (found)
next from n has (d ∷ docs) doc rise found least =
    let above : AllByRecursion (λ id. nat_cmp d.id id ≡ Less) (ids docs) = sorted_head nat_cmp d.id (ids docs) rise in
    elim (cases_Bool (nat_eq n d.id)) [
      | inl here ↦
          let said : ◌≡◌ {A = Option Doc} (Some d) (Some doc) = rw here at found in
          let same : d ≡ doc = cc (said) in
          let id : n ≡ d.id = eqb-true n d.id here in
          let has_it : has d.id ≡ true = ap has (sym id) ∙ least.passes in
          let first : docs_from from has (d ∷ docs) ≡ d ∷ docs_from (n + 1) has (d ∷ docs) =
          rw (
            le-leb from d.id (omega (arith, id, least.reached)),
            has_it,
            lt-leb (n + 1) d.id (omega (arith, id)),
            same-above from (n + 1) d.id has docs (omega (arith, id, least.reached)) (omega (arith, id)) above,
          ) refl in
          first ∙ ap (λ (x : Doc). x ∷ docs_from (n + 1) has (d ∷ docs)) same
      | inr away ↦
          let later : doc_at n docs ≡ Some doc = rw away at found in
          let under : d.id < n = at-above d.id n docs doc above later in
          rw (missed from d.id has (λ reached. least.below.fails d.id reached under), lt-leb (n + 1) d.id (omega (arith, under)))
          (next from n has docs doc (sorted_tail nat_cmp d.id (ids docs) rise) later least)
    ]

-- where no id is answered, no document is left
pub none-left : (from : ℕ) (has : ℕ → Bool) (docs : List Doc) → NoneFrom has from → docs_from from has docs ≡ []
none-left from has [] none = refl
none-left from has (doc ∷ docs) none = rw (missed from doc.id has (none.fails doc.id)) (none-left from has docs none)

-- an id that an iterator has live is live
pub live-first : (held : Held) (iter : Iter) (id : ℕ) → in_set held iter id ≡ true → held.live id ≡ true
live-first held iter id has_it = (and_parts (held.live id) ((about held iter).has id) has_it).0

-- What is told of the documents of the ids that were answered, and that these with those of the ids from a number on are all.
pub record IsAsked (told : List Doc → Type 0) (has : ℕ → Bool) (docs : List Doc) (from : ℕ) : Type 0 where
  pub so_far : List Doc
  pub holds : told so_far
  pub whole : docs_in has docs ≡ so_far ++ docs_from from has docs

-- all documents of a set have ids from 1 on, if its ids are
all-from : (has : ℕ → Bool) (docs : List Doc) → ((id : ℕ) → has id ≡ true → 1 ≤ id) → docs_in has docs ≡ docs_from 1 has docs
all-from has [] above = refl
all-from has (doc ∷ docs) above =
    elim (cases_Bool (has doc.id)) [
      | inl here ↦ rw (here, le-leb 1 doc.id (above doc.id here), all-from has docs above) refl
      | inr away ↦ rw (away, and-false (nat_le 1 doc.id), all-from has docs above) refl
    ]

-- at first no id is answered
pub asked-none : (told : List Doc → Type 0) (has : ℕ → Bool) (docs : List Doc) → ((id : ℕ) → has id ≡ true → 1 ≤ id) → told [] → IsAsked told has docs 1
asked-none told has docs above none = record {
  so_far = [];
  holds = none;
  whole = all-from has docs above;
}

-- an id is answered
pub asked-next : (told more : List Doc → Type 0) (has : ℕ → Bool) (docs : List Doc) (from n : ℕ) → IsStrictlyIncreasing (ids docs) → IsLeastAt has from n → IsSome (doc_at n docs)
    → ((shown : List Doc) (doc : Doc) → doc_at n docs ≡ Some doc → told shown → more (shown ++ doc ∷ [])) → IsAsked told has docs from → IsAsked more has docs (n + 1)
asked-next told more has docs from n rise least stored noted asked = pick (doc_at n docs) refl stored
  where
    pick : (at : Option Doc) → doc_at n docs ≡ at → IsSome at → IsAsked more has docs (n + 1)
    pick None is some = absurd (false≢true some)
    pick (Some doc) is some = record {
      so_far = asked.so_far ++ doc ∷ [];
      holds = noted asked.so_far doc is asked.holds;
      whole =
          asked.whole
          ∙ (ap (λ (rest : List Doc). asked.so_far ++ rest) (next from n has docs doc (sorted_from_strictly_increasing (ids docs) rise) is least)
          ∙ sym (append_assoc asked.so_far (doc ∷ []) (docs_from (n + 1) has docs)));
    }

-- no id is left
pub asked-ended : (told : List Doc → Type 0) (has : ℕ → Bool) (docs : List Doc) (from : ℕ) → NoneFrom has from → IsAsked told has docs from → told (docs_in has docs)
asked-ended told has docs from none asked =
    let whole = asked.whole ∙ (ap (λ (rest : List Doc). asked.so_far ++ rest) (none-left from has docs none) ∙ append-nil asked.so_far) in
    subst told (sym whole) asked.holds

-- an answer of an iterator that was asked is one of what it was
pub iter-same : (held : Held) (first now : Iter) (from : ℕ) (said answer : Option ℕ) → about held now ≡ about held first → said ≡ answer → IsLeast (in_set held now) from said
    → IsLeast (in_set held first) from answer
iter-same held first now from said answer same is least =
    subst (λ (answer : Option ℕ). IsLeast (in_set held first) from answer) is (subst (λ (part : About). IsLeast (living held.live part) from said) same least)

-- ---- the store that is read on the way

-- only documents were read, and then more
pub read-on : (first old new : Store) (reads : ℕ) → old ≡ record first { reads = old.reads } → new ≡ record old { reads = reads } → new ≡ record first { reads = new.reads }
read-on first old new reads was next = next ∙ λ i. record (was i) { reads = sym (ap (λ (store : Store). store.reads) next) i }

-- so many were read, and then so many more
pub read-more : (first old new : Store) (some more : ℕ) → old ≡ record first { reads = reads_after first.reads some } → new ≡ record old { reads = reads_after old.reads more }
    → new ≡ record first { reads = reads_after first.reads (some + more) }
read-more first old new some more was next =
    let both : reads_after (reads_after first.reads some) more ≡ reads_after first.reads (some + more) = omega arith in
    next ∙ ((λ i. record (was i) { reads = reads_after ((was i).reads) more }) ∙ ap (λ (reads : ℕ). record first { reads = reads }) both)

-- what is found at first is found
pub found-still : (first old : Store) (reads id : ℕ) (doc : Doc) → old ≡ record first { reads = reads } → doc_at id first.space ≡ Some doc → doc_at id old.space ≡ Some doc
found-still first old reads id doc was found = ap (λ (store : Store). doc_at id store.space) was ∙ found
