-- What an index knows of its documents is what a search by an iterator asks for, and what the iterator finds is what
-- the query finds.
use Rattle.std.proofs.Common.{◌≡◌, ◌<◌, ℕ, Bool, true, false, ◌&&◌, List, [], ◌∷◌, map, filter, refl, sym, ap, ◌∙◌, subst, inl, inr, arith}
use Rattle.std.specs.Prelude.{ℤ, Option, None, Some, IsSome, is_some, nat_eq}
use Rattle.std.specs.List.{AllByRecursion, list_any}
use Rattle.std.specs.List.Sorted.{IsStrictlyIncreasing, IsStrictlySortedBy}
use Rattle.std.specs.Map.{lookup}
use Rattle.std.specs.Option.{option_map}
use Rattle.std.specs.Ordering.{nat_cmp}
use Rattle.std.specs.declared.cmp.Ordering.TheVariants.{Less}
use Rattle.std.proofs.lemmas.Bool.{cases_Bool, false≢true, eqb-true, eq-eqb}
use Rattle.std.proofs.lemmas.Bool.Decides.{nat_tests}
use Rattle.std.proofs.lemmas.Map.Keys.{sorted_from_strictly_increasing, sorted_head, sorted_tail}
use Rattle.ft_base.specs.declared.definition.IndexDef.{IndexDef}
use Rattle.ft_base.specs.Docs.{Doc}
use Rattle.ft_base.specs.declared.query.Query.{Query}
use Rattle.ft_meaning.specs.Holds.{found_of, holds}
use Rattle.ft_meaning.specs.Member.{member, members}
use Rattle.ft_meaning.specs.Sortable.{number_at, sorting_vector}
use Rattle.id_iters.specs.Held.{Held}
use Rattle.id_iters.specs.Sets.{in_set}
use Rattle.id_iters.specs.declared.iter.Iter.{Iter}
use Rattle.doc_reads.proofs.AskLaws.{live-first}
use Rattle.doc_reads.specs.Ids.{AreKnown, AreNumbered, doc_at, docs_in}

abbrev ids : List Doc → List ℕ
ids docs = map (λ (doc : Doc). doc.id) docs

-- whether one of the documents has an id
abbrev has_doc : List Doc → ℕ → Bool
has_doc docs id = list_any (λ (doc : Doc). nat_eq id doc.id) docs

eq-no : (a b : ℕ) → a < b → nat_eq a b ≡ false
eq-no a b h = grind (arith, nat_tests)

eq-past : (a b : ℕ) → b < a → nat_eq a b ≡ false
eq-past a b h = grind (arith, nat_tests)

-- a document has an id and passes a test: one of those that pass has the id
any-filter : (test keep : Doc → Bool) (docs : List Doc) → list_any (λ (doc : Doc). test doc && keep doc) docs ≡ list_any test (filter keep docs)
any-filter test keep [] = refl
any-filter test keep (doc ∷ docs) =
    elim (cases_Bool (keep doc)) [
      | inl kept ↦ rw (kept, any-filter test keep docs) (elim (cases_Bool (test doc)) [ inl passes ↦ rw passes refl | inr fails ↦ rw fails refl ])
      | inr out ↦ rw (out, any-filter test keep docs) (elim (cases_Bool (test doc)) [ inl passes ↦ rw passes refl | inr fails ↦ rw fails refl ])
    ]

-- A document has an id and meets a query: one of those that meet it has the id.
pub found-any : (query : Query) (def : IndexDef) (docs : List Doc) (id : ℕ)
    → list_any (λ (doc : Doc). nat_eq id doc.id && holds query def doc) docs ≡ list_any (λ (doc : Doc). nat_eq id doc.id) (filter (holds query def) docs)
found-any query def docs id = any-filter (λ (doc : Doc). nat_eq id doc.id) (holds query def) docs

-- those of the ones that pass a test that pass another
filter-both : (first second : Doc → Bool) (docs : List Doc) → filter second (filter first docs) ≡ filter (λ (doc : Doc). first doc && second doc) docs
filter-both first second [] = refl
filter-both first second (doc ∷ docs) =
    elim (cases_Bool (first doc)) [
      | inl passes ↦ rw (passes, filter-both first second docs) refl
      | inr fails ↦ rw (fails, filter-both first second docs) refl
    ]

-- no document that passes has an id below all
none-above : (low id : ℕ) (keep : Doc → Bool) (docs : List Doc) → id ≡ low → AllByRecursion (λ id. nat_cmp low id ≡ Less) (ids docs) → has_doc (filter keep docs) id ≡ false
none-above low id keep [] same less = refl
none-above low id keep (doc ∷ docs) same less =
    let first : nat_cmp low doc.id ≡ Less = less.0 in
    let over : low < doc.id = grind (arith, nat_tests) in
    let others = none-above low id keep docs same less.1 in
    elim (cases_Bool (keep doc)) [
      | inl kept ↦ rw (kept, eq-no id doc.id (omega (arith, over))) others
      | inr out ↦ rw out others
    ]

-- the first document has its id, if it passes
own : (keep : Doc → Bool) (doc : Doc) (docs : List Doc) → IsStrictlySortedBy nat_cmp (ids (doc ∷ docs)) → has_doc (filter keep (doc ∷ docs)) doc.id ≡ keep doc
own keep doc docs rise =
    elim (cases_Bool (keep doc)) [
      | inl kept ↦ rw (kept, eq-eqb doc.id doc.id refl) refl
      | inr out ↦ rw out (none-above doc.id doc.id keep docs refl (sorted_head nat_cmp doc.id (ids docs) rise))
    ]

-- an id above the first one is that of another document
other : (keep : Doc → Bool) (doc : Doc) (docs : List Doc) (id : ℕ) → doc.id < id → has_doc (filter keep (doc ∷ docs)) id ≡ has_doc (filter keep docs) id
other keep doc docs id over =
    elim (cases_Bool (keep doc)) [
      | inl kept ↦ rw (kept, eq-past id doc.id over) refl
      | inr out ↦ rw out refl
    ]

abbrev cons_if : Bool → Doc → List Doc → List Doc
cons_if true doc docs = doc ∷ docs
cons_if false doc docs = docs

filter-cons : (keep : Doc → Bool) (doc : Doc) (docs : List Doc) → filter keep (doc ∷ docs) ≡ cons_if (keep doc) doc (filter keep docs)
filter-cons keep doc docs = elim (cases_Bool (keep doc)) [ inl kept ↦ rw kept refl | inr out ↦ rw out refl ]

-- a set that has the ids of those that pass, from a number on
same-above : (low : ℕ) (keep : Doc → Bool) (has : ℕ → Bool) (docs : List Doc) → IsStrictlySortedBy nat_cmp (ids docs) → AllByRecursion (λ id. nat_cmp low id ≡ Less) (ids docs)
    → ((id : ℕ) → low < id → has id ≡ has_doc (filter keep docs) id) → docs_in has docs ≡ filter keep docs
same-above low keep has [] rise less set = refl
same-above low keep has (doc ∷ docs) rise less set =
    let first : nat_cmp low doc.id ≡ Less = less.0 in
    let over : low < doc.id = grind (arith, nat_tests) in
    let here : has doc.id ≡ keep doc = set doc.id over ∙ own keep doc docs rise in
    let others : docs_in has docs ≡ filter keep docs =
    same-above doc.id keep has docs (sorted_tail nat_cmp doc.id (ids docs) rise) (sorted_head nat_cmp doc.id (ids docs) rise)
    (λ id above. set id (omega (arith, over, above)) ∙ other keep doc docs id above) in
    filter-cons (λ (doc : Doc). has doc.id) doc docs ∙ (ap (λ (kept : Bool). cons_if kept doc (docs_in has docs)) here
    ∙ (ap (λ (rest : List Doc). cons_if (keep doc) doc rest) others ∙ sym (filter-cons keep doc docs)))

-- A set that has the ids of the documents that pass a test finds these, where ids rise.
pub docs-kept : (keep : Doc → Bool) (has : ℕ → Bool) (docs : List Doc) → IsStrictlyIncreasing (map (λ (doc : Doc). doc.id) docs)
    → ((id : ℕ) → has id ≡ list_any (λ (doc : Doc). nat_eq id doc.id) (filter keep docs)) → docs_in has docs ≡ filter keep docs
docs-kept keep has [] rise set = refl
docs-kept keep has (doc ∷ docs) rise set =
    let sorted = sorted_from_strictly_increasing (ids (doc ∷ docs)) rise in
    let here : has doc.id ≡ keep doc = set doc.id ∙ own keep doc docs sorted in
    let others : docs_in has docs ≡ filter keep docs =
    same-above doc.id keep has docs (sorted_tail nat_cmp doc.id (ids docs) sorted) (sorted_head nat_cmp doc.id (ids docs) sorted) (λ id above. set id ∙ other keep doc docs id above) in
    filter-cons (λ (doc : Doc). has doc.id) doc docs ∙ (ap (λ (kept : Bool). cons_if kept doc (docs_in has docs)) here
    ∙ (ap (λ (rest : List Doc). cons_if (keep doc) doc rest) others ∙ sym (filter-cons keep doc docs)))

-- A set that has the ids of the members that meet a query finds what the query finds, where ids rise.
pub docs-found : (query : Query) (def : IndexDef) (has : ℕ → Bool) (docs : List Doc) → IsStrictlyIncreasing (map (λ (doc : Doc). doc.id) docs)
    → ((id : ℕ) → has id ≡ list_any (λ (doc : Doc). nat_eq id doc.id && holds query def doc) (members def docs)) → docs_in has docs ≡ found_of query def docs
docs-found query def has docs rise set =
    let keep = λ (doc : Doc). member def doc && holds query def doc in
    docs-kept keep has docs rise
    (λ id. set id ∙ (found-any query def (members def docs) id ∙ ap (λ (found : List Doc). has_doc found id) (filter-both (member def) (holds query def) docs)))
    ∙ sym (filter-both (member def) (holds query def) docs)

-- ---- what an index knows of its documents, by their ids

module _ {V : Type 0} (of : Doc → V) where
  -- documents as rows of ids and what is known of them
  abbrev rows_of : List Doc → List (ℕ × V)
  rows_of docs = map (λ (doc : Doc). (doc.id, of doc)) docs

  -- no row of those that pass has an id below all
  no-row : (low id : ℕ) (keep : Doc → Bool) (docs : List Doc) → id ≡ low → AllByRecursion (λ id. nat_cmp low id ≡ Less) (ids docs) → lookup (nat_eq id) (rows_of (filter keep docs)) ≡ None
  no-row low id keep [] same less = refl
  no-row low id keep (doc ∷ docs) same less =
      let first : nat_cmp low doc.id ≡ Less = less.0 in
      let over : low < doc.id = grind (arith, nat_tests) in
      let others = no-row low id keep docs same less.1 in
      elim (cases_Bool (keep doc)) [
        | inl kept ↦ rw (kept, eq-no id doc.id (omega (arith, over))) others
        | inr out ↦ rw out others
      ]

  -- where the rows of those that pass have an id, they have what is known of its document
  row-of : (keep : Doc → Bool) (docs : List Doc) (id : ℕ) → IsStrictlySortedBy nat_cmp (ids docs) → IsSome (lookup (nat_eq id) (rows_of (filter keep docs)))
      → lookup (nat_eq id) (rows_of (filter keep docs)) ≡ option_map of (doc_at id docs)
  row-of keep [] id rise some = refl
  row-of keep (doc ∷ docs) id rise some =
      elim (cases_Bool (nat_eq id doc.id)) [
        | inl here ↦
            elim (cases_Bool (keep doc)) [
              | inl kept ↦ rw (kept, here) refl
              | inr out ↦
                  let gone : lookup (nat_eq id) (rows_of (filter keep docs)) ≡ None = no-row doc.id id keep docs (eqb-true id doc.id here) (sorted_head nat_cmp doc.id (ids docs) rise) in
                  let left : IsSome (lookup (nat_eq id) (rows_of (filter keep docs))) = rw out at some in
                  absurd (false≢true (subst (λ (row : Option V). IsSome row) gone left))
            ]
        | inr away ↦
            elim (cases_Bool (keep doc)) [
              | inl kept ↦ rw (kept, away) (row-of keep docs id (sorted_tail nat_cmp doc.id (ids docs) rise) (rw (kept, away) at some))
              | inr out ↦ rw (out, away) (row-of keep docs id (sorted_tail nat_cmp doc.id (ids docs) rise) (rw out at some))
            ]
      ]

  some-inside : (found : Option Doc) → IsSome (option_map of found) → IsSome found
  some-inside None some = some
  some-inside (Some doc) some = refl

  -- what the rows of an index's members have at an id of an iterator, whose ids are live
  member-row : (held : Held) (iter : Iter) (rows : List (ℕ × V)) (def : IndexDef) (docs : List Doc) → IsStrictlyIncreasing (map (λ (doc : Doc). doc.id) docs)
      → rows ≡ map (λ (doc : Doc). (doc.id, of doc)) (members def docs) → ((id : ℕ) → held.live id ≡ true → is_some (lookup (nat_eq id) rows) ≡ true)
      → (id : ℕ) → in_set held iter id ≡ true → lookup (nat_eq id) rows ≡ option_map of (doc_at id docs)
  member-row held iter rows def docs rise are live id has_it =
      let some : IsSome (lookup (nat_eq id) (rows_of (members def docs))) = subst (λ (rows : List (ℕ × V)). IsSome (lookup (nat_eq id) rows)) are (live id (live-first held iter id has_it)) in
      ap (λ (rows : List (ℕ × V)). lookup (nat_eq id) rows) are ∙ row-of (member def) docs id (sorted_from_strictly_increasing (ids docs) rise) some

  -- Where the live rows of an index are those of its members, an iterator has ids of documents that are known.
  pub members-known : (held : Held) (iter : Iter) (rows : List (ℕ × V)) (def : IndexDef) (docs : List Doc) → IsStrictlyIncreasing (map (λ (doc : Doc). doc.id) docs)
      → rows ≡ map (λ (doc : Doc). (doc.id, of doc)) (members def docs) → ((id : ℕ) → held.live id ≡ true → is_some (lookup (nat_eq id) rows) ≡ true)
      → AreKnown (in_set held iter) docs
  members-known held iter rows def docs rise are live = record {
    stored =
        λ id has_it.
        some-inside (doc_at id docs) (subst (λ (row : Option V). IsSome row) (member-row held iter rows def docs rise are live id has_it) (live id (live-first held iter id has_it)));
  }

-- Where the live rows of an index have the sorting vectors of its members, the numbers in them are those of the documents of an
-- iterator.
pub members-numbered : (held : Held) (iter : Iter) (rows : List (ℕ × List (Option ℤ))) (numbers : ℕ → ℕ → Option ℤ) (def : IndexDef) (docs : List Doc)
    → IsStrictlyIncreasing (map (λ (doc : Doc). doc.id) docs) → rows ≡ map (λ (doc : Doc). (doc.id, sorting_vector def doc)) (members def docs)
    → ((id : ℕ) → held.live id ≡ true → is_some (lookup (nat_eq id) rows) ≡ true)
    → ((id column : ℕ) (vector : List (Option ℤ)) → lookup (nat_eq id) rows ≡ Some vector → numbers id column ≡ number_at vector column)
    → AreNumbered (in_set held iter) numbers def docs
members-numbered held iter rows numbers def docs rise are live told = record {
  kept =
      λ id column doc has_it found.
      told id column (sorting_vector def doc)
      (member-row (sorting_vector def) held iter rows def docs rise are live id has_it ∙ ap (λ (found : Option Doc). option_map (sorting_vector def) found) found);
}
