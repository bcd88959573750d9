-- Asking for the least id again and again gives the documents that a query finds, in their order.
use Rattle.std.proofs.Common.{◌≡◌, ℕ, ◌<◌, ◌≤◌, ◌+◌, Bool, true, false, ◌&&◌, ◌||◌, List, [], ◌∷◌, map, filter, refl, sym, ap, ◌∙◌, subst, inl, inr, arith}
use Rattle.std.specs.Prelude.{nat_eq, nat_le}
use Rattle.std.specs.List.{list_any}
use Rattle.std.proofs.lemmas.Bool.{cases_Bool, false≢true, le-leb, lt-leb, or_parts}
use Rattle.std.proofs.lemmas.Bool.Decides.{eqb_tells, leb_tells}
use Rattle.ft_base.specs.declared.definition.IndexDef.{IndexDef}
use Rattle.ft_base.specs.Docs.{Doc}
use Rattle.ft_base.specs.declared.query.Query.{Query}
use Rattle.ft_meaning.specs.Holds.{holds}
use Rattle.id_iters.specs.Held.{Held}
use Rattle.id_iters.specs.Least.{IsLeastAt, NoneFrom}
use Rattle.id_iters.specs.Named.{Named}
use Rattle.inverted_list.specs.Listing.{RisesAbove}
use Rattle.query_plan.specs.Finds.{AreOf, finds, found_from, found_ids}
use Rattle.query_plan.proofs.EntryLaws.{Rise, eqb_itself, missed, rise_from}

-- the documents from a number on that pass a test
abbrev passing : (Doc → Bool) → ℕ → List Doc → List ℕ
passing test from docs = map (λ (doc : Doc). doc.id) (filter (λ (doc : Doc). nat_le from doc.id && test doc) docs)

-- the test of the document with an id
abbrev has : (Doc → Bool) → List Doc → ℕ → Bool
has test docs id = list_any (λ (doc : Doc). nat_eq id doc.id && test doc) docs

-- all from one number on are those from another one on, where all ids are above both
same_passing : (test : Doc → Bool) (from to low : ℕ) (docs : List Doc) → Rise low docs → from ≤ low + 1 → to ≤ low + 1 → passing test from docs ≡ passing test to docs
same_passing test from to low [] rise a b = refl
same_passing test from to low (doc ∷ docs) rise a b =
    let rest = same_passing test from to doc.id docs rise.1 (omega (arith, a, rise.0)) (omega (arith, b, rise.0)) in
    let one = le-leb from doc.id (omega (arith, a, rise.0)) in
    let other = le-leb to doc.id (omega (arith, b, rise.0)) in
    elim (cases_Bool (test doc)) [
      | inl y ↦ rw (one, other, y) (ap (λ xs. doc.id ∷ xs) rest)
      | inr n ↦ rw (one, other, n) rest
    ]

-- where none is had none passes
none_passes : (test : Doc → Bool) (from : ℕ) (docs : List Doc) → ((id : ℕ) → from ≤ id → has test docs id ≡ false) → passing test from docs ≡ []
none_passes test from [] none = refl
none_passes test from (doc ∷ docs) none =
    let rest = none_passes test from docs (λ id low. (or_parts (nat_eq id doc.id && test doc) (has test docs id) (none id low)).1) in
    elim (leb_tells from doc.id) [
      | inl i ↦
          let fails = (or_parts (nat_eq doc.id doc.id && test doc) (has test docs doc.id) (none doc.id i.1)).0 in
          let not_it : test doc ≡ false = ap (λ b. b && test doc) (sym (eqb_itself doc.id)) ∙ fails in
          rw (i.0, not_it) rest
      | inr i ↦ rw i.0 rest
    ]

-- the least that is had comes first, and the rest behind it
next_passes : (test : Doc → Bool) (from n low : ℕ) (docs : List Doc) → Rise low docs → from ≤ n → has test docs n ≡ true
    → ((id : ℕ) → from ≤ id → id < n → has test docs id ≡ false) → passing test from docs ≡ n ∷ passing test (n + 1) docs
next_passes test from n low [] rise above here none = absurd (false≢true here)
next_passes test from n low (doc ∷ docs) rise above here none =
    elim (eqb_tells n doc.id) [
      | inl i ↦
          let same : doc.id ≡ n = sym i.1 in
          let fits : test doc ≡ true = only_here (test doc) (missed test doc.id n docs rise.1 (omega (arith, i.1))) (ap (λ b. (b && test doc) || has test docs n) (sym i.0) ∙ here) in
          let reached = le-leb from doc.id (omega (arith, above, i.1)) in
          let beyond = lt-leb (n + 1) doc.id (omega (arith, i.1)) in
          rw (reached, fits, beyond)
          (ap (λ id. id ∷ passing test from docs) same
          ∙ ap (λ xs. n ∷ xs) (same_passing test from (n + 1) doc.id docs rise.1 (omega (arith, above, i.1)) (omega (arith, i.1))))
      | inr i ↦
          let there : has test docs n ≡ true = ap (λ b. (b && test doc) || has test docs n) (sym i.0) ∙ here in
          let before : doc.id < n = behind n doc.id there rise.1 in
          let beyond = lt-leb (n + 1) doc.id (omega (arith, before)) in
          let rest = next_passes test from n doc.id docs rise.1 above there (λ id low less. (or_parts (nat_eq id doc.id && test doc) (has test docs id) (none id low less)).1) in
          elim (leb_tells from doc.id) [
            | inl r ↦
                let fails = (or_parts (nat_eq doc.id doc.id && test doc) (has test docs doc.id) (none doc.id r.1 before)).0 in
                let not_it : test doc ≡ false = ap (λ b. b && test doc) (sym (eqb_itself doc.id)) ∙ fails in
                rw (r.0, not_it, beyond) rest
            | inr r ↦ rw (r.0, beyond) rest
          ]
    ]
  where
    behind : (id least : ℕ) → has test docs id ≡ true → Rise least docs → least < id
    behind id least there up =
        elim (leb_tells id least) [
          | inl i ↦ absurd (false≢true (sym (missed test least id docs up i.1) ∙ there))
          | inr i ↦ i.1
        ]

    only_here : (t : Bool) → has test docs n ≡ false → ((true && t) || has test docs n) ≡ true → t ≡ true
    only_here true h e = refl
    only_here false h e = absurd (false≢true (sym h ∙ e))

module _ (query : Query) (def : IndexDef) (docs : List Doc) (rise : Rise 0 docs) where
  -- from 1 on there are all
  pub found_all : found_from 1 query def docs ≡ found_ids query def docs
  found_all = all 0 docs rise
    where
      all : (low : ℕ) (ds : List Doc) → Rise low ds → found_from 1 query def ds ≡ found_ids query def ds
      all low [] up = refl
      all low (doc ∷ ds) up =
          let one = le-leb 1 doc.id (omega (arith, up.0)) in
          let rest = all doc.id ds up.1 in
          elim (cases_Bool (holds query def doc)) [
            | inl y ↦ rw (one, y) (ap (λ xs. doc.id ∷ xs) rest)
            | inr n ↦ rw (one, n) rest
          ]

-- ---- a reader that asks a set of ids for its least id, again and again

module _ (query : Query) (def : IndexDef) (held : Held) (named : Named) (docs : List Doc) (are : AreOf def held named docs)
    (ids : ℕ → Bool) (same : (id : ℕ) → ids id ≡ finds query def docs id) where
  rise : Rise 0 docs
  rise = rise_from def 0 docs (subst (RisesAbove 0) are.has.live are.kept.rise)

  pub asked_next : (from n : ℕ) → IsLeastAt ids from n → found_from from query def docs ≡ n ∷ found_from (n + 1) query def docs
  asked_next from n least =
      next_passes (λ (doc : Doc). holds query def doc) from n 0 docs rise least.reached (sym (same n) ∙ least.passes)
      (λ id low less. sym (same id) ∙ least.below.fails id low less)

  pub asked_none : (from : ℕ) → NoneFrom ids from → found_from from query def docs ≡ []
  asked_none from none = none_passes (λ (doc : Doc). holds query def doc) from docs (λ id low. sym (same id) ∙ none.fails id low)

  pub asked_all : found_from 1 query def docs ≡ found_ids query def docs
  asked_all = found_all query def docs rise
