-- One read of a stream: what it takes, and what it leaves.
use Rattle.std.proofs.Common.{◌≡◌, ℕ, zero, suc, ◌<◌, ◌≤◌, ◌+◌, Bool, true, false, cond, eqb, ltb, nat_lt, List, [], ◌∷◌, ◌++◌, length, filter, take, Option, Some, None, is_some, refl, sym, ap, ◌∙◌, arith}
use Rattle.std.specs.List.{AllByRecursion, cons_option, filter_map}
use Rattle.std.proofs.lemmas.Bool.{ltb-true, ltb-false, lt-ltb, eqb-true, false≢true, or_left, or_right}
use Rattle.ft_base.specs.Docs.{Doc}
use Rattle.ft_base.specs.declared.row.Row.{Row}
use Rattle.ft_machine.specs.Parts.{behind, docs_taken, last_id, still_to_come}
use Rattle.cursor_law.specs.Law.{IdsRise}
use Rattle.cursor_law.specs.StreamCursor.{has_id}
use Rattle.cursor_law.proofs.ListLaws.{Up, or-cases, up-filter, up-lower}

abbrev pub doc_id : Doc → ℕ
doc_id doc = doc.id

abbrev pub DocsUp : ℕ → ℕ → List Doc → Type 0
DocsUp = Up doc_id

-- ---- ids

pub behind-up : (after low high : ℕ) (docs : List Doc) → DocsUp low high docs → DocsUp (after + 1) high (behind after docs)
behind-up after low high [] u = tt
behind-up after low high (doc ∷ docs) u = pick (ltb after doc.id) refl (behind-up after (doc.id + 1) high docs u.2)
  where
    pick : (b : Bool) → ltb after doc.id ≡ b → DocsUp (after + 1) high (behind after docs) → DocsUp (after + 1) high (cond b (doc ∷ behind after docs) (behind after docs))
    pick true e more = (omega (arith, ltb-true after doc.id e), u.1, up-filter doc_id (λ (d : Doc). nat_lt after d.id) (doc.id + 1) high docs u.2)
    pick false e more = more

-- what rises, and behind its last id goes on to rise
pub then-up : (low after high : ℕ) (docs rest : List Doc) → low ≤ after + 1 → DocsUp low high docs → DocsUp (last_id after docs + 1) high rest → DocsUp low high (docs ++ rest)
then-up low after high [] rest le u r = up-lower doc_id low (after + 1) high rest le r
then-up low after high (doc ∷ docs) rest le u r = (u.0, u.1, then-up (doc.id + 1) doc.id high docs rest (omega arith) u.2 r)

pub all-above : (id low high : ℕ) (docs : List Doc) → id < low → DocsUp low high docs → AllByRecursion (λ (other : Doc). id < other.id) docs
all-above id low high [] lt u = tt
all-above id low high (doc ∷ docs) lt u = (omega (arith, lt, u.0), all-above id (doc.id + 1) high docs (omega (arith, lt, u.0)) u.2)

pub ids-rise : (low high : ℕ) (docs : List Doc) → DocsUp low high docs → IdsRise docs
ids-rise low high [] u = tt
ids-rise low high (doc ∷ docs) u = (all-above doc.id (doc.id + 1) high docs (omega arith) u.2, ids-rise (doc.id + 1) high docs u.2)

-- ---- hits

pub has-low : (id low high : ℕ) (docs : List Doc) → DocsUp low high docs → has_id id docs ≡ true → low ≤ id
has-low id low high [] u h = absurd (false≢true h)
has-low id low high (doc ∷ docs) u h = or-cases (eqb doc.id id) (has_id id docs) h
    (λ e. omega (arith, u.0, eqb-true doc.id id e))
    (λ k. omega (arith, u.0, has-low id (doc.id + 1) high docs u.2 k))

pub has-behind : (id after : ℕ) (docs : List Doc) → after < id → has_id id docs ≡ true → has_id id (behind after docs) ≡ true
has-behind id after [] a h = h
has-behind id after (doc ∷ docs) a h = pick (ltb after doc.id) refl (has-behind id after docs a)
  where
    pick : (b : Bool) → ltb after doc.id ≡ b → (has_id id docs ≡ true → has_id id (behind after docs) ≡ true) → has_id id (cond b (doc ∷ behind after docs) (behind after docs)) ≡ true
    pick true e again = or-cases (eqb doc.id id) (has_id id docs) h (or_left _ (has_id id (behind after docs))) (λ k. or_right (eqb doc.id id) _ (again k))
    pick false e again = or-cases (eqb doc.id id) (has_id id docs) h (λ k. absurd (omega (arith, a, ltb-false after doc.id e, eqb-true doc.id id k))) again

-- up to the last document, none is left out
pub has-taken : (id n after low high : ℕ) (docs : List Doc) → DocsUp low high docs → after < id → id ≤ last_id after (take n docs) → has_id id docs ≡ true → has_id id (take n docs) ≡ true
has-taken id zero after low high docs u a b h = absurd (omega (arith, a, b))
has-taken id (suc n) after low high [] u a b h = h
has-taken id (suc n) after low high (doc ∷ docs) u a b h = or-cases (eqb doc.id id) (has_id id docs) h
    (or_left _ (has_id id (take n docs)))
    (λ k. or_right (eqb doc.id id) _ (has-taken id n doc.id (doc.id + 1) high docs u.2 (omega (arith, has-low id (doc.id + 1) high docs u.2 k)) b k))

-- where fewer came than were asked for, none is left out
pub all-taken : (n : ℕ) (docs : List Doc) → nat_lt (length (take n docs)) n ≡ true → take n docs ≡ docs
all-taken zero docs e = absurd (omega (arith, ltb-true 0 0 e))
all-taken (suc n) [] e = refl
all-taken (suc n) (doc ∷ docs) e = ap (λ l. doc ∷ l) (all-taken n docs (lt-ltb _ _ (omega (arith, ltb-true _ _ e))))

pub has-left : (id : ℕ) (docs rest : List Doc) → has_id id docs ≡ true → has_id id (docs ++ rest) ≡ true
has-left id [] rest h = absurd (false≢true h)
has-left id (doc ∷ docs) rest h = or-cases (eqb doc.id id) (has_id id docs) h (or_left _ (has_id id (docs ++ rest))) (λ k. or_right (eqb doc.id id) _ (has-left id docs rest k))

pub has-right : (id : ℕ) (docs rest : List Doc) → has_id id rest ≡ true → has_id id (docs ++ rest) ≡ true
has-right id [] rest h = h
has-right id (doc ∷ docs) rest h = or_right (eqb doc.id id) _ (has-right id docs rest h)

-- ---- the machine's read

module _ (row : Doc → Option Row) where
  abbrev pub gives : Doc → Bool
  gives doc = is_some (row doc)

  -- the documents that give rows are the first ones that may
  pub taken-gives : (n : ℕ) (docs : List Doc) → filter gives (docs_taken row n docs) ≡ take n (filter gives docs)
  taken-gives zero [] = refl
  taken-gives (suc n) [] = refl
  taken-gives zero (doc ∷ docs) = refl
  taken-gives (suc n) (doc ∷ docs) = pick (row doc) (λ m. taken-gives m docs)
    where
      pick : (r : Option Row) → ((m : ℕ) → filter gives (docs_taken row m docs) ≡ take m (filter gives docs))
          → cond (is_some r) (doc ∷ filter gives (docs_taken row (still_to_come r n) docs)) (filter gives (docs_taken row (still_to_come r n) docs)) ≡ take (suc n) (cond (is_some r) (doc ∷ filter gives docs) (filter gives docs))
      pick None again = again (suc n)
      pick (Some r) again = ap (λ l. doc ∷ l) (again n)

  -- the others give no rows
  pub rows-given : (docs : List Doc) → filter_map row (filter gives docs) ≡ filter_map row docs
  rows-given [] = refl
  rows-given (doc ∷ docs) = pick (row doc) refl (rows-given docs)
    where
      pick : (r : Option Row) → row doc ≡ r → filter_map row (filter gives docs) ≡ filter_map row docs → filter_map row (cond (is_some r) (doc ∷ filter gives docs) (filter gives docs)) ≡ filter_map row (doc ∷ docs)
      pick None is same = same ∙ sym (ap (λ o. cons_option o (filter_map row docs)) is)
      pick (Some r) is same = ap (λ o. cons_option o (filter_map row (filter gives docs))) is ∙ (ap (λ l. r ∷ l) same ∙ sym (ap (λ o. cons_option o (filter_map row docs)) is))

  pub rows-many : (docs : List Doc) → length (filter_map row docs) ≡ length (filter gives docs)
  rows-many [] = refl
  rows-many (doc ∷ docs) = pick (row doc) (rows-many docs)
    where
      pick : (r : Option Row) → length (filter_map row docs) ≡ length (filter gives docs) → length (cons_option r (filter_map row docs)) ≡ length (cond (is_some r) (doc ∷ filter gives docs) (filter gives docs))
      pick None same = same
      pick (Some r) same = ap (λ n. suc n) same

  last-any : (a b : ℕ) (docs : List Doc) → 0 < length docs → last_id a docs ≡ last_id b docs
  last-any a b [] some = absurd (omega (arith, some))
  last-any a b (doc ∷ docs) some = refl

  -- where as many came as were asked for, the last one gave a row
  pub last-gives : (n a : ℕ) (docs : List Doc) → n ≤ length (take n (filter gives docs)) → last_id a (docs_taken row n docs) ≡ last_id a (take n (filter gives docs))
  last-gives zero a [] many = refl
  last-gives (suc n) a [] many = refl
  last-gives zero a (doc ∷ docs) many = refl
  last-gives (suc n) a (doc ∷ docs) many = pick (row doc) many (λ m k. last-gives m doc.id docs k)
    where
      pick : (r : Option Row) → suc n ≤ length (take (suc n) (cond (is_some r) (doc ∷ filter gives docs) (filter gives docs)))
          → ((m : ℕ) → m ≤ length (take m (filter gives docs)) → last_id doc.id (docs_taken row m docs) ≡ last_id doc.id (take m (filter gives docs)))
          → last_id doc.id (docs_taken row (still_to_come r n) docs) ≡ last_id a (take (suc n) (cond (is_some r) (doc ∷ filter gives docs) (filter gives docs)))
      pick None k again = again (suc n) k ∙ last-any doc.id a (take (suc n) (filter gives docs)) (omega (arith, k))
      pick (Some r) k again = again n (omega (arith, k))
