-- Entries are read one after another.
use Rattle.std.proofs.Common.{◌≡◌, ℕ, zero, suc, ◌<◌, ◌≤◌, ◌+◌, ◌∷◌, [], ◌++◌, List, length, take, drop, Bool, true, false, cond, Option, Some, None, refl, ap, sym, ◌∙◌, subst, arith}
use Rattle.std.proofs.lemmas.List.{length-take, take-append-drop}
use Rattle.std.proofs.lemmas.List.Elements.{filter-append}
use Rattle.posting_block.specs.Rising.{RisesAbove, last_id}
use Rattle.posting_block.specs.Spelled.{spelling}
use Rattle.posting_block.specs.Places.{IsFound, Finds, Stands}
use Rattle.posting_block.specs.declared.found.Found.{Found}
use Rattle.posting_block.proofs.RisingLaws.{rises_second, rises_first, last_id-append}
use Rattle.gc_splice.specs.Alive.{alive}
use Rattle.gc_splice.proofs.AliveLaws.{fewer_alive}

module _ {P : Type 0} where
  pub split_at : (es : List (ℕ × P)) (i : ℕ) → i < length es → (e : ℕ × P) × (more : List (ℕ × P)) × (drop i es ≡ e ∷ more) × (take (i + 1) es ≡ take i es ++ e ∷ [])
  split_at [] i h = absurd (omega (arith, h))
  split_at (x ∷ xs) zero h = (x, xs, refl, refl)
  split_at (x ∷ xs) (suc i) h =
      let s = split_at xs i (omega (arith, h)) in
      (s.0, s.1, s.2, (let n : suc i + 1 ≡ suc (i + 1) = omega arith in ap (λ k. take k (x ∷ xs)) n ∙ ap (λ t. x ∷ t) s.3))

  pub lower : (xs : List (ℕ × P)) (m n : ℕ) → m ≤ n → last_id m xs ≤ last_id n xs
  lower [] m n h = h
  lower (x ∷ xs) m n h = omega arith

  last_step : (test : ℕ → Bool) (low : ℕ) (e : ℕ × P) (es : List (ℕ × P)) → low < e.0 → last_id e.0 (alive test es) ≤ last_id e.0 es
      → (b : Bool) → last_id low (cond b (e ∷ alive test es) (alive test es)) ≤ last_id e.0 es
  last_step test low e es r h true = h
  last_step test low e es r h false = let a : last_id low (alive test es) ≤ last_id e.0 (alive test es) = lower (alive test es) low e.0 (omega (arith, r)) in omega (arith, a, h)

  -- what is kept of the first entries ends below the next one
  pub last_alive : (test : ℕ → Bool) (low : ℕ) (es : List (ℕ × P)) → RisesAbove low es → last_id low (alive test es) ≤ last_id low es
  last_alive test low [] r = omega arith
  last_alive test low (e ∷ es) r = last_step test low e es r.0 (last_alive test e.0 es r.1) (test e.0)

  -- the first entries and the next one
  pub alive_more : (test : ℕ → Bool) (es : List (ℕ × P)) (i : ℕ) (e : ℕ × P) → take (i + 1) es ≡ take i es ++ e ∷ [] → alive test (take (i + 1) es) ≡ alive test (take i es) ++ cond (test e.0) (e ∷ []) []
  alive_more test es i e h = ap (λ x. alive test x) h ∙ filter-append (λ x. test x.0) (take i es) (e ∷ [])

module _ {P : Type 0} (spelled : P → List ℕ) where
  -- the place before entry i
  abbrev pub stands_before : (es : List (ℕ × P)) (i place before : ℕ) → place ≡ length (spelling spelled 0 (take i es)) → before ≡ last_id 0 (take i es) → Stands spelled es place before (drop i es)
  stands_before es i place before p b = record { done = take i es; parts = sym (take-append-drop i es); place_is = p; before_is = b }

  pub record AtEntry (es : List (ℕ × P)) (i : ℕ) (f : Found) : Type 0 where
    pub e : ℕ × P
    pub more : List (ℕ × P)
    pub is : IsFound spelled es f (take i es) e more
    pub taken : take (i + 1) es ≡ take i es ++ e ∷ []

  pub at_entry : (es : List (ℕ × P)) (i : ℕ) (r : Option Found) (f : Found) → i < length es → Finds spelled es (take i es) (drop i es) r → r ≡ Some f → AtEntry es i f
  at_entry es i r f h found is =
      let s = split_at es i h in
      let there : Finds spelled es (take i es) (s.0 ∷ s.1) (Some f) = subst (λ (x : Option Found). Finds spelled es (take i es) (s.0 ∷ s.1) x) is (subst (λ l. Finds spelled es (take i es) l r) s.2 found) in
      record { e = s.0; more = s.1; is = there; taken = s.3 }

  pub some_entry : (es : List (ℕ × P)) (i : ℕ) (r : Option Found) → i < length es → Finds spelled es (take i es) (drop i es) r → r ≡ None → ⊥
  some_entry es i r h found is =
      let s = split_at es i h in
      let there : Finds spelled es (take i es) (s.0 ∷ s.1) None = subst (λ (x : Option Found). Finds spelled es (take i es) (s.0 ∷ s.1) x) is (subst (λ l. Finds spelled es (take i es) l r) s.2 found) in
      there

  -- the next id is above what was kept so far
  pub above_kept : (test : ℕ → Bool) (es : List (ℕ × P)) (i : ℕ) (f : Found) (a : AtEntry es i f) → RisesAbove 0 es → last_id 0 (alive test (take i es)) < f.id
  above_kept test es i f a r =
      let parts : RisesAbove 0 (take i es ++ a.e ∷ a.more) = subst (λ x. RisesAbove 0 x) a.is.parts r in
      let last : last_id 0 (alive test (take i es)) ≤ last_id 0 (take i es) = last_alive test 0 (take i es) (rises_first 0 (take i es) (a.e ∷ a.more) parts) in
      let next : last_id 0 (take i es) < a.e.0 = (rises_second 0 (take i es) (a.e ∷ a.more) parts).0 in
      let id : f.id ≡ a.e.0 = a.is.id in
      omega (arith, last, next, id)

  pub room_kept : (test : ℕ → Bool) (es : List (ℕ × P)) (i : ℕ) → i < length es → length es ≤ 100 → length (alive test (take i es)) < 100
  room_kept test es i h few =
      let n : length (alive test (take i es)) ≤ length (take i es) = fewer_alive test (take i es) in
      omega (arith, n, length-take i es, h, few)

  pub before_next : (es : List (ℕ × P)) (i : ℕ) (f : Found) (a : AtEntry es i f) → f.id ≡ last_id 0 (take (i + 1) es)
  before_next es i f a = a.is.id ∙ sym (ap (λ x. last_id 0 x) a.taken ∙ last_id-append 0 (take i es) (a.e ∷ []))

  pub place_next : (es : List (ℕ × P)) (i : ℕ) (f : Found) (a : AtEntry es i f) → f.to ≡ length (spelling spelled 0 (take (i + 1) es))
  place_next es i f a = a.is.after ∙ ap (λ x. length (spelling spelled 0 x)) (sym a.taken)
