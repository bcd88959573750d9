-- The steps of the turn lock, for a seat as a call has it.
use Rattle.std.proofs.Common.{◌≡◌, ℕ, ◌+◌, ◌%◌, ◌^◌, ◌≤◌, Bool, true, false, cond, nat_lt, List, [], ◌∷◌, length, Option, Some, None, sym, refl, ap, ◌∙◌, subst, arith}
use Rattle.std.proofs.lemmas.Bool.{ltb-true, ltb-false}
use mathlib.Core.Option.{none}
use Rattle.atomic_table.specs.Table.{State, step, rest, Allows}
use Rattle.turn_gate.specs.Log.{AllBy}
use Rattle.turn_gate.specs.Rule.{Kept}
use Rattle.turn_gate.specs.Steps.{Seat, tried, logged, gave_back, counted, compared, checked}
use Rattle.turn_gate.specs.Views.{joined}
use Rattle.turn_gate.specs.declared.view.View.{View}
use Rattle.turn_gate.proofs.RuleLaws.{tries, logs, gives_back, counts, compares, checks}

module _ {E S : Type 0} (by : E → ℕ) (tells : S → List E → ℕ → Type 0) (first : ℕ) where
  abbrev Rule : State (Option S) (View E) → Type 0
  Rule = Kept by tells first

  pub tries_at : (slots id caller : ℕ) (m : Seat S E) → caller ≡ id → m.1 ≡ [] → m.0.spent ≡ false
      → Allows Rule slots id m 0 (λ _. 1) (tried by tells caller (step slots 0 1 0 none) m)
  tries_at slots id caller m me none-held live =
      subst (λ (c : ℕ). Allows Rule slots id m 0 (λ _. 1) (tried by tells c (step slots 0 1 0 none) m)) (sym me)
      (subst (λ (h : List (ℕ × Option S)). Allows Rule slots id (m.0, h) 0 (λ _. 1) (tried by tells id (step slots 0 1 0 none) (m.0, h))) (sym none-held)
      (tries by tells first slots id m.0 live))

  pub logs_at : (slots id : ℕ) (m : Seat S E) (es fs : List E) (n : ℕ) → es ≡ fs → n ≡ length fs → AllBy by id fs → m.0.in_turn ≡ true → m.0.spent ≡ false
      → Allows Rule slots id m 1 (λ x. (x + n) % 2 ^ 64) (logged es (step slots 1 n 0 none) m)
  logs_at slots id m es fs n is count all turn live =
      subst (λ (l : List E). Allows Rule slots id m 1 (λ x. (x + n) % 2 ^ 64) (logged l (step slots 1 n 0 none) m)) (sym is)
      (logs by tells first slots id m.0 m.1 fs n count turn live all)

  -- behind an exchange that put the state back into the slot, which was empty
  pub gives_back_at : (slots id : ℕ) (m : Seat S E) (v : View E) (held : List (ℕ × Option S)) (state : S) → slots ≡ 1
      → m ≡ (v, (0, Some state) ∷ rest held) → held ≡ (0, None) ∷ [] → v.in_turn ≡ true → v.spent ≡ false → tells state v.seen v.first
      → Allows Rule slots id m 0 (λ _. 0) (λ _. gave_back (step slots 0 0 0 none) m 0)
  gives_back_at slots id m v held state one is empty turn live ok =
      let there : Seat S E = (v, (0, Some state) ∷ []) in
      let back : there ≡ m = sym (is ∙ ap (λ (h : List (ℕ × Option S)). (v, (0, Some state) ∷ rest h)) empty) in
      subst (λ (x : Seat S E). Allows Rule slots id x 0 (λ _. 0) (λ _. gave_back (step slots 0 0 0 none) x 0)) back
      (subst (λ (n : ℕ). Allows Rule n id there 0 (λ _. 0) (λ _. gave_back (step n 0 0 0 none) there 0)) (sym one)
      (gives_back by tells first id v state turn live ok))

  pub counts_at : (slots id caller : ℕ) (m : Seat S E) → caller ≡ id → m.0.in_turn ≡ false → m.0.spent ≡ false
      → Allows Rule slots id m 0 (λ n. n) (counted caller (step slots 0 0 0 none) m)
  counts_at slots id caller m me idle live =
      subst (λ (c : ℕ). Allows Rule slots id m 0 (λ n. n) (counted c (step slots 0 0 0 none) m)) (sym me)
      (counts by tells first slots id m.0 m.1 idle live)

  pub compares_at : (slots id caller : ℕ) (m : Seat S E) → caller ≡ id → m.0.spent ≡ false
      → Allows Rule slots id m 0 (λ n. n) (compared caller (step slots 0 0 0 none) m)
  compares_at slots id caller m me live =
      subst (λ (c : ℕ). Allows Rule slots id m 0 (λ n. n) (compared c (step slots 0 0 0 none) m)) (sym me)
      (compares by tells first slots id m.0 m.1 live)

  short_enough : (xs ys : List E) (b : Bool) → nat_lt (length xs) (length ys) ≡ b → length (cond b xs ys) ≤ length (cond b ys xs)
  short_enough xs ys true e = omega (arith, ltb-true (length xs) (length ys) e)
  short_enough xs ys false e = ltb-false (length xs) (length ys) e

  pub checks_joined : (slots id : ℕ) (m : Seat S E) (v w : View E) (held : List (ℕ × Option S)) → m ≡ (joined v w, held)
      → Allows Rule slots id m 0 (λ n. n) (checked (step slots 0 0 0 none) m)
  checks_joined slots id m v w held is =
      subst (λ (x : Seat S E). Allows Rule slots id x 0 (λ n. n) (checked (step slots 0 0 0 none) x)) (sym is)
      (checks by tells first slots id (joined v w) held refl (short_enough v.seen w.seen (nat_lt (length v.seen) (length w.seen)) refl))
