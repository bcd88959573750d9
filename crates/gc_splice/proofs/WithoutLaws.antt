-- A list without some entries that are not live.
use Rattle.std.proofs.Common.{◌≡◌, ℕ, ◌≤◌, ◌∷◌, [], ◌++◌, List, length, Bool, true, false, cond, refl, ap, sym, ◌∙◌, arith}
use Rattle.std.specs.List.{AllByRecursion}
use Rattle.std.proofs.lemmas.Bool.{false≢true}
use Rattle.posting_block.specs.Rising.{RisesAbove, last_id}
use Rattle.posting_block.proofs.RisingLaws.{rises_lower}
use Rattle.gc_splice.specs.Alive.{alive, Without, Ended, Kept, Dropped}
use Rattle.gc_splice.proofs.KeepLaws.{lower}

module _ {P : Type 0} (live : ℕ → Bool) where
  pub without_same : (xs : List (ℕ × P)) → Without live xs xs
  without_same [] = Ended
  without_same (x ∷ xs) = Kept x xs xs (without_same xs)

  pub without_append : (xs ys us vs : List (ℕ × P)) → Without live xs ys → Without live us vs → Without live (xs ++ us) (ys ++ vs)
  without_append xs ys us vs Ended w = w
  without_append xs ys us vs (Kept e fs gs v) w = Kept e (fs ++ us) (gs ++ vs) (without_append fs gs us vs v w)
  without_append xs ys us vs (Dropped e fs gs dead v) w = Dropped e (fs ++ us) (gs ++ vs) dead (without_append fs gs us vs v w)

  -- what was taken out wasn't live
  pub alive_without : (xs ys : List (ℕ × P)) → Without live xs ys → alive live ys ≡ alive live xs
  alive_without xs ys Ended = refl
  alive_without xs ys (Kept e es fs w) = ap (λ t. cond (live e.0) (e ∷ t) t) (alive_without es fs w)
  alive_without xs ys (Dropped e es fs dead w) = alive_without es fs w ∙ sym (ap (λ b. cond b (e ∷ alive live es) (alive live es)) dead)

  -- what holds of each entry holds of each that is left
  pub all_without : (Q : ℕ × P → Type 0) (xs ys : List (ℕ × P)) → Without live xs ys → AllByRecursion Q xs → AllByRecursion Q ys
  all_without Q xs ys Ended a = tt
  all_without Q xs ys (Kept e es fs w) a = (a.0, all_without Q es fs w a.1)
  all_without Q xs ys (Dropped e es fs dead w) a = all_without Q es fs w a.1

  pub rises_without : (low : ℕ) (xs ys : List (ℕ × P)) → Without live xs ys → RisesAbove low xs → RisesAbove low ys
  rises_without low xs ys Ended r = tt
  rises_without low xs ys (Kept e us vs w) r = (r.0, rises_without e.0 us vs w r.1)
  rises_without low xs ys (Dropped e us vs dead w) r = rises_lower low e.0 vs (omega (arith, r.0)) (rises_without e.0 us vs w r.1)

  pub length_without : (xs ys : List (ℕ × P)) → Without live xs ys → length ys ≤ length xs
  length_without xs ys Ended = omega arith
  length_without xs ys (Kept e us vs w) = let h : length vs ≤ length us = length_without us vs w in omega (arith, h)
  length_without xs ys (Dropped e us vs dead w) = let h : length vs ≤ length us = length_without us vs w in omega (arith, h)

  pub last_without : (low : ℕ) (xs ys : List (ℕ × P)) → Without live xs ys → RisesAbove low xs → last_id low ys ≤ last_id low xs
  last_without low xs ys Ended r = omega arith
  last_without low xs ys (Kept e us vs w) r = last_without e.0 us vs w r.1
  last_without low xs ys (Dropped e us vs dead w) r =
      let a : last_id low vs ≤ last_id e.0 vs = lower vs low e.0 (omega (arith, r.0)) in
      let b : last_id e.0 vs ≤ last_id e.0 us = last_without e.0 us vs w r.1 in omega (arith, a, b)

  -- the live ones of another moment are all of the list but entries that are not live now, where what is live now was live then
  pub without_alive : (was : ℕ → Bool) (xs : List (ℕ × P)) → AllByRecursion (λ e. live e.0 ≡ true → was e.0 ≡ true) xs → Without live xs (alive was xs)
  without_alive was [] a = Ended
  without_alive was (e ∷ es) a = by (was e.0) refl (without_alive was es a.1)
    where
      dead : (b : Bool) → live e.0 ≡ b → was e.0 ≡ false → live e.0 ≡ false
      dead true k h = absurd (false≢true (sym h ∙ a.0 k))
      dead false k h = k

      by : (b : Bool) → was e.0 ≡ b → Without live es (alive was es) → Without live (e ∷ es) (cond b (e ∷ alive was es) (alive was es))
      by true h w = Kept e es (alive was es) w
      by false h w = Dropped e es (alive was es) (dead (live e.0) refl h) w
