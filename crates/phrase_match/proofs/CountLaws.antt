-- How many distinct places a rising list has: as many as are chosen of it.
use Rattle.std.proofs.Common.{◌≡◌, ℕ, zero, suc, ◌<◌, ◌≤◌, Bool, true, false, not, cond, eqb, List, [], ◌∷◌, length, get_or, refl, sym, ap, ◌∙◌, arith}
use Rattle.std.specs.List.{AllByRecursion}
use Rattle.std.proofs.lemmas.Bool.{eqb-true, eqb-false, false≢true, not-true, not_from_false, and_parts, and_from}
use Rattle.phrase_match.specs.Phrase.{has, rises, is_distinct}
use Rattle.phrase_match.proofs.PlacesLaws.{has_cases, has_first, has_behind, has_neither, no_test, above_first}
use lib.Dec.{ltb}
use Rattle.std.specs.List.{list_all}

-- the places but for one
without : ℕ → List ℕ → List ℕ
without z [] = []
without z (x ∷ xs) = cond (eqb x z) (without z xs) (x ∷ without z xs)

-- each of these stands in the list, and none behind `most`
abbrev pub AllIn : List ℕ → ℕ → List ℕ → Type 0
AllIn xs most ds = AllByRecursion (λ d. (has xs d ≡ true) × (d ≤ most)) ds

without_has : (z y : ℕ) (ds : List ℕ) → has (without z ds) y ≡ true → has ds y ≡ true
unfolding without
without_has z y [] h = h
without_has z y (d ∷ ds) h = go (eqb d z) (without_has z y ds) h
  where
    go : (b : Bool) → (has (without z ds) y ≡ true → has ds y ≡ true) → has (cond b (without z ds) (d ∷ without z ds)) y ≡ true
        → has (d ∷ ds) y ≡ true
    go true again k = has_behind d y ds (again k)
    go false again k = has_cases d y (without z ds) k (λ same. first same) (λ behind. has_behind d y ds (again behind))
      where
        first : d ≡ y → has (d ∷ ds) y ≡ true
        first same = ap (λ x. has (d ∷ ds) x) (sym same) ∙ has_first d ds

without_distinct : (z : ℕ) (ds : List ℕ) → is_distinct ds ≡ true → is_distinct (without z ds) ≡ true
unfolding without
without_distinct z [] h = refl
without_distinct z (d ∷ ds) h = let parts = and_parts (not (has ds d)) (is_distinct ds) h in go (eqb d z) (not-true
    (has ds d) parts.0) (without_distinct z ds parts.1)
  where
    go : (b : Bool) → has ds d ≡ false → is_distinct (without z ds) ≡ true → is_distinct (cond b (without z ds) (d ∷ without z ds)) ≡ true
    go true once again = again
    go false once again = and_from (not (has (without z ds) d)) (is_distinct (without z ds)) (not_from_false (has
        (without z ds) d) (no_test (has (without z ds) d) (has ds d) (without_has z d ds) once)) again

without_none : (z : ℕ) (ds : List ℕ) → has ds z ≡ false → length (without z ds) ≡ length ds
unfolding without
without_none z [] h = refl
without_none z (d ∷ ds) h = let parts = has_neither d z ds h in go (eqb d z) refl (without_none z ds parts.1)
  where
    go : (b : Bool) → eqb d z ≡ b → length (without z ds) ≡ length ds → length (cond b (without z ds) (d ∷ without z ds)) ≡ suc (length ds)
    go true e again = absurd ((has_neither d z ds h).0 (eqb-true d z e))
    go false e again = ap suc again

-- at most one is gone
without_length : (z : ℕ) (ds : List ℕ) → is_distinct ds ≡ true → length ds ≤ suc (length (without z ds))
unfolding without
without_length z [] h = omega arith
without_length z (d ∷ ds) h = let parts = and_parts (not (has ds d)) (is_distinct ds) h in go (eqb d z) refl (not-true
    (has ds d) parts.0) (without_length z ds parts.1)
  where
    go : (b : Bool) → eqb d z ≡ b → has ds d ≡ false → length ds ≤ suc (length (without z ds))
        → suc (length ds) ≤ suc (length (cond b (without z ds) (d ∷ without z ds)))
    go true e once again = omega (arith, without_none z ds (ap (λ x. has ds x) (sym (eqb-true d z e)) ∙ once))
    go false e once again = omega (arith, again)

without_in : (z most : ℕ) (xs ds : List ℕ) → AllIn (z ∷ xs) most ds → AllIn xs most (without z ds)
unfolding without
without_in z most xs [] h = tt
without_in z most xs (d ∷ ds) h = go (eqb d z) refl (without_in z most xs ds h.1)
  where
    go : (b : Bool) → eqb d z ≡ b → AllIn xs most (without z ds) → AllIn xs most (cond b (without z ds) (d ∷ without z ds))
    go true e again = again
    go false e again = ((has_cases z d xs h.0.0 (λ same. absurd (eqb-false d z e (sym same))) (λ behind. behind), h.0.1), again)

pub record NumberFound (xs : List ℕ) (most number : ℕ) : Type 0 where
  pub there : number < length xs
  pub low : get_or xs number 0 ≤ most

-- a rising list with more than `number` distinct places up to `most` has its place with this number by then
pub number_found : (xs ds : List ℕ) (most number : ℕ) → rises xs ≡ true → is_distinct ds ≡ true → AllIn xs most ds
    → number < length ds → NumberFound xs most number
number_found xs [] most number up apart all more = absurd (omega (arith, more))
number_found [] (d ∷ ds) most number up apart all more = absurd (false≢true all.0.0)
number_found (x ∷ xs) (d ∷ ds) most zero up apart all more = record {
  there = omega arith;
  low = has_cases x d xs all.0.0 (λ same. omega (arith, same, all.0.1)) (λ behind. omega (
    arith,
    all.0.1,
    above_first x d xs
        (and_parts (list_all (ltb x) xs) (rises xs) up).0 behind,
  ));
}
number_found (x ∷ xs) (d ∷ ds) most (suc number) up apart all more =
    let again = number_found xs (without x (d ∷ ds)) most number (and_parts (list_all (ltb x) xs) (rises xs) up).1
    (without_distinct x (d ∷ ds) apart) (without_in x most xs (d ∷ ds) all) (omega (arith, more, without_length x (d ∷ ds) apart)) in
    record { there = omega (arith, again.there); low = again.low }
