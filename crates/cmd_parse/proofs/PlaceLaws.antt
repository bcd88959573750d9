-- The first word that passes a test, as a loop over places finds it.
use Rattle.std.proofs.Common.{◌≡◌, ◌<◌, ◌≤◌, ◌+◌, ℕ, Bool, true, false, cond, List, Some, None, length, drop, get_or, refl, sym, ap, ◌∙◌, arith, add-one, drop-cons}
use Rattle.std.proofs.Math.ListN.{drop_of_length-le}
use Rattle.std.specs.List.{position_from}

-- what is found from a place on
found_from : {K : Type 0} (test : K → Bool) (from k : ℕ) (words : List K) (d : K) → k < length words
    → position_from test (from + k) (drop k words) ≡ cond (test (get_or words k d)) (Some (from + k)) (position_from test (from + (k + 1)) (drop (k + 1) words))
found_from test from k words d within =
    let next : from + (k + 1) ≡ from + k + 1 = omega arith in
    rw (drop-cons words k d within, next, add-one k) refl

pub found-here : {K : Type 0} (test : K → Bool) (from k : ℕ) (words : List K) (d : K) → k < length words → test (get_or words k d) ≡ true
    → position_from test (from + k) (drop k words) ≡ position_from test from words → Some (from + k) ≡ position_from test from words
found-here test from k words d within passes so_far =
    sym (found_from test from k words d within ∙ ap (λ b. cond b (Some (from + k)) (position_from test (from + (k + 1)) (drop (k + 1) words))) passes) ∙ so_far

pub found-later : {K : Type 0} (test : K → Bool) (from k : ℕ) (words : List K) (d : K) → k < length words → test (get_or words k d) ≡ false
    → position_from test (from + k) (drop k words) ≡ position_from test from words → position_from test (from + (k + 1)) (drop (k + 1) words) ≡ position_from test from words
found-later test from k words d within fails so_far =
    sym (found_from test from k words d within ∙ ap (λ b. cond b (Some (from + k)) (position_from test (from + (k + 1)) (drop (k + 1) words))) fails) ∙ so_far

pub found-none : {K : Type 0} (test : K → Bool) (from k : ℕ) (words : List K) → length words ≤ k
    → position_from test (from + k) (drop k words) ≡ position_from test from words → None ≡ position_from test from words
found-none test from k words all so_far = sym (ap (position_from test (from + k)) (drop_of_length-le words all)) ∙ so_far
