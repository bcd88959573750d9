-- A run of bytes that pass q, seen some lanes at a time through the mask of those that fail it.
use Rattle.std.proofs.Common.{◌≡◌, ℕ, zero, suc, ◌-◌, ◌+◌, ◌*◌, ◌<◌, ◌≤◌, Bool, true, false, not, cond, eqb, List, [], ◌∷◌, map, length, drop, refl, sym, ap, ◌∙◌, arith}
use Rattle.std.proofs.lemmas.Simd.{chunk-drop, length-chunk, leading_from_mask_l, trailing_mask_l}
use Rattle.std.proofs.lemmas.List.{drop-drop, length-drop}
use Rattle.std.proofs.lemmas.List.Folds.{prefix_len-append}
use Rattle.std.proofs.lemmas.List.Sums.{prefix_len-le-length}
use Rattle.std.proofs.lemmas.Bool.{eq-eqb, ne_eqb}
use Rattle.std.specs.List.{prefix_len}
use lib.Lanes.{chunk, mask_l}
use lib.Count.{count_trailing_zeros}

pub run_bound : (q : ℕ → Bool) (d : List ℕ) (i : ℕ) → i ≤ length d → i + prefix_len q (drop i d) ≤ length d
run_bound q d i h = omega (arith, prefix_len-le-length q (drop i d), length-drop i d)

none_fails : (b : Bool) (n l m : ℕ) → n ≤ l → cond (not b) (1 + n) 0 ≡ 1 + l → (n ≡ l → m ≡ 0) → cond b 1 0 + 2 * m ≡ 0
none_fails true n l m le e ih = let no : ⊥ = omega arith in absurd no
none_fails false n l m le e ih = let z = ih (omega arith) in omega arith

module _ (p : ℕ → Bool) where
  all_pass : (xs : List ℕ) → prefix_len (λ x. not (p x)) xs ≡ length xs → mask_l (map p xs) ≡ 0
  all_pass [] e = refl
  all_pass (x ∷ xs) e = none_fails (p x) _ (length xs) _ (prefix_len-le-length (λ y. not (p y)) xs) (omega arith) (all_pass xs)

  split : (d : List ℕ) (i n : ℕ) → prefix_len (λ x. not (p x)) (drop i d) ≡ cond (eqb (prefix_len (λ x. not (p x)) (chunk i n d)) (length (chunk i n d))) (length (chunk i n d) + prefix_len (λ x. not (p x)) (drop (i + n) d)) (prefix_len (λ x. not (p x)) (chunk i n d))
  split d i n = ap (prefix_len (λ x. not (p x))) (chunk-drop i n d) ∙ prefix_len-append (λ x. not (p x)) (chunk i n d) (drop (i + n) d)

  pub run_through : (d : List ℕ) (i n : ℕ) → i + n ≤ length d → mask_l (map p (chunk i n d)) ≡ 0 → prefix_len (λ x. not (p x)) (drop i d) ≡ n + prefix_len (λ x. not (p x)) (drop (i + n) d)
  run_through d i n room none =
      let c = chunk i n d in
      split d i n ∙ ap (λ b. cond b (length c + prefix_len (λ x. not (p x)) (drop (i + n) d)) (prefix_len (λ x. not (p x)) c)) (eq-eqb _ _ (leading_from_mask_l p c none))
      ∙ ap (λ k. k + prefix_len (λ x. not (p x)) (drop (i + n) d)) (length-chunk i n d room)

  pub run_stops : (d : List ℕ) (i n : ℕ) → i + n ≤ length d → n ≤ 64 → 0 < mask_l (map p (chunk i n d)) → prefix_len (λ x. not (p x)) (drop i d) ≡ count_trailing_zeros 64 (mask_l (map p (chunk i n d)))
  run_stops d i n room short some =
      let c = chunk i n d in
      split d i n ∙ ap (λ b. cond b (length c + prefix_len (λ x. not (p x)) (drop (i + n) d)) (prefix_len (λ x. not (p x)) c)) (ne_eqb _ _ (λ (e : prefix_len (λ x. not (p x)) c ≡ length c). omega (arith, all_pass c e)))
      ∙ sym (trailing_mask_l p 64 c (omega (arith, length-chunk i n d room)) some)

module _ (q : ℕ → Bool) where
  by_test : (b : Bool) (k n m : ℕ) → suc k ≤ cond b (1 + n) 0 → (k ≤ n → k + m ≡ n) → suc k + m ≡ cond b (1 + n) 0
  by_test true k n m le shorter = let rest = shorter (omega arith) in omega arith
  by_test false k n m le shorter = let no : ⊥ = omega arith in absurd no

  -- what is left of a run behind its first k bytes
  rest_of_run : (xs : List ℕ) (k : ℕ) → k ≤ prefix_len q xs → k + prefix_len q (drop k xs) ≡ prefix_len q xs
  rest_of_run xs zero le = omega arith
  rest_of_run [] (suc k) le = let no : ⊥ = omega arith in absurd no
  rest_of_run (x ∷ xs) (suc k) le = by_test (q x) k (prefix_len q xs) (prefix_len q (drop k xs)) le (rest_of_run xs k)

  -- a run ends where it ended, seen from a place within it
  pub run_from_within : (xs : List ℕ) (from to : ℕ) → from ≤ to → to ≤ from + prefix_len q (drop from xs) → to + prefix_len q (drop to xs) ≡ from + prefix_len q (drop from xs)
  run_from_within xs from to after before =
      let rest = rest_of_run (drop from xs) (to - from) (omega arith) in
      let here : from + (to - from) ≡ to = omega arith in
      let there : prefix_len q (drop (to - from) (drop from xs)) ≡ prefix_len q (drop to xs) = ap (prefix_len q) (drop-drop (to - from) from xs) ∙ ap (λ n. prefix_len q (drop n xs)) here in
      omega arith
