-- The entries of one half, as they come.
use Rattle.std.proofs.Common.{◌≡◌, ℕ, zero, suc, ◌+◌, ◌<◌, ◌≤◌, Bool, true, false, cond, List, [], ◌∷◌, ◌++◌, length, take, get_or, inl, inr, sym, ap, ◌∙◌, arith}
use Rattle.std.specs.List.{filter}
use Rattle.std.proofs.lemmas.Bool.{cases_Bool}
use Rattle.std.proofs.lemmas.List.{append-nil}
use Rattle.std.proofs.lemmas.List.Elements.{filter_more}
use Rattle.inverted_list.proofs.BlocksLaws.{filled_push}
use Rattle.inverted_list.specs.declared.marker.Marker.{Marker}
use Rattle.inverted_list.specs.Listing.{Listing, RisesAbove, last_id, with_entry, filled_list}

module _ {P : Type 0} where
  pub last_more : (low high : ℕ) (es : List (ℕ × P)) → low ≤ high → last_id low es ≤ last_id high es
  last_more low high [] h = h
  last_more low high (e ∷ es) h = omega arith

  pub rises_low : (low high : ℕ) (es : List (ℕ × P)) → low ≤ high → RisesAbove high es → RisesAbove low es
  rises_low low high [] h rises = tt
  rises_low low high (e ∷ es) h rises = (omega (arith, h, rises.0), rises.1)

  pub rises_filter : (p : ℕ × P → Bool) (low : ℕ) (es : List (ℕ × P)) → RisesAbove low es → RisesAbove low (filter p es)
  rises_filter p low [] rises = tt
  rises_filter p low (e ∷ es) rises =
      elim (cases_Bool (p e)) [
        | inl y ↦ rw y (rises.0, rises_filter p e.0 es rises.1)
        | inr n ↦ rw n (rises_low low e.0 (filter p es) (omega (arith, rises.0)) (rises_filter p e.0 es rises.1))
      ]

  pub last_filter : (p : ℕ × P → Bool) (low : ℕ) (es : List (ℕ × P)) → RisesAbove low es → last_id low (filter p es) ≤ last_id low es
  last_filter p low [] rises = omega arith
  last_filter p low (e ∷ es) rises =
      let rest = last_filter p e.0 es rises.1 in
      elim (cases_Bool (p e)) [
        | inl y ↦ rw y rest
        | inr n ↦ rw n (omega (arith, rest, last_more low e.0 (filter p es) (omega (arith, rises.0))))
      ]

  last_take : (low k : ℕ) (es : List (ℕ × P)) (d : ℕ × P) → RisesAbove low es → k < length es → last_id low (take k es) < (get_or es k d).0
  last_take low k [] d rises h = absurd (omega (arith, h))
  last_take low zero (e ∷ es) d rises h = rises.0
  last_take low (suc k) (e ∷ es) d rises h = last_take e.0 k es d rises.1 (omega (arith, h))

  rises_take : (low k : ℕ) (es : List (ℕ × P)) → RisesAbove low es → RisesAbove low (take k es)
  rises_take low zero es rises = tt
  rises_take low (suc k) [] rises = tt
  rises_take low (suc k) (e ∷ es) rises = (rises.0, rises_take e.0 k es rises.1)

  -- the next id is above those of a half
  pub half_below : (p : ℕ × P → Bool) (es : List (ℕ × P)) (k : ℕ) (e : ℕ × P) (l : Listing P) (m : Marker) → RisesAbove 0 es → k < length es
      → e ≡ get_or es k e → l ≡ filled_list m (filter p (take k es)) → last_id 0 l.entries < e.0
  half_below p es k e l m rises h is same =
      let here : last_id 0 l.entries ≡ last_id 0 (filter p (take k es)) = ap (λ (x : Listing P). last_id 0 x.entries) same in
      let id : e.0 ≡ (get_or es k e).0 = ap (λ (x : ℕ × P). x.0) is in
      omega (arith, here, id, last_filter p 0 (take k es) (rises_take 0 k es rises), last_take 0 k es e rises h)

  -- an entry comes to its half
  pub half_more : (p : ℕ × P → Bool) (es : List (ℕ × P)) (k : ℕ) (e : ℕ × P) (l new : Listing P) (m : Marker) → k < length es → e ≡ get_or es k e
      → p e ≡ true → l ≡ filled_list m (filter p (take k es)) → new ≡ with_entry l e.0 e.1
      → new ≡ filled_list m (filter p (take (k + 1) es))
  half_more p es k e l new m h is passes same more =
      let step : filter p (take (k + 1) es) ≡ filter p (take k es) ++ e ∷ [] =
      filter_more p es k e h ∙ (ap (λ (x : ℕ × P). filter p (take k es) ++ cond (p x) (x ∷ []) []) (sym is) ∙ ap (λ b. filter p (take k es) ++ cond b (e ∷ []) []) passes) in
      more ∙ (ap (λ (x : Listing P). with_entry x e.0 e.1) same ∙ (filled_push m (filter p (take k es)) e.0 e.1 ∙ ap (λ (xs : List (ℕ × P)). filled_list m xs) (sym step)))

  -- and does not come to the other
  pub half_same : (p : ℕ × P → Bool) (es : List (ℕ × P)) (k : ℕ) (e : ℕ × P) (l : Listing P) (m : Marker) → k < length es → e ≡ get_or es k e
      → p e ≡ false → l ≡ filled_list m (filter p (take k es)) → l ≡ filled_list m (filter p (take (k + 1) es))
  half_same p es k e l m h is fails same =
      let step : filter p (take (k + 1) es) ≡ filter p (take k es) ++ [] =
      filter_more p es k e h ∙ (ap (λ (x : ℕ × P). filter p (take k es) ++ cond (p x) (x ∷ []) []) (sym is) ∙ ap (λ b. filter p (take k es) ++ cond b (e ∷ []) []) fails) in
      same ∙ ap (λ (xs : List (ℕ × P)). filled_list m xs) (sym (step ∙ append-nil (filter p (take k es))))
