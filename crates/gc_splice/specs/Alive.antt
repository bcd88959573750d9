-- Which entries of a list are live.
use Rattle.std.specs.Prelude.{◌≡◌, ◌&&◌, ℕ, List, [], ◌∷◌, filter, Bool, true, false}

module _ {P : Type 0} where
  -- the entries whose ids are live, in order
  abbrev pub alive : (ℕ → Bool) → List (ℕ × P) → List (ℕ × P)
  alive live es = filter (λ e. live e.0) es

  -- whether each entry's id is live
  abbrev pub all_alive : (ℕ → Bool) → List (ℕ × P) → Bool
  all_alive live [] = true
  all_alive live (e ∷ es) = live e.0 && all_alive live es

  -- The second list is the first without some entries that are not live.
  pub data Without (live : ℕ → Bool) : List (ℕ × P) → List (ℕ × P) → Type 0 where
    Ended : Without live [] []
    Kept : (e : ℕ × P) (xs ys : List (ℕ × P)) → Without live xs ys → Without live (e ∷ xs) (e ∷ ys)
    Dropped : (e : ℕ × P) (xs ys : List (ℕ × P)) → live e.0 ≡ false → Without live xs ys → Without live (e ∷ xs) ys
