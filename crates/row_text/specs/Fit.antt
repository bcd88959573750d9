-- When the lines of a reply are those that a row wants.
use Rattle.std.specs.Prelude.{◌≡◌, ℕ, List, [], ◌∷◌, ◌⊎◌, map, drop, codes, slice_index}
use Rattle.std.specs.declared.alloc.Global.{Global}
use Rattle.std.specs.declared.vec.Vec.{Vec}

-- the bytes of each line
abbrev pub texts : List (Vec ℕ Global) → List (List ℕ)
texts lines = map (λ (line : Vec ℕ Global). line.items) lines

-- a line is the wanted one; or `:?` is wanted, and it is a number, which begins with a colon
abbrev pub LineFits : List ℕ → List ℕ → Type 0
LineFits want came = (want ≡ came) ⊎ ((want ≡ codes ":?") × (slice_index came 0 ≡ 58))

-- The lines are the wanted ones, one for one, but that `..` stands for any number of lines.
abbrev pub Fit : List (List ℕ) → List (List ℕ) → Type 0
Fit [] came = came ≡ []
Fit (want ∷ others) came =
    ((want ≡ codes "..") × (skipped : ℕ) × Fit others (drop skipped came))
    ⊎ ((line : List ℕ) × (rest : List (List ℕ)) × (came ≡ line ∷ rest) × LineFits want line × Fit others rest)
