-- Groups: the sublists of items that are the same, in order of first appearance.
use Rattle.std.specs.Prelude.{Bool, not, List, [], ◌∷◌, map, filter}

module _ {X : Type 0} (same : X → X → Bool) where
  -- the first item of each group, in order
  abbrev pub firsts : List X → List X
  firsts [] = []
  firsts (x ∷ xs) = x ∷ filter (λ y. not (same x y)) (firsts xs)

  -- the items that are the same as x
  abbrev pub members : List X → X → List X
  members xs x = filter (λ y. same x y) xs

  -- the groups
  abbrev pub groups : List X → List (List X)
  groups xs = map (members xs) (firsts xs)
