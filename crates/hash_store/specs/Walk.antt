-- How the documents of a store are given in turn.
use Rattle.std.specs.Prelude.{◌≡◌, Option, None, Some, List, [], ◌∷◌}
use Rattle.std.specs.Borrow.{Bor}
use Rattle.ft_base.specs.Docs.{Doc}

-- The first of the documents that were left is given, where there is one, and the others are left.
abbrev pub IsNextDoc : List Doc → Option (Bor Doc) → List Doc → Type 0
IsNextDoc left None rest = (left ≡ []) × (rest ≡ [])
IsNextDoc left (Some doc) rest = left ≡ doc.now ∷ rest
