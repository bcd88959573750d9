-- Parts of a query of which equal ones count once.
use Rattle.std.specs.Prelude.{◌≡◌, ◌⊎◌, Bool, true, false, List, [], ◌∷◌}
use Rattle.std.specs.List.{list_all, list_any}

-- those parts that are marked
abbrev pub marked : {X : Type 0} → List X → List Bool → List X
marked [] marks = []
marked (part ∷ parts) [] = []
marked (part ∷ parts) (true ∷ marks) = part ∷ marked parts marks
marked (part ∷ parts) (false ∷ marks) = marked parts marks

-- one of them
abbrev pub IsPart : {X : Type 0} → X → List X → Type 0
IsPart part [] = ⊥
IsPart part (first ∷ parts) = (part ≡ first) ⊎ IsPart part parts

-- The parts that are kept are the same set: what some part passes some of them does, and what each passes each of them does.
pub record AreParts {X : Type 0} (parts kept : List X) : Type 0 where
  pub some : (test : X → Bool) → list_any test kept ≡ list_any test parts
  pub every : (test : X → Bool) → list_all test kept ≡ list_all test parts
