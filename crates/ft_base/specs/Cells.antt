-- The cells of a row.
use Rattle.std.specs.Prelude.{ℕ, zero, suc, List, [], ◌∷◌}
use Rattle.ft_base.specs.declared.row.Cell.{Cell}
use Rattle.ft_base.specs.declared.row.Value.{Value}

abbrev pub cell : List ℕ → Value → Cell
cell name value = record { name = name; value = value }

-- the cell at a place has another value
abbrev pub value_set : List Cell → ℕ → Value → List Cell
value_set [] n value = []
value_set (old ∷ cells) zero value = cell old.name value ∷ cells
value_set (old ∷ cells) (suc n) value = old ∷ value_set cells n value
