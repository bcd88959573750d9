-- A cell of a row gets another value.
use Rattle.std.proofs.Common.{◌≡◌, ℕ, zero, suc, ◌<◌, List, [], ◌∷◌, length, get_or, slice_set, ap, arith}
use Rattle.ft_base.specs.declared.row.Cell.{Cell}
use Rattle.ft_base.specs.declared.row.Value.{Value}
use Rattle.ft_base.specs.Cells.{cell, value_set}

-- to write the value of the cell that was lent
pub put_is : (cells : List Cell) (i : ℕ) (lent : Cell) (value : Value) → i < length cells → lent ≡ get_or cells i lent
    → slice_set cells i (record { name = lent.name; value = value }) ≡ value_set cells i value
put_is [] i lent value within is = absurd (omega (arith, within))
put_is (old ∷ cells) zero lent value within is = ap (λ (c : Cell). cell c.name value ∷ cells) is
put_is (old ∷ cells) (suc i) lent value within is = ap (λ rest. old ∷ rest) (put_is cells i lent value (omega (arith, within)) is)
