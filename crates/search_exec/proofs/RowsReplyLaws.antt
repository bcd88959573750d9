-- What an aggregate answers fits the wire: it has neither a line nor a fault.
use Rattle.std.proofs.Common.{◌≡◌, true, List, [], ◌∷◌, length, map, refl, ap, ◌∙◌, subst}
use Rattle.std.specs.Prelude.{pos, IsTrue}
use Rattle.std.specs.Fmt.{signed_decimal}
use Rattle.std.specs.List.{flat_map, list_all}
use Rattle.ft_base.proofs.RepliesLaws.{fits-Array, fits-Bulk, fits-NullBulk, fits-Number}
use Rattle.ft_base.specs.Reply.{fits_wire}
use Rattle.ft_base.specs.declared.reply.Reply.{Reply}
use Rattle.ft_base.specs.declared.reply.Reply.TheVariants.{Number}
use Rattle.ft_base.specs.declared.row.Cell.{Cell}
use Rattle.ft_base.specs.declared.row.Row.{Row}
use Rattle.ft_base.specs.declared.row.Value.{Value, map-Value, roll-Value}
use Rattle.ft_base.specs.declared.row.Value.TheFolds.{fold-roll-Value, ind-Value}
use Rattle.ft_base.specs.declared.row.Value.TheOpen as layer
use Rattle.ft_machine.specs.Aggregating.{cell_replies, row_reply, rows_reply, value_reply, value_step}

-- a value's reply fits
abbrev ValueFits : Value → Type 0
ValueFits value = fits_wire (value_reply value) ≡ true

-- a value with the proof that its reply fits
abbrev Part : Type 0
Part = (value : Value) × ValueFits value

abbrev bare : List Part → List Value
bare parts = map (λ e. e.0) parts

abbrev bare_layer : layer.Value-F Part → layer.Value-F Value
bare_layer y = map-Value Part Value (λ e. e.0) y

parts-fit : (parts : List Part) → list_all (λ fits. fits) (map fits_wire (map value_reply (bare parts))) ≡ true
parts-fit [] = refl
parts-fit (part ∷ parts) = rw part.1 (parts-fit parts)

layer-fits : (y : layer.Value-F Part) → fits_wire (value_step (map-Value Value Reply value_reply (bare_layer y))) ≡ true
layer-fits layer.Null = fits-NullBulk
layer-fits (layer.Num n) = fits-Bulk (signed_decimal n)
layer-fits (layer.Text text) = fits-Bulk text
layer-fits (layer.List parts) = fits-Array (map value_reply (bare parts)) ∙ parts-fit parts

rolled-fits : (y : layer.Value-F Part) → ValueFits (roll-Value (bare_layer y))
rolled-fits y = ap fits_wire (fold-roll-Value Reply value_step (bare_layer y)) ∙ layer-fits y

value-fits : (value : Value) → ValueFits value
value-fits = ind-Value ValueFits (λ x y is. subst (λ z. ValueFits (roll-Value z)) is (rolled-fits y))

cells-fit : (cells : List Cell) → list_all (λ fits. fits) (map fits_wire (flat_map cell_replies cells)) ≡ true
cells-fit [] = refl
cells-fit (cell ∷ cells) = rw (fits-Bulk cell.name, value-fits cell.value) (cells-fit cells)

row-fits : (row : Row) → fits_wire (row_reply row) ≡ true
row-fits row = fits-Array (flat_map cell_replies row.cells) ∙ cells-fit row.cells

all-fit : (rows : List Row) → list_all (λ fits. fits) (map fits_wire (map row_reply rows)) ≡ true
all-fit [] = refl
all-fit (row ∷ rows) = rw (row-fits row) (all-fit rows)

pub rows-fit : (rows : List Row) → IsTrue (fits_wire (rows_reply rows))
rows-fit rows = fits-Array (Number (pos (length rows)) ∷ map row_reply rows) ∙ rw (fits-Number (pos (length rows))) (all-fit rows)
