-- What properties of a row were found to be worth.
use Rattle.std.specs.Prelude.{◌≡◌, ℕ, List, IfSome, Option}
use Rattle.std.specs.List.{All}
use Rattle.expr_eval.specs.Lending.{operand_seen, row_of}
use Rattle.expr_eval.specs.Meaning.{value_of}
use Rattle.expr_eval.specs.Properties.{property_value}
use Rattle.expr_eval.specs.Values.{Operand, operand_of}
use Rattle.ft_base.specs.declared.row.Value.{Value}
use Rattle.expr_eval.specs.declared.notes.Context.{Context}
use Rattle.expr_eval.specs.declared.notes.Note.{Note}
use Rattle.expr_eval.specs.declared.notes.Notes.{Notes}
use Rattle.expr_eval.specs.declared.tree.Expr.{Expr}

-- the value of an expression
abbrev pub value_at : Context → Expr → Value
value_at at expr = value_of expr (row_of at.row) at.def.now

-- what operators see of it
abbrev pub operand_at : Context → Expr → Operand
operand_at at expr = operand_of (value_at at expr)

-- what operators see of a property
abbrev pub operand_noted : Context → List ℕ → Operand
operand_noted at name = operand_of (property_value name (row_of at.row) at.def.now)

-- a note is right
abbrev pub IsSlot : Context → Option Note → Type 0
IsSlot at slot = IfSome slot (λ note. operand_seen note.seen ≡ operand_noted at note.name.now)

-- all notes are right
abbrev pub AreNoted : Context → Notes → Type 0
AreNoted at notes = All (IsSlot at) notes.slots
