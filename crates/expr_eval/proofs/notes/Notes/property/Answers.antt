use Rattle.std.proofs.Common.{Some, sym, ap, ◌∙◌}
use Rattle.std.proofs.lemmas.List.Elements.{All-set}
use Rattle.expr_eval.specs.Noting.{IsSlot}
use Rattle.expr_eval.specs.Values.{operand_of}
use Rattle.expr_eval.proofs.LentLaws.{operand-lent}
use Rattle.expr_eval.proofs.notes.Notes.property.Goals as goal

pub returns-2-clause-noted : goal.returns-2-clause-noted
returns-2-clause-noted c =
    All-set (IsSlot c.args.at.now) c.args.self.now.slots c.slot_of-slot.result (Some (record { name = c.args.name; seen = c.in_ok-seen.seen }))
    (c.in_ok-seen.ensures ∙ sym (operand-lent c.property.result) ∙ ap operand_of c.property.ensures)
    c.requires.noted
