use Rattle.std.proofs.Common.{◌∙◌, ap, ℕ}
use Rattle.doc_table.specs.Pages.{has_id, without_waiting}
use Rattle.doc_table.specs.Table.{Table}
use Rattle.doc_table.proofs.FindLaws.{is_listed}
use Rattle.doc_table.proofs.MarkLaws.{marks_waiting}
use Rattle.doc_table.proofs.table.DocTable.live_bits.Goals as goal

pub returns : goal.returns
returns c id =
    marks_waiting c.self.inside.pending (has_id c.self.inside.ids) (has_id c.new.result) c.self.inside.docs c.self.invariant.0.ordered c.self.invariant.1.marks
    (λ (other : ℕ). ap (λ ps. has_id ps other) c.new.ensures
    ∙ (c.clear.ensures other ∙ ap (λ ps. without_waiting c.self.inside.pending (has_id ps) other) c.in_ok-ids.ensures)) id
    ∙ ap (λ (t : Table). is_listed t.live id) c.self.view_is
