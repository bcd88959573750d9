use Rattle.std.proofs.Common.{◌∙◌, ap, sym}
use Rattle.doc_table.specs.Table.{Table}
use Rattle.doc_table.specs.Pages.{has_id}
use Rattle.doc_table.proofs.FindLaws.{find_from, next-none, next-waiting, next-live}
use Rattle.doc_table.proofs.table.DocTable.next_live.Goals as goal

pub returns-in_err-id : goal.returns-in_err-id
returns-in_err-id c =
    c.from_residual.ensures
    ∙ (sym (next-none c.self.inside.pending c.self.inside.last c.args.from (has_id c.self.inside.ids) c.self.inside.docs c.self.invariant.0 c.self.invariant.1.marks c.in_err-id.ensures)
    ∙ ap (λ (t : Table). find_from c.args.from t.live) c.self.view_is)

pub returns-then-eq : goal.returns-then-eq
returns-then-eq c =
    sym (next-waiting c.self.inside.pending c.self.inside.last c.args.from c.in_ok-id.id (has_id c.self.inside.ids) c.self.inside.docs c.self.invariant.0 c.self.invariant.1.marks c.in_ok-id.ensures (sym c.eq.ensures ∙ c.if-eq.true))
    ∙ ap (λ (t : Table). find_from c.args.from t.live) c.self.view_is

pub returns : goal.returns
returns c =
    sym (next-live c.self.inside.pending c.self.inside.last c.args.from c.in_ok-id.id (has_id c.self.inside.ids) c.self.inside.docs c.self.invariant.0 c.self.invariant.1.marks c.in_ok-id.ensures (sym c.eq.ensures ∙ c.if-eq.false))
    ∙ ap (λ (t : Table). find_from c.args.from t.live) c.self.view_is
