use Rattle.std.proofs.Common.{◌∙◌, ap, sym}
use Rattle.doc_table.specs.Table.{Table}
use Rattle.doc_table.specs.Pages.{has_id}
use Rattle.doc_table.proofs.FindLaws.{is_listed, live-waiting, live-marked}
use Rattle.doc_table.proofs.table.DocTable.is_live.Goals as goal

pub returns-then-eq : goal.returns-then-eq
returns-then-eq c =
    sym (live-waiting c.self.inside.pending c.self.inside.last c.args.id c.self.inside.docs c.self.invariant.0 (sym c.eq.ensures ∙ c.if-eq.true))
    ∙ ap (λ (t : Table). is_listed t.live c.args.id) c.self.view_is

pub returns : goal.returns
returns c =
    c.contains.ensures
    ∙ (live-marked c.self.inside.pending c.args.id (has_id c.self.inside.ids) c.self.inside.docs c.self.invariant.1.marks (sym c.eq.ensures ∙ c.if-eq.false)
    ∙ ap (λ (t : Table). is_listed t.live c.args.id) c.self.view_is)
