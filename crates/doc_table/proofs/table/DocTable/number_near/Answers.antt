use Rattle.std.proofs.Common.{◌∙◌, ap, sym, nat_eq}
use Rattle.std.specs.Map.{lookup}
use Rattle.doc_table.specs.Table.{Table, number_in}
use Rattle.ft_base.proofs.LiveRowsLaws.{lookup-waiting, lookup-live_rows}
use Rattle.doc_table.proofs.TableLaws.{waits_last}
use Rattle.doc_table.proofs.table.DocTable.number_near.Goals as goal

pub returns-then-eq : goal.returns-then-eq
returns-then-eq c =
    sym (ap (λ found. number_in found c.args.place)
    (ap (λ (t : Table). lookup (nat_eq c.args.id) t.live) (sym c.self.view_is)
    ∙ lookup-waiting c.self.inside.pending c.args.id c.self.inside.docs (waits_last c.self.inside.pending c.self.inside.last c.self.inside.docs c.self.invariant.0) (sym c.eq.ensures ∙ c.if-eq.true)))

pub returns : goal.returns
returns c =
    c.number_near.ensures
    ∙ ap (λ found. number_in found c.args.place)
    (sym (lookup-live_rows c.self.inside.pending c.args.id c.self.inside.docs (sym c.eq.ensures ∙ c.if-eq.false))
    ∙ ap (λ (t : Table). lookup (nat_eq c.args.id) t.live) c.self.view_is)
