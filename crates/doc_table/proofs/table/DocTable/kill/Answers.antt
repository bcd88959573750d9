use Rattle.std.proofs.Common.{◌≡◌, ◌∙◌, ap, sym, subst, nat_eq, is_some, ◌+◌, ◌/◌}
use Rattle.std.specs.Map.{lookup, remove_entry}
use Rattle.doc_table.specs.Table.{Table, Vector}
use Rattle.ft_base.specs.Rows.{Rows}
use Rattle.doc_table.specs.Rows.{ready_row}
use Rattle.ft_base.proofs.LiveRowsLaws.{lookup-waiting, lookup-live_rows}
use Rattle.doc_table.proofs.TableLaws.{waits_last, remove_entry-waiting, killed, killed_table}
use Rattle.doc_table.specs.Pages.{has_id}
use Rattle.doc_table.proofs.MarkLaws.{Marks, marks_out}
use Rattle.doc_table.proofs.table.DocTable.kill.Goals as goal

pub returns-then-eq-clause-was : goal.returns-then-eq-clause-was
returns-then-eq-clause-was c =
    sym (ap is_some (ap (λ (t : Table). lookup (nat_eq c.args.id) t.live) (sym c.self.view_is) ∙ lookup-waiting c.self.inside.pending c.args.id c.self.inside.docs (waits_last c.self.inside.pending c.self.inside.last c.self.inside.docs c.self.invariant.0) (sym c.eq.ensures ∙ c.if-eq.true)))

pub returns-then-eq-clause-gone : goal.returns-then-eq-clause-gone
returns-then-eq-clause-gone c =
    subst (λ (t : Table). t ≡ record t { live = remove_entry (nat_eq c.args.id) t.live }) c.self.view_is
    (ap (λ (es : Rows Vector). record { live = es; ready = ready_row c.self.inside.pending c.self.inside.docs; last = c.self.inside.last })
    (sym (remove_entry-waiting c.self.inside.pending c.self.inside.last c.args.id c.self.inside.docs c.self.invariant.0 (sym c.eq.ensures ∙ c.if-eq.true))))

pub invariant_of-self : goal.invariant_of-self
invariant_of-self c = (
  killed c.self.inside.pending c.self.inside.last c.args.id c.self.inside.docs c.remove-2.new.self c.self.invariant.0 (sym c.eq.ensures ∙ c.if-eq.false) c.remove-2.ensures.gone,
  record {
    marks = subst (Marks (has_id c.remove.new.self)) (sym c.remove-2.ensures.gone) (marks_out c.args.id (has_id c.self.inside.ids) (has_id c.remove.new.self) c.self.inside.docs c.self.invariant.0.ordered c.self.invariant.1.marks c.remove.ensures.ids);
    bound = c.remove.ensures.bound (c.self.inside.last / 64 + 1) c.self.invariant.1.bound;
  },
)

pub returns-clause-was : goal.returns-clause-was
returns-clause-was c =
    c.remove-2.ensures.was
    ∙ ap is_some
    (sym (lookup-live_rows c.self.inside.pending c.args.id c.self.inside.docs (sym c.eq.ensures ∙ c.if-eq.false))
    ∙ ap (λ (t : Table). lookup (nat_eq c.args.id) t.live) c.self.view_is)

pub returns-clause-gone : goal.returns-clause-gone
returns-clause-gone c =
    killed_table c.self.inside.pending c.self.inside.last c.args.id c.self.inside.docs c.remove-2.new.self (sym c.eq.ensures ∙ c.if-eq.false) c.remove-2.ensures.gone
    ∙ ap (λ (t : Table). record t { live = remove_entry (nat_eq c.args.id) t.live }) c.self.view_is
