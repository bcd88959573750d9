use Rattle.std.proofs.Common.{ℕ, ◌≡◌, ◌∙◌, ap, sym, subst, ◌+◌, ◌/◌}
use Rattle.ft_base.specs.Rows.{live_rows}
use Rattle.doc_table.specs.Pages.{has_id, without_waiting}
use Rattle.doc_table.specs.Rows.{IsTable}
use Rattle.doc_table.proofs.TableLaws.{compacted}
use Rattle.doc_table.proofs.MarkLaws.{Marks, marks_waiting}
use Rattle.doc_table.proofs.table.DocTable.compact.Goals as goal

pub invariant_of-self : goal.invariant_of-self
invariant_of-self c =
    let rows : c.take_out.new.docs ≡ live_rows c.self.inside.pending c.self.inside.docs = c.take_out.ensures.rows ∙ ap (λ waits. live_rows waits c.self.inside.docs) c.take.ensures.value in
    let out : (other : ℕ) → has_id c.compact.new.self other ≡ without_waiting c.self.inside.pending (has_id c.self.inside.ids) other =
    λ other. c.compact.ensures.ids other ∙ (c.take_out.ensures.ids other ∙ ap (λ waits. without_waiting waits (has_id c.self.inside.ids) other) c.take.ensures.value) in (
      subst (λ waits. IsTable waits c.self.inside.last c.take_out.new.docs) (sym c.take.ensures.after)
          (compacted c.self.inside.pending c.self.inside.last c.self.inside.docs c.take_out.new.docs c.self.invariant.0 rows),
      record {
        marks = subst (Marks (has_id c.compact.new.self)) (sym rows) (marks_waiting c.self.inside.pending (has_id c.self.inside.ids) (has_id c.compact.new.self) c.self.inside.docs c.self.invariant.0.ordered c.self.invariant.1.marks out);
        bound = c.compact.ensures.bound (c.self.inside.last / 64 + 1) (c.take_out.ensures.bound (c.self.inside.last / 64 + 1) c.self.invariant.1.bound);
      },
    )
