use Rattle.std.proofs.Common.{◌≡◌, ◌<◌, ◌∙◌, ap, sym, subst, Some, ◌∷◌, [], ◌++◌, arith, ◌+◌, ◌/◌}
use Rattle.std.specs.List.Sorted.{IsStrictlySortedBy}
use Rattle.std.specs.Ordering.{nat_cmp}
use Rattle.std.specs.Map.{keys_of}
use Rattle.doc_table.specs.Table.{Table, Vector}
use Rattle.doc_table.specs.Pages.{has_id}
use Rattle.ft_base.specs.Rows.{Rows, Below, live_rows}
use Rattle.ft_base.proofs.RowsLaws.{IsStrictlySortedBy-push}
use Rattle.doc_table.proofs.TableLaws.{below_new, prepared, prepared_table}
use Rattle.doc_table.proofs.MarkLaws.{Marks, marks_in, marks_waiting}
use Rattle.doc_table.proofs.PagesLaws.{rises_weaker}
use Rattle.doc_table.proofs.table.DocTable.prepare.Goals as goal

pub put_in-requires-clause-below : goal.put_in-requires-clause-below
put_in-requires-clause-below c =
    below_new c.self.inside.last c.args.id c.self.inside.docs c.self.invariant.0.bounded (subst (λ (t : Table). t.last < c.args.id) (sym c.self.view_is) c.requires)

pub put_in-requires-clause-bound : goal.put_in-requires-clause-bound
put_in-requires-clause-bound c =
    let above : c.self.inside.last < c.args.id = subst (λ (t : Table). t.last < c.args.id) (sym c.self.view_is) c.requires in
    rises_weaker 0 (c.self.inside.last / 64 + 1) 0 (c.args.id / 64 + 1) c.self.inside.ids (omega arith) (omega (arith, above)) c.self.invariant.1.bound

-- the new id is above all
above : (c : goal.After-self-2-1) → c.self.inside.last < c.args.id
above c = subst (λ (t : Table). t.last < c.args.id) (sym c.self.view_is) c.requires

below : (c : goal.After-self-2-1) → Below c.args.id c.self.inside.docs
below c = below_new c.self.inside.last c.args.id c.self.inside.docs c.self.invariant.0.bounded (above c)

-- the new row goes behind the others
rows_are : (c : goal.After-self-2-1) → c.take_out.new.docs ≡ live_rows c.self.inside.pending (c.self.inside.docs ++ (c.args.id, c.args.vector) ∷ [])
rows_are c = c.take_out.ensures.rows ∙ ap (live_rows c.self.inside.pending) c.in_ok-put_in.ensures.rows

ordered : (c : goal.After-self-2-1) → IsStrictlySortedBy nat_cmp (keys_of c.put_in.new.docs)
ordered c =
    subst (λ (es : Rows Vector). IsStrictlySortedBy nat_cmp (keys_of es)) (sym c.in_ok-put_in.ensures.rows)
    (IsStrictlySortedBy-push c.self.inside.docs c.args.id c.args.vector c.self.invariant.0.ordered (below c))

pub invariant_of-self-2 : goal.invariant_of-self-2
invariant_of-self-2 c =
    let marks : Marks (has_id c.put_in.new.ids) c.put_in.new.docs =
    subst (Marks (has_id c.put_in.new.ids)) (sym c.in_ok-put_in.ensures.rows)
    (marks_in c.args.id c.args.vector (has_id c.self.inside.ids) (has_id c.put_in.new.ids) c.self.inside.docs (below c) c.self.invariant.1.marks c.in_ok-put_in.ensures.ids) in (
      prepared c.self.inside.pending c.self.inside.last c.args.id c.args.vector c.self.inside.docs c.take_out.new.docs c.self.invariant.0 (above c) (rows_are c),
      record {
        marks = subst (Marks (has_id c.take_out.new.ids)) (sym c.take_out.ensures.rows)
            (marks_waiting c.self.inside.pending (has_id c.put_in.new.ids) (has_id c.take_out.new.ids) c.put_in.new.docs (ordered c) marks c.take_out.ensures.ids);
        bound = c.take_out.ensures.bound (c.args.id / 64 + 1) c.in_ok-put_in.ensures.bound;
      },
    )

pub returns-clause-ok : goal.returns-clause-ok
returns-clause-ok c =
    prepared_table c.self.inside.pending c.self.inside.last c.args.id c.args.vector c.self.inside.docs c.take_out.new.docs c.self.invariant.0 (above c) (rows_are c)
    ∙ ap (λ (t : Table). record t { ready = Some (c.args.id, c.args.vector); last = c.args.id }) c.self.view_is
