use Rattle.std.proofs.Common.{◌∙◌, ap, sym, arith, length}
use Rattle.std.proofs.lemmas.Grind.{common_steps}
use Rattle.id_rows.specs.IdRows.{full_rows}
use Rattle.id_rows.proofs.IdRowsLaws.{remove_none, counted_remove}
use Rattle.id_rows.proofs.rows.IdRows.remove.Goals as goal

pub invariant_of-self : goal.invariant_of-self
invariant_of-self g c = record {
  rise = c.take_at.ensures.rises;
  counted = c.self.invariant.counted ∙ ap length (sym (c.take_at.ensures.gone ∙ remove_none g.T.HasId.id_of c.args.id (full_rows g.T.HasId.id_of c.self.inside.rows.items) (sym c.in_err-thing.ensures.was)));
}

pub invariant_of-self-then-saturating_sub-len : goal.invariant_of-self-then-saturating_sub-len
invariant_of-self-then-saturating_sub-len g c = record {
  rise = c.sweep.ensures.rises;
  counted = omega (arith, counted_remove g.T.HasId.id_of c.self.inside.full c.args.id c.in_ok-thing.thing (full_rows g.T.HasId.id_of c.self.inside.rows.items) (full_rows g.T.HasId.id_of c.take_at.new.rows.items) c.self.invariant.counted c.in_ok-thing.ensures.was c.take_at.ensures.gone, ap length c.sweep.ensures.same);
}

pub invariant_of-self-else-saturating_sub-len : goal.invariant_of-self-else-saturating_sub-len
invariant_of-self-else-saturating_sub-len g c = record {
  rise = c.take_at.ensures.rises;
  counted = omega (arith, counted_remove g.T.HasId.id_of c.self.inside.full c.args.id c.in_ok-thing.thing (full_rows g.T.HasId.id_of c.self.inside.rows.items) (full_rows g.T.HasId.id_of c.take_at.new.rows.items) c.self.invariant.counted c.in_ok-thing.ensures.was c.take_at.ensures.gone);
}

pub overflow_sub-self : goal.overflow_sub-self
overflow_sub-self g c = grind (arith, common_steps)
