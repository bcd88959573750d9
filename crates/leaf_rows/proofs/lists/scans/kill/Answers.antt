use Rattle.std.proofs.Common.{ap, ◌∙◌}
use Rattle.ft_index.specs.Index.{Index}
use Rattle.leaf_rows.proofs.RoundLaws.{kill-live}
use Rattle.leaf_rows.proofs.lists.scans.kill.Goals as goal

pub ids-preserved : goal.ids-preserved
ids-preserved c = record {
  lists = ap (λ (i : Index). i.lists) c.kill.ensures.gone ∙ c.ids.invariant.lists;
  last = ap (λ (i : Index). i.table.last) c.kill.ensures.gone ∙ c.ids.invariant.last;
  live = λ id is. c.ids.invariant.live id (kill-live _ id c.ids.index c.kill.new.self c.kill.ensures.gone is);
}
