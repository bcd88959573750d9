use Rattle.std.proofs.Common.{arith, ◌^◌}
use Rattle.doc_table.proofs.pages.IdPages.remove.Goals as goal

pub invariant_of-self : goal.invariant_of-self
invariant_of-self c = record {
  rises = c.clear_id-spent.ensures.bound (2 ^ 58) c.self.invariant.rises;
  within = omega (arith, c.self.invariant.within, c.clear_id-spent.ensures.len);
  spent = λ k before. c.clear_id-spent.ensures.spent k (c.self.invariant.spent k before);
}
