use Rattle.std.proofs.Common.{◌∙◌, arith, ◌+◌, ◌/◌, ◌^◌}
use Rattle.doc_table.proofs.PagesLaws.{rises_weaker}
use Rattle.doc_table.proofs.pages.IdPages.push.Goals as goal

pub invariant_of-self : goal.invariant_of-self
invariant_of-self c = record {
  rises = rises_weaker 0 (c.args.id / 64 + 1) 0 (2 ^ 58) c.push_id.new.pages.items (omega arith) (omega arith) c.push_id.ensures.bound;
  within = omega (arith, c.self.invariant.within, c.push_id.ensures.len);
  spent = λ k before. c.push_id.ensures.others k (omega (arith, before, c.self.invariant.within)) ∙ c.self.invariant.spent k before;
}
