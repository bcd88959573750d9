use Rattle.std.proofs.Common.{◌∙◌, arith}
use Rattle.indexed_store.proofs.StepLaws.{rest-after, without-next}
use Rattle.indexed_store.proofs.MovingLaws.{moves-again}
use Rattle.indexed_store.proofs.removals.remove_all.Goals as goal

pub loop-i-preserved : goal.loop-i-preserved
loop-i-preserved c = record {
  left = without-next c.loop-i.store.space c.remove.new.store.space c.args.keys.now c.loop-i.i c.word.result.now (omega (arith, c.loop-i-test.true, c.len-i-end.ensures)) c.word.ensures c.remove.ensures.space ∙ c.loop-i.invariant.left;
  rest = rest-after c.args.store.now c.loop-i.store c.remove.new.store c.loop-i.invariant.rest c.remove.ensures.rest;
  kept = λ next step. c.remove.ensures.kept next (c.loop-i.invariant.kept next step);
  definitions = c.remove.ensures.definitions ∙ c.loop-i.invariant.definitions;
  lists = c.remove.ensures.lists ∙ c.loop-i.invariant.lists;
  moves = λ event. moves-again event event c.args.indexes.now c.loop-i.indexes c.remove.new.indexes (omega arith) (c.loop-i.invariant.moves event) (c.remove.ensures.moves event);
}
