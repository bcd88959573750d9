use Rattle.std.specs.Prelude.{◌+◌}
use Rattle.std.proofs.Common.{arith, ◌∙◌}
use Rattle.indexed_store.proofs.MovingLaws.{moves-again}
use Rattle.indexed_store.proofs.writes.settle_moved.Goals as goal

pub returns-clause-kept : goal.returns-clause-kept
returns-clause-kept c = c.remove.ensures.kept (c.args.number + 1) c.settle.ensures.kept

pub returns-clause-moves : goal.returns-clause-moves
returns-clause-moves c =
    moves-again c.args.number c.args.number c.args.indexes.now c.settle.new.indexes c.remove.new.indexes (omega arith) c.settle.ensures.moves (c.remove.ensures.moves c.args.number)

pub returns-clause-lists : goal.returns-clause-lists
returns-clause-lists c = c.remove.ensures.lists ∙ c.settle.ensures.lists
