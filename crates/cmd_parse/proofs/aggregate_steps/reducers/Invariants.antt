use Rattle.std.proofs.Common.{[], length}
use Rattle.cmd_parse.specs.AggregateSteps.{is_no_reduce, reducer_at}
use Rattle.cmd_parse.proofs.LoopLaws.{GoesOn}
use Rattle.cmd_parse.proofs.aggregate_steps.reducers.Given as goal

-- what is read from here is what is read of all words
abbrev pub invariant-reading : goal.invariant-reading
invariant-reading l = GoesOn is_no_reduce reducer_at [] l.words l.list l.rest

abbrev pub decreases-reading : goal.decreases-reading
decreases-reading l = length l.rest
