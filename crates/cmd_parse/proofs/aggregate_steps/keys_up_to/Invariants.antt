use Rattle.std.proofs.Common.{[], length}
use Rattle.cmd_parse.specs.AggregateSteps.{key_at}
use Rattle.cmd_parse.specs.AggregateWords.{are_behind}
use Rattle.cmd_parse.proofs.LoopLaws.{GoesOn}
use Rattle.cmd_parse.proofs.aggregate_steps.keys_up_to.Given as goal

-- what is read from here is what is read of all words
abbrev pub invariant-reading : goal.invariant-reading
invariant-reading l = GoesOn (are_behind l.behind) (key_at l.behind) [] l.words l.keys l.rest

abbrev pub decreases-reading : goal.decreases-reading
decreases-reading l = length l.rest
