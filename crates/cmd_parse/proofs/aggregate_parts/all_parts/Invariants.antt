use Rattle.std.proofs.Common.{length}
use Rattle.cmd_parse.specs.Aggregate.{no_parts, part_at}
use Rattle.cmd_parse.specs.Search.{is_at_end}
use Rattle.cmd_parse.proofs.LoopLaws.{GoesOn}
use Rattle.cmd_parse.proofs.aggregate_parts.all_parts.Given as goal

-- what is read from here is what is read of all words
abbrev pub invariant-reading : goal.invariant-reading
invariant-reading l = GoesOn is_at_end part_at no_parts l.words l.parts l.rest

abbrev pub decreases-reading : goal.decreases-reading
decreases-reading l = length l.rest
