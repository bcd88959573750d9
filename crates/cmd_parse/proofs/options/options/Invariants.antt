use Rattle.std.proofs.Common.{length}
use Rattle.cmd_parse.specs.Seen.{given_of}
use Rattle.cmd_parse.proofs.OptionsLaws.{GoesOn}
use Rattle.cmd_parse.proofs.options.options.Given as goal

-- what is read from here is what is read of all words
abbrev pub invariant-reading : goal.invariant-reading
invariant-reading l = GoesOn l.total l.words (given_of l.given) l.rest

abbrev pub decreases-reading : goal.decreases-reading
decreases-reading l = length l.rest
