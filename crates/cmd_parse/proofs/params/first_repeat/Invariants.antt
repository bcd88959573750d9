use Rattle.cmd_parse.proofs.PairLaws.{Knows}
use Rattle.cmd_parse.proofs.params.first_repeat.Given as goal

-- the names so far are known, and none of them came twice
abbrev pub invariant-loop-place : goal.invariant-loop-place
invariant-loop-place l = Knows l.words l.from l.place l.names
