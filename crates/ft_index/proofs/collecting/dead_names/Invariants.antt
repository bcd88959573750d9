use Rattle.std.proofs.Common.{length}
use Rattle.ft_index.proofs.CollectLaws.{Walked}
use Rattle.ft_index.proofs.collecting.dead_names.Given as goal

-- of the lists that were passed those with a dead entry are noted
abbrev pub invariant-rows : goal.invariant-rows
invariant-rows g l = Walked (g.L.Live.is l.live) l.fn.walk l.walk l.names

abbrev pub decreases-rows : goal.decreases-rows
decreases-rows g l = length l.walk
