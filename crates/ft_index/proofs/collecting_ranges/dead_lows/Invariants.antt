use Rattle.std.proofs.Common.{take}
use Rattle.ft_index.specs.Collecting.{RangesLiveBut}
use Rattle.ft_index.proofs.collecting_ranges.dead_lows.Given as goal

-- of the ranges so far those with a dead entry are noted
abbrev pub invariant-rows : goal.invariant-rows
invariant-rows g l = RangesLiveBut (g.L.Live.is l.live) l.lows.items (take l.at l.rows)
