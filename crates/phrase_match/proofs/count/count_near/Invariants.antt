use Rattle.std.proofs.Common.{◌<◌, ◌≤◌, ◌-◌, ◌+◌, length, get_or}
use Rattle.phrase_match.proofs.count.count_near.Given as goal

-- the places passed over are below
abbrev pub invariant-doubling : goal.invariant-doubling
invariant-doubling l = record {
  short : l.below ≤ length l.list;
  ahead : l.below < l.reach;
  passed : 0 < l.below → get_or l.list (l.below - 1) 0 < l.low;
}

abbrev pub decreases-doubling : goal.decreases-doubling
decreases-doubling l = length l.list + length l.list + 2 - l.reach
