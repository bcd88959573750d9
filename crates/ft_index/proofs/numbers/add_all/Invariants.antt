use Rattle.std.proofs.Common.{take}
use Rattle.ft_index.specs.Adding.{RangesUnseen}
use Rattle.ft_index.specs.Markers.{TakesLists, range_list}
use Rattle.ft_index.specs.Numbering.{RangesGain}
use Rattle.ft_index.specs.UpTo.{RangesUpTo}
use Rattle.ft_index.proofs.numbers.add_all.Given as goal

-- the numbers of the fields so far are in their ranges
abbrev pub invariant-loop-number : goal.invariant-loop-number
invariant-loop-number l = record {
  added : RangesGain (take l.number l.fields) l.doc l.fn.ranges l.ranges;
  unseen : RangesUnseen l.doc.id l.fn.ranges l.ranges;
  up_to : RangesUpTo l.doc.id l.ranges;
  takes : TakesLists l.fn.markers l.markers (range_list l.fn.ranges) (range_list l.ranges);
}
