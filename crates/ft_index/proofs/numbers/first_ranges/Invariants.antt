use Rattle.std.proofs.Common.{◌≡◌, ℕ, None, length, take}
use Rattle.std.specs.Prelude.{slice_get}
use Rattle.ft_index.specs.Lists.{rows_of}
use Rattle.ft_index.specs.Markers.{TakesMarkers, range_marker}
use Rattle.ft_index.specs.Numbering.{IsFirst}
use Rattle.ft_index.proofs.numbers.first_ranges.Given as goal

-- the fields so far have their ranges
abbrev pub invariant-loop-field : goal.invariant-loop-field
invariant-loop-field l = record {
  many : length l.ranges.items ≡ l.field-index;
  first : (number : ℕ) → IsFirst (slice_get (take l.field-index l.field-items) number) (rows_of l.ranges.items number);
  takes : TakesMarkers l.fn.markers l.markers (λ _. None) (range_marker l.ranges.items);
}
