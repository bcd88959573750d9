use Rattle.std.proofs.Common.{◌≡◌, ◌+◌, ◌-◌, min}
use Rattle.id_rows.specs.IdRows.{IsSpan}
use Rattle.id_rows.proofs.places.place_within.Given as goal

abbrev pub invariant-narrowing : goal.invariant-narrowing
invariant-narrowing g l = record {
  span : IsSpan g.T.HasId.id_of l.id l.rows l.span.below l.span.below_id l.span.above l.span.above_id;
  low : l.low ≡ l.span.above - min (l.span.above - l.span.below - 1) (l.span.above_id - l.id);
  high : l.high ≡ l.span.below + min (l.span.above - l.span.below) (l.id - l.span.below_id);
}

abbrev pub decreases-narrowing : goal.decreases-narrowing
decreases-narrowing g l = l.span.above - l.span.below
