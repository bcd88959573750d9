use Rattle.std.proofs.Common.{◌≡◌, take}
use Rattle.numeric_ranges.specs.Rows.{Knows}
use Rattle.numeric_ranges.specs.declared.spread.Spread.TheVariants.{Unknown}
use Rattle.numeric_ranges.proofs.row.spread_of.Given as goal

abbrev pub invariant-values : goal.invariant-values
invariant-values l = record {
  knows : Knows l.spread (take l.hit-index l.entries);
  known : ¬ (l.spread ≡ Unknown);
}
