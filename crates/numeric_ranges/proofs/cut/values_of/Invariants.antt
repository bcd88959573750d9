use Rattle.std.proofs.Common.{◌≡◌, take}
use Rattle.numeric_ranges.specs.Rows.{AreNumbers}
use Rattle.numeric_ranges.specs.Values.{values}
use Rattle.numeric_ranges.proofs.cut.values_of.Given as goal

abbrev pub invariant-values : goal.invariant-values
invariant-values l = record {
  values : l.copy.items ≡ values (take l.hit-index l.entries);
  numbers : AreNumbers l.copy.items;
}
