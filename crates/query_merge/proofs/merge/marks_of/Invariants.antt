use Rattle.std.proofs.Common.{◌≡◌, length, take}
use Rattle.query_merge.specs.Merged.{AreParts, marked}
use Rattle.query_merge.proofs.merge.marks_of.Given as goal

abbrev pub invariant-queries : goal.invariant-queries
invariant-queries l = record {
  count : length l.marks.items ≡ l.at;
  parts : AreParts (take l.at l.queries) (marked l.queries l.marks.items);
}
