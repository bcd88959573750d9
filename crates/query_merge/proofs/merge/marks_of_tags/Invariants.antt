use Rattle.std.proofs.Common.{◌≡◌, length, take}
use Rattle.query_merge.specs.Merged.{AreParts, marked}
use Rattle.query_merge.proofs.merge.marks_of_tags.Given as goal

abbrev pub invariant-tags : goal.invariant-tags
invariant-tags l = record {
  count : length l.marks.items ≡ l.at;
  parts : AreParts (take l.at l.tags) (marked l.tags l.marks.items);
}
