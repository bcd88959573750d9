use Rattle.std.proofs.Common.{◌≡◌, length, take}
use Rattle.query_merge.proofs.alike.same_tags.Given as goal

abbrev pub invariant-tags : goal.invariant-tags
invariant-tags l = record {
  lengths : length l.tags ≡ length l.others;
  before : take l.at l.tags ≡ take l.at l.others;
}
