use Rattle.std.proofs.Common.{◌≡◌, length, take}
use Rattle.query_merge.proofs.alike.+alike.Given as goal

abbrev pub invariant-are_same-parts : goal.invariant-are_same-parts
invariant-are_same-parts l = record {
  lengths : length l.queries ≡ length l.others;
  before : take l.at l.queries ≡ take l.at l.others;
}
