use Rattle.std.proofs.Common.{◌≡◌, length, take}
use Rattle.query_merge.proofs.alike.same_words.Given as goal

abbrev pub invariant-words : goal.invariant-words
invariant-words l = record {
  lengths : length l.words ≡ length l.others;
  before : take l.at l.words ≡ take l.at l.others;
}
