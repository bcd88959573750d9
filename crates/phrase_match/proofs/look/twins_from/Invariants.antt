use Rattle.std.proofs.Common.{◌≡◌, ◌≤◌, take}
use Rattle.std.specs.List.{count_by}
use Rattle.phrase_match.specs.Look.{begins_with}
use Rattle.phrase_match.proofs.look.twins_from.Given as goal

abbrev pub invariant-words : goal.invariant-words
invariant-words l = record {
  counted : l.equals ≡ count_by (begins_with l.first) (take l.word l.words);
  few : l.equals ≤ l.word;
}
