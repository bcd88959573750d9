use Rattle.std.proofs.Common.{◌≡◌, ◌+◌, take}
use Rattle.phrase_match.specs.Turns.{place_count}
use Rattle.phrase_match.proofs.turns.are_fewer.Given as goal

abbrev pub invariant-lists : goal.invariant-lists
invariant-lists l = l.left + place_count (take l.list-index l.lists) ≡ l.words
