use Rattle.std.proofs.Common.{◌≤◌, ◌-◌, length, take, drop}
use Rattle.phrase_match.proofs.AnyOrderLaws.{AllPlaced}
use Rattle.phrase_match.proofs.any_order.look_in_any_order.Given as goal

-- The words from here on are placed.
abbrev pub invariant-words : goal.invariant-words
invariant-words l = record {
  within : l.left ≤ length l.words;
  placed : AllPlaced l.slop l.low (length l.words - 1) (take l.left l.words) (drop l.left l.words);
}

abbrev pub decreases-words : goal.decreases-words
decreases-words l = l.left
