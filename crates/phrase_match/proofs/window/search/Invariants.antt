use Rattle.std.proofs.Common.{◌≡◌, ◌-◌, ◌^◌}
use Rattle.phrase_match.specs.Phrase.{within}
use Rattle.phrase_match.specs.Look.{all_from}
use Rattle.phrase_match.proofs.window.search.Given as goal

-- The places from here on are enough to tell.
abbrev pub invariant-looking : goal.invariant-looking
invariant-looking l = within (all_from l.low l.words) l.slop l.in_order ≡ within l.words l.slop l.in_order

abbrev pub decreases-looking : goal.decreases-looking
decreases-looking l = 2 ^ 32 - l.low
