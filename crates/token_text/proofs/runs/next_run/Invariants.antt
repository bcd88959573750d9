use Rattle.std.proofs.Common.{◌≡◌, ◌≤◌, ◌+◌, ◌-◌, ◌++◌, false, [], length, drop, take}
use Rattle.token_text.proofs.runs.next_run.Given as goal
use Rattle.token_text.specs.Runs.{begins_escape}
use Rattle.token_text.specs.Slices.{between}
use Rattle.token_text.specs.Tokens.{lowered, runs, split, units}

-- The run is what lies in the buffer, and what it still has behind the separator; and there it ends, unless that is escaped.
abbrev pub invariant-escapes : goal.invariant-escapes
invariant-escapes l = record {
  word : lowered (split (units (drop l.from l.text))).0 ≡ between l.bytes l.from l.to ++ lowered (split (units (drop l.end l.text))).0;
  others : (split (units (drop l.from l.text))).1 ≡ (split (units (drop l.end l.text))).1;
  ends : begins_escape (drop l.end l.text) ≡ false → split (units (drop l.end l.text)) ≡ ([], runs (drop (l.end + 1) l.text));
  some : l.from ≤ l.to;
  order : l.to ≤ l.end;
  within : l.end ≤ length l.text;
  long : length l.bytes ≡ length l.text;
  kept : take l.from l.bytes ≡ take l.from l.initial.bytes;
  unread : drop l.end l.bytes ≡ lowered (drop l.end l.text);
}

abbrev pub decreases-escapes : goal.decreases-escapes
decreases-escapes l = length l.text - l.end
