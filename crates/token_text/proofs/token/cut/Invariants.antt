use Rattle.std.proofs.Common.{◌≡◌, ◌≤◌, ◌+◌, ◌-◌, ◌++◌, length, drop}
use Rattle.token_text.proofs.TokensLaws.{coming}
use Rattle.token_text.proofs.token.cut.Given as goal
use Rattle.token_text.specs.Slices.{LieWithin, tokens_in}
use Rattle.token_text.specs.Tokens.{lowered, tokens}

-- The tokens found, and those to come, are the text's; and what is to come lies lowered in the buffer.
abbrev pub invariant-cutting : goal.invariant-cutting
invariant-cutting l = record {
  found : tokens l.text l.stops.words
      ≡ tokens_in l.bytes l.parts.items ++ coming l.stops.words (length l.parts.items + 1) (drop l.from l.text);
  within : LieWithin l.from l.parts.items;
  inside : LieWithin (length l.text) l.parts.items;
  unread : drop l.from l.bytes ≡ lowered (drop l.from l.text);
  long : length l.bytes ≡ length l.text;
  fewer : length l.parts.items ≤ l.from;
  few : length l.parts.items ≤ length l.text;
}

abbrev pub decreases-cutting : goal.decreases-cutting
decreases-cutting l = length l.text - l.from
