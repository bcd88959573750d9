use Rattle.std.specs.Prelude.{◌≡◌, ◌≤◌, ◌++◌, map, take, vec_capacity}
use Rattle.std.specs.Char.{to_ascii_lowercase}
use Rattle.reply_buffer.proofs.refusals.put_lowered.Given as goal

-- the bytes so far are written with small letters
abbrev pub invariant-loop-byte : goal.invariant-loop-byte
invariant-loop-byte l = record {
  text : l.out.items ≡ l.initial.out.items ++ map to_ascii_lowercase (take l.byte-index l.word);
  room : vec_capacity l.initial.out ≤ vec_capacity l.out;
}
