use Rattle.std.proofs.Common.{◌≡◌, take}
use Rattle.query_lex.specs.Pieces.{bytes_of}
use Rattle.query_lex.proofs.piece.bytes_of.Given as goal

-- the bytes so far are copied
abbrev pub invariant-loop-unit : goal.invariant-loop-unit
invariant-loop-unit l = l.bytes.items ≡ bytes_of (take l.unit-index l.piece)
