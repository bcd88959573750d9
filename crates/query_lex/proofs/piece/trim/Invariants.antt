use Rattle.std.proofs.Common.{◌≡◌, length}
use Rattle.query_lex.specs.Pieces.{trimmed}
use Rattle.query_lex.proofs.piece.trim.Given as goal

-- what is left is trimmed to the same
abbrev pub invariant-trimming : goal.invariant-trimming
invariant-trimming l = trimmed l.piece.items ≡ trimmed l.fn.piece.items

abbrev pub decreases-trimming : goal.decreases-trimming
decreases-trimming l = length l.piece.items
