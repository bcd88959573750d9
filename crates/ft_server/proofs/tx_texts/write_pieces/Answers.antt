use Rattle.std.proofs.Common.{arith, rules}
use Rattle.ft_server.proofs.PieceLaws.{joined_drop, left_cut, left_more, whatever}
use Rattle.ft_server.proofs.tx_texts.write_pieces.Goals as goal

pub returns-in_err-write_all-clause-cut : goal.returns-in_err-write_all-clause-cut
returns-in_err-write_all-clause-cut g c =
    whatever c.from_residual.result
    (left_cut _ _ _ _ _ _ _ c.loop-piece.invariant.bytes (joined_drop (λ piece. piece.now) c.args.pieces.now c.loop-piece.piece-index _ c.loop-piece-test.true)
    c.in_err-write_all.ensures.front)

pub loop-piece-preserved : goal.loop-piece-preserved
loop-piece-preserved g c = record {
  bytes = left_more _ _ _ _ _ _ _ c.loop-piece.invariant.bytes (joined_drop (λ piece. piece.now) c.args.pieces.now c.loop-piece.piece-index _ c.loop-piece-test.true)
      c.in_ok-write_all.ensures.bytes;
  left = search rules;
  later = omega arith;
  other = search rules;
}
