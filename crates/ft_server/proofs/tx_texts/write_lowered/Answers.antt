use Rattle.std.proofs.Common.{arith, rules}
use Rattle.ft_server.proofs.PieceLaws.{left_cut, left_more, lowered_next, whatever}
use Rattle.ft_server.proofs.tx_texts.write_lowered.Goals as goal

pub returns-in_err-write_all-clause-cut : goal.returns-in_err-write_all-clause-cut
returns-in_err-write_all-clause-cut g c =
    whatever c.from_residual.result
    (left_cut _ _ _ _ _ _ _ c.loop-byte.invariant.bytes
    (lowered_next c.args.word.now c.loop-byte.byte-index c.to_ascii_lowercase.result c.to_ascii_lowercase.ensures.value c.loop-byte-test.true) c.in_err-write_all.ensures.front)

pub loop-byte-preserved : goal.loop-byte-preserved
loop-byte-preserved g c = record {
  bytes = left_more _ _ _ _ _ _ _ c.loop-byte.invariant.bytes
      (lowered_next c.args.word.now c.loop-byte.byte-index c.to_ascii_lowercase.result c.to_ascii_lowercase.ensures.value c.loop-byte-test.true) c.in_ok-write_all.ensures.bytes;
  left = search rules;
  later = omega arith;
  other = search rules;
}
