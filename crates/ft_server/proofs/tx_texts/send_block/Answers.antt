use Rattle.std.proofs.Common.{◌∙◌, ap, arith, rules}
use Rattle.std.specs.Fmt.{decimal}
use Rattle.ft_server.proofs.PieceLaws.{block_pieces, joined_next, left_all, left_cut, left_more, whatever}
use Rattle.ft_server.proofs.tx_texts.send_block.Goals as goal

pub returns-in_err-write_pieces-clause-cut : goal.returns-in_err-write_pieces-clause-cut
returns-in_err-write_pieces-clause-cut g c =
    let digits = c.as_bytes-digits.ensures.value ∙ c.format.ensures.text ∙ ap decimal c.len.ensures in
    whatever c.from_residual.result
    (left_cut _ _ _ _ _ _ _ (left_all _ _) (block_pieces c.as_bytes-digits.result.now c.args.outs.now digits) c.in_err-write_pieces.ensures.cut)

pub returns-in_err-write_all-clause-cut : goal.returns-in_err-write_all-clause-cut
returns-in_err-write_all-clause-cut g c =
    whatever c.from_residual-in_err-write_all.result
    (left_cut _ _ _ _ _ _ _ c.loop-at.invariant.bytes (joined_next c.args.outs.now c.loop-at.at c.reply.result.now c.reply.ensures (omega arith))
    c.in_err-write_all.ensures.front)

pub loop-at-preserved : goal.loop-at-preserved
loop-at-preserved g c = record {
  bytes = left_more _ _ _ _ _ _ _ c.loop-at.invariant.bytes (joined_next c.args.outs.now c.loop-at.at c.reply.result.now c.reply.ensures (omega arith))
      c.in_ok-write_all.ensures.bytes;
  left = search rules;
  later = omega arith;
  other = search rules;
}
