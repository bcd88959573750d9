use Rattle.std.proofs.Common.{◌≡◌, ◌+◌, length, arith}
use Rattle.token_text.proofs.SlicesLaws.{bounds-at, token-at}
use Rattle.token_text.proofs.text_tokens.word_at.Goals as goal

pub slice_bounds-result-count : goal.slice_bounds-result-count
slice_bounds-result-count c =
    let bounds = bounds-at (length c.args.bytes.now) c.args.parts.now c.args.i (record { from = 0; to = 0 }) c.requires.within c.requires.index in
    omega (arith, bounds.0, bounds.1)

pub slice_bounds-result-start : goal.slice_bounds-result-start
slice_bounds-result-start c =
    let bounds = bounds-at (length c.args.bytes.now) c.args.parts.now c.args.i (record { from = 0; to = 0 }) c.requires.within c.requires.index in
    omega (arith, bounds.0, bounds.1)

pub slice_bounds-result-end : goal.slice_bounds-result-end
slice_bounds-result-end c =
    let bounds = bounds-at (length c.args.bytes.now) c.args.parts.now c.args.i (record { from = 0; to = 0 }) c.requires.within c.requires.index in
    omega (arith, bounds.0, bounds.1)

pub returns : goal.returns
returns c =
    let place : c.args.i + 1 ≡ 1 + c.args.i = omega arith in
    token-at c.args.bytes.now 1 c.args.parts.now c.args.i (c.args.i + 1) (record { from = 0; to = 0 }) place c.requires.index
