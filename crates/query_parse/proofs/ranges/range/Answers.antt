use Rattle.std.proofs.Common.{Some, ap, sym, ◌∙◌}
use Rattle.query_parse.proofs.Ranging.{range-read}
use Rattle.query_parse.proofs.ranges.range.Goals as goal

pub returns-in-Some-RangeClose-clause-read : goal.returns-in-Some-RangeClose-clause-read
returns-in-Some-RangeClose-clause-read c =
    let def = c.args.parser.now.def.now in
    let params = c.args.parser.now.params in
    rw c.behind.ensures.value (range-read def params c.args.field _ _ _ _ _ _ (c.in_ok-low.ensures.read def) (c.in_ok-high.ensures.read def) (sym c.next_sign.ensures ∙ (c.in-Some-RangeClose.is ∙ ap Some c.in-Some-RangeClose.field-0-is)) (c.range_by-range.ensures def))
