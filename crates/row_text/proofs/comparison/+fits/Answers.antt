use Rattle.std.proofs.Common.{sym, ◌∙◌, rules}
use Rattle.row_text.proofs.GapLaws.{behind_gap}
use Rattle.row_text.proofs.comparison.+fits.Goals as goal

pub returns-then-fits : goal.returns-then-fits
returns-then-fits t c = λ _.
    behind_gap c.args.want.now c.in-Some.others.now c.args.came.now _ c.as_slice.result.now c.loop-skipped.skipped
    c.in-Some.ensures.cases.0 c.as_slice.ensures.value (sym c.eq.ensures ∙ c.if-eq.true) (c.fits.ensures (search rules))
