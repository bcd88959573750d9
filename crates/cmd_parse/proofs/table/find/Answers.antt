use Rattle.std.proofs.Common.{◌∙◌, sym}
use Rattle.cmd_parse.proofs.TableLaws.{form_in-here, form_in-past}
use Rattle.cmd_parse.proofs.table.find.Goals as goal

pub returns-then-is_name : goal.returns-then-is_name
returns-then-is_name c =
    sym (c.loop-row.invariant ∙ form_in-here c.args.word.now c.args.rows.now c.loop-row.row-index _ c.loop-row-test.true (sym c.if-is_name.ensures))

pub loop-row-preserved : goal.loop-row-preserved
loop-row-preserved c =
    c.loop-row.invariant ∙ form_in-past c.args.word.now c.args.rows.now c.loop-row.row-index _ c.loop-row-test.true (sym c.if-is_name.ensures)
