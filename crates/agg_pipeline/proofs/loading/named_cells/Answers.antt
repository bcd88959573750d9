use Rattle.std.proofs.Common.{◌∙◌, ◌+◌, ap, drop, List}
use Rattle.std.specs.Prelude.{fold}
use Rattle.ft_base.specs.declared.row.Cell.{Cell}
use Rattle.agg_pipeline.specs.Rows.{load_cell}
use Rattle.agg_pipeline.proofs.LoadingLaws.{fold-next}
use Rattle.agg_pipeline.proofs.loading.named_cells.Goals as goal

pub loop-name-preserved : goal.loop-name-preserved
loop-name-preserved c =
    ap (λ (cells : List Cell). fold (load_cell c.args.def.now c.args.doc.now) cells (drop (c.loop-name.name-index + 1) c.args.names.now))
    (c.in_ok-load_cell.ensures ∙ ap (load_cell c.args.def.now c.args.doc.now c.loop-name.cells) c.as_slice.ensures)
    ∙ fold-next (load_cell c.args.def.now c.args.doc.now) c.loop-name.cells c.args.names.now c.loop-name.name-index c.name-item.result c.loop-name-test.true c.name-item.is
    ∙ c.loop-name.invariant
