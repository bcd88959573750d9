use Rattle.std.specs.Prelude.{◌≡◌, drop, fold}
use Rattle.agg_pipeline.specs.Table.{note_row}
use Rattle.agg_pipeline.proofs.grouping.note_all.Given as goal

-- the table of the rows so far, and then of those that are left
abbrev pub invariant-loop-row : goal.invariant-loop-row
invariant-loop-row l = fold (note_row l.def l.by l.reduce) l.groups (drop l.row-index l.rows) ≡ fold (note_row l.def l.by l.reduce) l.fn.groups l.rows
