use Rattle.std.specs.Prelude.{◌≡◌, [], drop, fold}
use Rattle.agg_pipeline.specs.Rows.{load_cell}
use Rattle.agg_pipeline.proofs.loading.named_cells.Given as goal

-- the cells so far, and then those of the names that are left
abbrev pub invariant-loop-name : goal.invariant-loop-name
invariant-loop-name l = fold (load_cell l.def l.doc) l.cells (drop l.name-index l.names) ≡ fold (load_cell l.def l.doc) [] l.names
