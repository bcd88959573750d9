use Rattle.std.specs.Prelude.{◌≡◌, ◌++◌, length, map}
use Rattle.agg_pipeline.specs.Rows.{own_cell}
use Rattle.agg_pipeline.proofs.loading.own_cells.Given as goal

-- the cells so far and those of the fields that are left are the whole
abbrev pub invariant-loop-name : goal.invariant-loop-name
invariant-loop-name l = l.cells ++ map (own_cell l.def) l.walk ≡ map (own_cell l.def) l.doc.hash

abbrev pub decreases-loop-name : goal.decreases-loop-name
decreases-loop-name l = length l.walk
