use Rattle.std.specs.Prelude.{◌≡◌, take}
use Rattle.search_exec.proofs.replied_rows.copy_cells.Given as goal

-- the cells so far are copied
abbrev pub invariant-copying : goal.invariant-copying
invariant-copying l = l.copy.items ≡ take l.cell-index l.cells
