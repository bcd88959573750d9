use Rattle.std.specs.Prelude.{◌≡◌, ◌++◌}
use Rattle.std.specs.List.{flat_map}
use Rattle.std.specs.Vec.Iter.{into_iter_items}
use Rattle.ft_machine.specs.Aggregating.{cell_replies}
use Rattle.search_exec.proofs.replied_rows.cells_reply.Given as goal

-- the cells that are shown and those that are left are the whole
abbrev pub invariant-showing : goal.invariant-showing
invariant-showing l = l.replies.items ++ flat_map cell_replies (into_iter_items l.cell-iterator) ≡ flat_map cell_replies l.fn.cells.items
