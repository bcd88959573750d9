use Rattle.std.specs.Prelude.{◌≡◌, ◌∷◌, ◌++◌, length, map, pos}
use Rattle.std.specs.Vec.Iter.{into_iter_items}
use Rattle.ft_base.specs.declared.reply.Reply.TheVariants.{Number}
use Rattle.ft_machine.specs.Aggregating.{row_reply}
use Rattle.search_exec.proofs.replied_rows.rows_reply.Given as goal

-- the number and the rows that are shown, with those that are left, are the whole
abbrev pub invariant-showing : goal.invariant-showing
invariant-showing l = l.replies.items ++ map row_reply (into_iter_items l.row-iterator) ≡ Number (pos (length l.fn.rows.items)) ∷ map row_reply l.fn.rows.items
