use Rattle.std.specs.Prelude.{◌≡◌, ◌∷◌, length, map, pos, take}
use Rattle.ft_base.specs.declared.reply.Reply.TheVariants.{Number}
use Rattle.ft_machine.specs.Aggregating.{row_reply}
use Rattle.search_exec.proofs.replied_rows.lent_rows_reply.Given as goal

-- the number and the rows so far are shown
abbrev pub invariant-showing : goal.invariant-showing
invariant-showing l = l.replies.items ≡ Number (pos (length l.rows)) ∷ map row_reply (take l.row-index l.rows)
