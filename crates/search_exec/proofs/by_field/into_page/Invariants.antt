use Rattle.std.specs.Prelude.{◌≡◌, ◌∷◌, List, pos}
use Rattle.std.specs.List.{flat_map}
use Rattle.ft_base.specs.declared.reply.Reply.{Reply}
use Rattle.ft_base.specs.declared.reply.Reply.TheVariants.{Number}
use Rattle.row_sort.specs.declared.rows.Ranked.{Ranked}
use Rattle.search_exec.proofs.by_field.into_page.Given as goal

-- the number, and the rows so far
abbrev pub invariant-showing : goal.invariant-showing
invariant-showing l = l.replies.items ≡ Number (pos l.total) ∷ flat_map (λ (row : Ranked (List Reply)). row.item) l.yielded
