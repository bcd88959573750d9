use Rattle.std.specs.Prelude.{◌≡◌, map, take, IsTrue}
use Rattle.std.specs.List.{list_all}
use Rattle.ft_base.specs.Reply.{fits_wire}
use Rattle.ft_base.specs.declared.reply.Reply.TheVariants.{Bulk}
use Rattle.ft_engine.proofs.indexes.info_tree.bulks.Given as goal

-- the replies so far are the texts so far, and each fits the wire
abbrev pub invariant-loop-text : goal.invariant-loop-text
invariant-loop-text l = record {
  told : l.replies.items ≡ map Bulk (take l.text-index l.texts);
  fit : IsTrue (list_all (λ fits. fits) (map fits_wire l.replies.items));
}
