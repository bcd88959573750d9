use Rattle.std.proofs.Common.{ap, sym, ◌∙◌}
use Rattle.ft_index.proofs.ListLaws.{last_id-push}
use Rattle.inverted_list.specs.Listing.{last_id}
use Rattle.leaf_rows.proofs.lists.postings.list_of.Goals as goal
use Rattle.leaf_rows.proofs.lists.postings.list_of.Goals.{then-last-id+then-id-lt1000000+in_ok-append, else-last-id}

pub ids-preserved : goal.ids-preserved
ids-preserved c = elim c.if-last-id.branch [
  | then-last-id+then-id-lt1000000+in_ok-append w ↦
      ap (λ l. last_id 0 l.entries) (w.list-is ∙ w.in_ok-append.ensures.ok) ∙ (last_id-push 0 _ _ c.ids.list.entries ∙ sym w.last-is)
  | else-last-id w ↦ ap (λ l. last_id 0 l.entries) w.list-is ∙ (c.ids.invariant ∙ sym w.last-is)
]
