use Rattle.std.proofs.Common.{ap, sym, subst, ◌∙◌}
use Rattle.ft_index.proofs.ListLaws.{last_id-push}
use Rattle.gc_splice.specs.Growing.{Grows}
use Rattle.gc_splice.proofs.GrowingLaws.{grows_again, grows_entry, grows_same}
use Rattle.inverted_list.specs.Listing.{last_id}
use Rattle.leaf_rows.proofs.lists.splices.append_all.Goals as goal
use Rattle.leaf_rows.proofs.lists.splices.append_all.Goals.{then-end-id+then-id-lt1000000+in_ok-append, else-end-id}

pub ids-init : goal.ids-init
ids-init c = record { last = c.requires; grows = grows_same c.args.list.now }

pub ids-preserved : goal.ids-preserved
ids-preserved c = elim c.if-end-id.branch [
  | then-end-id+then-id-lt1000000+in_ok-append w ↦ record {
    last = ap (λ l. last_id 0 l.entries) (w.list-is ∙ w.in_ok-append.ensures.ok) ∙ (last_id-push 0 _ _ c.ids.list.entries ∙ sym w.end-is);
    grows = subst (Grows c.args.list.now) (sym (w.list-is ∙ w.in_ok-append.ensures.ok)) (grows_again c.args.list.now c.ids.list _ c.ids.invariant.grows (grows_entry c.ids.list _ _));
  }
  | else-end-id w ↦ record {
    last = ap (λ l. last_id 0 l.entries) w.list-is ∙ (c.ids.invariant.last ∙ sym w.end-is);
    grows = subst (Grows c.args.list.now) (sym w.list-is) c.ids.invariant.grows;
  }
]
