use Rattle.std.proofs.Common.{◌<◌, sym, subst, arith}
use Rattle.std.proofs.lemmas.Grind.{common_steps}
use Rattle.inverted_list.specs.Listing.{last_id, with_entry}
use Rattle.term_dict.specs.Rows.{lists_of}
use Rattle.term_dict.specs.Terms.{entries_of, list_or_fresh}
use Rattle.term_dict.proofs.TermLaws.{ids_added, ids_set}
use Rattle.term_dict.proofs.dictionary.Dictionary.add.Goals as goal

pub invariant_of-self-2 : goal.invariant_of-self-2
invariant_of-self-2 g c =
    let old = lists_of c.self.inside.lists.entries in
    let word = c.args.word.now in
    let added = with_entry (list_or_fresh old word c.args.markers.now) c.args.id c.args.hit.now in
    let above = subst (λ lists. last_id 0 (entries_of lists word) < c.args.id) (sym c.self.view_is) c.requires in
    record {
      ids = ids_set word added old (lists_of c.add_entry.new.lists.entries) c.self.invariant.ids c.in_ok-add_entry.ensures.ok
          (ids_added old word c.args.markers.now c.args.id c.args.hit.now c.self.invariant.ids above);
      counted = grind (arith, common_steps);
    }
