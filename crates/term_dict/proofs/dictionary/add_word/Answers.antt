use Rattle.std.proofs.Common.{subst, refl, Some}
use Rattle.term_dict.specs.Rows.{lists_of}
use Rattle.term_dict.specs.Terms.{Sets}
use Rattle.term_dict.proofs.TermLaws.{sets_rows, sets_same}
use Rattle.term_dict.proofs.CountLaws.{counted_first}
use Rattle.inverted_list.specs.Listing.{with_entry}
use Rattle.term_dict.specs.Terms.{fresh_list}
use Rattle.term_dict.proofs.dictionary.add_word.Goals as goal

pub returns-clause-ok : goal.returns-clause-ok
returns-clause-ok g c =
    let updates = c.in_ok-insert.ensures.updates in
    let named = sets_rows c.in_ok-name.name.items (Some c.in_ok-list.list) c.args.lists.now.entries c.insert.new.self.entries updates.1 updates.3 in
    let sets = subst (λ w. Sets w (Some c.in_ok-list.list) (lists_of c.args.lists.now.entries) (lists_of c.insert.new.self.entries)) c.in_ok-name.ensures.items named in
    sets_same c.args.word.now c.in_ok-list.list (with_entry (fresh_list c.args.markers.now) c.args.id c.args.hit.now) _ _ c.in_ok-list.ensures.ok sets

pub returns-clause-counted : goal.returns-clause-counted
returns-clause-counted g c = λ none.
    counted_first c.args.word.now c.in_ok-name.name c.args.lists.now.entries c.insert.new.self.entries (fresh_list c.args.markers.now) c.in_ok-list.list c.args.id c.args.hit.now
    c.insert.ensures.was_ordered c.in_ok-name.ensures.items none c.in_ok-insert.ensures.entries refl c.in_ok-list.ensures.ok
