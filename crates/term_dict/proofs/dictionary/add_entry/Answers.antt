use Rattle.std.proofs.Common.{◌≡◌, ◌+◌, ◌∙◌, List, ap, sym, subst, refl, arith, is_some, IsSome, Some, None}
use Rattle.std.proofs.lemmas.Bool.{false≢true}
use Rattle.std.proofs.lemmas.Map.Steps.{set_value_same}
use Rattle.std.proofs.lemmas.Result.{on_ok_weaker, on_err_weaker}
use Rattle.std.specs.BTreeMap.{is_at}
use Rattle.std.specs.Map.{set_value}
use Rattle.std.specs.Option.{unwrap_or}
use Rattle.inverted_list.specs.Listing.{with_entry}
use Rattle.term_dict.specs.Terms.{Sets, fresh_list, list_or_fresh}
use Rattle.term_dict.specs.Rows.{lists_of}
use Rattle.std.specs.Result.{OnOk}
use Rattle.term_dict.specs.Terms.{entries_in_all, list_of}
use Rattle.term_dict.proofs.CountLaws.{counted_appended}
use Rattle.term_dict.proofs.TermLaws.{Row, sets_rows, sets_same, found, above_last, word_at}
use Rattle.term_dict.proofs.dictionary.add_entry.Goals as goal

pub append-requires : goal.append-requires
append-requires g c =
    above_last (lists_of c.args.lists.now.entries) c.args.word.now c.args.id c.in-Some.list.now (found c.args.word.now c.args.lists.now.entries (Some c.in-Some.list.now) c.in-Some.ensures.value) c.requires

pub returns-in-Some-clause-ok : goal.returns-in-Some-clause-ok
returns-in-Some-clause-ok g c =
    let rows = c.args.lists.now.entries in
    let word = c.args.word.now in
    let updates = (c.get_mut.follows.holds c.append.new.self).3 (subst IsSome c.in-Some.ensures.value refl) in
    let sets = sets_rows word (Some c.append.new.self) rows (c.get_mut.follows.lender c.append.new.self).entries updates.1 updates.3 in
    let known = ap (λ list. with_entry (unwrap_or list (fresh_list c.args.markers.now)) c.args.id c.args.hit.now) (sym (found word rows (Some c.in-Some.list.now) c.in-Some.ensures.value)) in
    on_ok_weaker c.append.result (λ e. sets_same word c.append.new.self (with_entry (list_or_fresh (lists_of rows) word c.args.markers.now) c.args.id c.args.hit.now) _ _ (e ∙ known) sets) c.append.ensures.ok

pub returns-in-Some-clause-err : goal.returns-in-Some-clause-err
returns-in-Some-clause-err g c =
    on_err_weaker c.append.result
    (λ e. (c.get_mut.follows.holds c.append.new.self).0
    ∙ (ap (set_value (is_at (word_at c.args.word.now)) c.args.lists.now.entries) e
    ∙ set_value_same (is_at (word_at c.args.word.now)) c.args.lists.now.entries c.in-Some.list.now (sym c.in-Some.ensures.value)))
    c.append.ensures.err

pub returns-in-Some-clause-taken : goal.returns-in-Some-clause-taken
returns-in-Some-clause-taken g c =
    rw (found c.args.word.now c.args.lists.now.entries (Some c.in-Some.list.now) c.in-Some.ensures.value) (on_ok_weaker c.append.result (λ _. omega arith) c.append.ensures.ok)

pub returns-clause-kept : goal.returns-clause-kept
returns-clause-kept g c = λ some. absurd (false≢true (sym (ap is_some (found c.args.word.now c.args.lists.now.entries None c.in_default.ensures.value)) ∙ some))

pub returns-clause-ok : goal.returns-clause-ok
returns-clause-ok g c =
    let rows = c.args.lists.now.entries in
    let word = c.args.word.now in
    let first = with_entry (fresh_list c.args.markers.now) c.args.id c.args.hit.now in
    let before = ap (λ m. m.entries) c.get_mut.follows.holds-at-none in
    let fresh = ap (λ list. with_entry (unwrap_or list (fresh_list c.args.markers.now)) c.args.id c.args.hit.now) (sym (found word rows None c.in_default.ensures.value)) in
    on_ok_weaker c.add_word.result (λ sets. sets_same word first (with_entry (list_or_fresh (lists_of rows) word c.args.markers.now) c.args.id c.args.hit.now) _ _ fresh
    (subst (λ es. Sets word (Some first) (lists_of es) (lists_of c.add_word.new.lists.entries)) before sets)) c.add_word.ensures.ok

pub returns-clause-taken : goal.returns-clause-taken
returns-clause-taken g c = rw (found c.args.word.now c.args.lists.now.entries None c.in_default.ensures.value) c.add_word.ensures.taken

pub returns-in-Some-clause-counted : goal.returns-in-Some-clause-counted
returns-in-Some-clause-counted g c =
    on_ok_weaker c.append.result
    (λ e. counted_appended c.args.word.now c.args.lists.now.entries (c.get_mut.follows.lender c.append.new.self).entries c.in-Some.list.now c.append.new.self c.args.id c.args.hit.now
    (sym c.in-Some.ensures.value) (c.get_mut.follows.holds c.append.new.self).0 e)
    c.append.ensures.ok

pub returns-clause-counted : goal.returns-clause-counted
returns-clause-counted g c =
    let before = ap (λ m. m.entries) c.get_mut.follows.holds-at-none in
    subst (λ (es : List (Row g.row.P.Denot)). OnOk c.add_word.result (entries_in_all (lists_of c.add_word.new.lists.entries) ≡ entries_in_all (lists_of es) + 1)) before
    (c.add_word.ensures.counted (ap (λ (es : List (Row g.row.P.Denot)). list_of (lists_of es) c.args.word.now) before
    ∙ found c.args.word.now c.args.lists.now.entries None c.in_default.ensures.value))
