use Rattle.std.specs.BTreeMap.{is_at}
use Rattle.std.specs.Map.{lookup}
use Rattle.std.specs.Ordering.{nat_cmp}
use Rattle.std.proofs.Common.{◌≡◌, ◌+◌, ◌<◌, ◌∙◌, ap, sym, subst, refl, IsSome, Some, None}
use Rattle.std.proofs.lemmas.Result.{on_ok_weaker, on_err_weaker}
use Rattle.inverted_list.specs.Listing.{last_id, with_entry}
use Rattle.term_dict.specs.Terms.{entries_of, list_of, list_or_fresh}
use Rattle.term_dict.specs.Tags.{FieldTags, entries_in_fields}
use Rattle.term_dict.proofs.CountLaws.{fields_first, fields_more}
use Rattle.term_dict.proofs.TagLaws.{Puts, tags_found, puts_rows, sets_tag, written_same}
use Rattle.term_dict.proofs.tags.add_entry.Goals as goal

pub add_tag-requires : goal.add_tag-requires
add_tag-requires c =
    subst (λ tags. last_id 0 (entries_of tags c.args.tag.now) < c.args.id)
    (tags_found c.args.field c.args.fields.now.entries (Some c.in-Some.tags.now) c.in-Some.ensures.value) c.requires

pub returns-in-Some-clause-ok : goal.returns-in-Some-clause-ok
returns-in-Some-clause-ok c =
    let rows = c.args.fields.now.entries in
    let written = c.get_mut.follows.holds c.add_tag.new.tags in
    let updates = written.3 (subst IsSome c.in-Some.ensures.value refl) in
    on_ok_weaker c.add_tag.result
    (λ sets. sets_tag c.args.field c.args.tag.now (λ tags. Some (with_entry (list_or_fresh tags c.args.tag.now c.args.markers.now) c.args.id c.args.hit.now))
    c.add_tag.new.tags c.in-Some.tags.now rows (c.get_mut.follows.lender c.add_tag.new.tags).entries
    (puts_rows c.args.field c.add_tag.new.tags rows (c.get_mut.follows.lender c.add_tag.new.tags).entries updates.1 updates.2)
    (tags_found c.args.field rows (Some c.in-Some.tags.now) c.in-Some.ensures.value) sets)
    c.add_tag.ensures.ok

pub returns-in-Some-clause-err : goal.returns-in-Some-clause-err
returns-in-Some-clause-err c =
    on_err_weaker c.add_tag.result
    (λ same. written_same c.args.field c.add_tag.new.tags c.in-Some.tags.now c.args.fields.now.entries
    (c.get_mut.follows.lender c.add_tag.new.tags).entries (c.get_mut.follows.holds c.add_tag.new.tags).0 same c.in-Some.ensures.value)
    c.add_tag.ensures.err

pub returns-in-Some-clause-kept : goal.returns-in-Some-clause-kept
returns-in-Some-clause-kept c = λ some.
    c.add_tag.ensures.kept (subst (λ tags. IsSome (list_of tags c.args.tag.now))
    (tags_found c.args.field c.args.fields.now.entries (Some c.in-Some.tags.now) c.in-Some.ensures.value) some)

pub returns-in_err-add_tag-clause-kept : goal.returns-in_err-add_tag-clause-kept
returns-in_err-add_tag-clause-kept c = λ some.
    c.add_tag-2.ensures.kept (subst (λ tags. IsSome (list_of tags c.args.tag.now))
    (tags_found c.args.field c.args.fields.now.entries None c.in_default.ensures.value ∙ sym c.new-tags.ensures) some)

pub returns-in_err-insert-clause-kept : goal.returns-in_err-insert-clause-kept
returns-in_err-insert-clause-kept c = λ some.
    c.add_tag-2.ensures.kept (subst (λ tags. IsSome (list_of tags c.args.tag.now))
    (tags_found c.args.field c.args.fields.now.entries None c.in_default.ensures.value ∙ sym c.new-tags.ensures) some)

pub returns-clause-ok : goal.returns-clause-ok
returns-clause-ok c =
    let rows = c.args.fields.now.entries in
    let updates = c.in_ok-insert.ensures.updates in
    let puts = puts_rows c.args.field c.add_tag-2.new.tags c.get_mut.follows.lender-at-none.entries c.insert.new.self.entries updates.1 updates.2 in
    sets_tag c.args.field c.args.tag.now (λ tags. Some (with_entry (list_or_fresh tags c.args.tag.now c.args.markers.now) c.args.id c.args.hit.now))
    c.add_tag-2.new.tags c.new-tags.result rows c.insert.new.self.entries
    (subst (λ (old : FieldTags). Puts c.args.field c.add_tag-2.new.tags old c.insert.new.self.entries) (ap (λ m. m.entries) c.get_mut.follows.holds-at-none) puts)
    (tags_found c.args.field rows None c.in_default.ensures.value ∙ sym c.new-tags.ensures) c.in_ok-add_tag.ensures.ok

pub returns-clause-kept : goal.returns-clause-kept
returns-clause-kept c = λ some.
    c.add_tag-2.ensures.kept (subst (λ tags. IsSome (list_of tags c.args.tag.now))
    (tags_found c.args.field c.args.fields.now.entries None c.in_default.ensures.value ∙ sym c.new-tags.ensures) some)

pub returns-in-Some-clause-counted : goal.returns-in-Some-clause-counted
returns-in-Some-clause-counted c =
    on_ok_weaker c.add_tag.result
    (λ more. fields_more c.args.field c.args.fields.now.entries (c.get_mut.follows.lender c.add_tag.new.tags).entries c.in-Some.tags.now c.add_tag.new.tags
    (sym c.in-Some.ensures.value) (c.get_mut.follows.holds c.add_tag.new.tags).0 more)
    c.add_tag.ensures.counted

pub returns-clause-counted : goal.returns-clause-counted
returns-clause-counted c =
    let before = ap (λ m. m.entries) c.get_mut.follows.holds-at-none in
    subst (λ (old : FieldTags). entries_in_fields c.insert.new.self.entries ≡ entries_in_fields old + 1) before
    (fields_first c.args.field c.get_mut.follows.lender-at-none.entries c.insert.new.self.entries c.new-tags.result c.add_tag-2.new.tags
    c.insert.ensures.was_ordered (ap (lookup (is_at (nat_cmp c.args.field))) before ∙ sym c.in_default.ensures.value) c.in_ok-insert.ensures.entries c.new-tags.ensures c.in_ok-add_tag.ensures.counted)
