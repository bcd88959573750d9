use Rattle.std.proofs.Common.{List, arith, rules, subst, sym, ℕ, ◌∙◌}
use Rattle.std.proofs.lemmas.Grind.{common_steps}
use Rattle.ft_index.specs.Adding.{TagsUnseen}
use Rattle.ft_index.specs.Markers.{tag_list}
use Rattle.ft_index.specs.Tagging.{FieldTagsGain}
use Rattle.ft_index.specs.UpTo.{IsAboveTag, TagsUpTo}
use Rattle.ft_index.proofs.TagLaws.{field-later, field-next}
use Rattle.ft_index.proofs.TakingLaws.{lists-again, lists-none}
use Rattle.ft_index.proofs.tags.add_all.Goals as goal

pub add_field-requires-clause-later : goal.add_field-requires-clause-later
add_field-requires-clause-later c =
    subst (λ (id : ℕ). (tag : List ℕ) → IsAboveTag id c.loop-number.lists c.loop-number.number tag) (sym c.id.ensures)
    (field-later c.loop-number.number c.args.fields.now c.args.doc.now c.args.lists.now c.loop-number.lists c.loop-number.invariant.added c.requires.later)

pub loop-number-preserved : goal.loop-number-preserved
loop-number-preserved c = record {
  added = field-next c.loop-number.number c.args.fields.now c.index-fields-number.result c.as_slice.result.now c.args.doc.now c.args.lists.now c.loop-number.lists c.add_field.new.lists
      c.loop-number-test.true c.index-fields-number.is (c.as_slice.ensures ∙ c.in_ok-found.ensures.tags) c.loop-number.invariant.added
      (subst (λ (id : ℕ). FieldTagsGain c.loop-number.number c.as_slice.result.now id c.loop-number.lists c.add_field.new.lists) c.id.ensures c.in_ok-add_field.ensures.ok);
  unseen = λ def live docs dead has. subst (λ (id : ℕ). TagsUnseen id c.loop-number.lists c.add_field.new.lists) c.id.ensures c.add_field.ensures.unseen def live docs dead (c.loop-number.invariant.unseen def live docs dead has);
  up_to = subst (λ (id : ℕ). TagsUpTo id c.add_field.new.lists) c.id.ensures c.add_field.ensures.up_to;
  takes = lists-again c.args.markers.now c.loop-number.markers c.add_field.new.markers (tag_list c.args.lists.now) (tag_list c.loop-number.lists) (tag_list c.add_field.new.lists)
      c.requires.before c.loop-number.invariant.takes c.add_field.ensures.takes;
}

pub returns-clause-ok : goal.returns-clause-ok
returns-clause-ok c = grind (arith, common_steps)

pub returns-in_err-add_field-clause-takes : goal.returns-in_err-add_field-clause-takes
returns-in_err-add_field-clause-takes c =
    lists-again c.args.markers.now c.loop-number.markers c.add_field.new.markers (tag_list c.args.lists.now) (tag_list c.loop-number.lists) (tag_list c.add_field.new.lists)
    c.requires.before c.loop-number.invariant.takes c.add_field.ensures.takes

pub loop-number-init : goal.loop-number-init
loop-number-init c =
    let takes = lists-none c.args.markers.now (tag_list c.args.lists.now) in
    search (rules, takes)
