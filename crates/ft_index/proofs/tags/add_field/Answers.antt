use Rattle.std.proofs.lemmas.Grind.{common_steps}
use Rattle.ft_index.specs.Adding.{TagsUnseen}
use Rattle.std.proofs.Common.{arith, rules, subst, sym}
use Rattle.ft_index.specs.Markers.{tag_list}
use Rattle.ft_index.proofs.TagLaws.{tag-later, tag-next, tagged-unseen}
use Rattle.ft_index.proofs.TakingLaws.{lists-again, lists-none}
use Rattle.ft_index.proofs.tags.add_field.Goals as goal

pub add-requires-clause-later : goal.add-requires-clause-later
add-requires-clause-later c =
    tag-later c.loop-tag.tag-index c.args.tags.now c.tag-item.result c.as_slice.result.now c.args.field c.args.id c.args.lists.now c.loop-tag.lists
    c.requires.apart c.loop-tag-test.true c.tag-item.is c.as_slice.ensures c.loop-tag.invariant.added (c.requires.later c.as_slice.result.now)

pub returns-in_err-add-clause-unseen : goal.returns-in_err-add-clause-unseen
returns-in_err-add-clause-unseen c =
    subst (TagsUnseen c.args.id c.args.lists.now) (sym c.in_err-add.ensures.err)
    (tagged-unseen c.loop-tag.tag-index c.args.tags.now c.args.field c.args.id c.args.lists.now c.loop-tag.lists c.loop-tag.invariant.added)

pub returns-clause-unseen : goal.returns-clause-unseen
returns-clause-unseen c =
    tagged-unseen c.loop-tag.tag-index c.args.tags.now c.args.field c.args.id c.args.lists.now c.loop-tag.lists c.loop-tag.invariant.added

pub loop-tag-preserved : goal.loop-tag-preserved
loop-tag-preserved c = record {
  added = tag-next c.loop-tag.tag-index c.args.tags.now c.tag-item.result c.as_slice.result.now c.args.field c.args.id c.args.lists.now c.loop-tag.lists c.add.new.lists
      c.requires.apart c.loop-tag-test.true c.tag-item.is c.as_slice.ensures c.loop-tag.invariant.added c.in_ok-add.ensures.ok;
  up_to = c.add.ensures.up_to;
  takes = lists-again c.args.markers.now c.loop-tag.markers c.add.new.markers (tag_list c.args.lists.now) (tag_list c.loop-tag.lists) (tag_list c.add.new.lists)
      c.requires.before c.loop-tag.invariant.takes c.add.ensures.takes;
}

pub returns-clause-ok : goal.returns-clause-ok
returns-clause-ok c = grind (arith, common_steps)

pub loop-tag-init : goal.loop-tag-init
loop-tag-init c =
    let takes = lists-none c.args.markers.now (tag_list c.args.lists.now) in
    search (rules, takes)
