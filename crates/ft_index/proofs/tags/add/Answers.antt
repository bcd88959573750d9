use Rattle.std.proofs.Common.{sym, subst}
use Rattle.std.proofs.lemmas.Result.{on_ok_weaker}
use Rattle.term_dict.specs.Tags.{FieldTags}
use Rattle.ft_index.specs.Markers.{TakesLists, tag_list}
use Rattle.ft_index.specs.UpTo.{TagsUpTo}
use Rattle.ft_index.proofs.OutcomeLaws.{either, either-both}
use Rattle.ft_index.proofs.TagLaws.{entries-tagged, tags-come, tags-take, tags-up_to}
use Rattle.ft_index.proofs.TakingLaws.{lists-lost}
use Rattle.ft_index.proofs.tags.add.Goals as goal

pub returns-clause-ok : goal.returns-clause-ok
returns-clause-ok c =
    on_ok_weaker c.add.result (λ added. entries-tagged c.args.lists.now c.add.new.self c.args.field c.args.tag.now c.args.markers.now c.args.id _ added) c.add.ensures.ok

pub returns-clause-up_to : goal.returns-clause-up_to
returns-clause-up_to c =
    either c.add.result c.add.ensures.ok c.add.ensures.err
    (λ added. tags-up_to c.args.id c.args.lists.now c.add.new.self c.args.field c.args.tag.now c.requires.up_to c.requires.later
    (entries-tagged c.args.lists.now c.add.new.self c.args.field c.args.tag.now c.args.markers.now c.args.id _ added))
    (λ same. subst (TagsUpTo c.args.id) (sym same) c.requires.up_to)

pub returns-clause-takes : goal.returns-clause-takes
returns-clause-takes c =
    either-both c.add.result c.add.ensures.ok c.add.ensures.taken c.add.ensures.err
    (λ added taken. record {
      markers = tags-take c.args.lists.now c.add.new.self c.args.field c.args.tag.now c.args.markers.now c.add.new.markers c.args.id _ c.requires.before added c.add.ensures.event c.add.ensures.rises taken;
      come = tags-come c.args.lists.now c.add.new.self c.args.field c.args.tag.now c.args.markers.now c.args.id _ added;
    })
    (λ same. subst (λ (lists : FieldTags). TakesLists c.args.markers.now c.add.new.markers (tag_list c.args.lists.now) (tag_list lists)) (sym same)
    (lists-lost c.args.markers.now c.add.new.markers (tag_list c.args.lists.now) c.add.ensures.event c.add.ensures.rises c.requires.before))
