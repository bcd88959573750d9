use Rattle.std.proofs.lemmas.Result.{on_ok_weaker}
use Rattle.term_dict.specs.Tags.{tags_of}
use Rattle.term_dict.specs.Terms.{entries_of}
use Rattle.std.proofs.Common.{ap}
use Rattle.ft_index.proofs.CollectLaws.{tag-collected, tag-live, tag-takes, tag-thin, word-others}
use Rattle.ft_index.proofs.collecting.collect_tag.Goals as goal

pub returns-clause-thin : goal.returns-clause-thin
returns-clause-thin g c =
    let live = g.L.Live.is c.args.live.now in
    tag-thin live c.args.field c.args.tag.now c.args.tags.now c.collect.new.self c.args.markers.now c.collect.new.markers
    (tag-collected live c.args.field c.args.tag.now c.args.tags.now c.collect.new.self c.args.markers.now c.collect.new.markers c.collect.result c.collect.ensures.ok c.collect.ensures.gone c.collect.ensures.err)

pub returns-clause-here : goal.returns-clause-here
returns-clause-here g c =
    on_ok_weaker c.collect.result
    (λ some. tag-live (g.L.Live.is c.args.live.now) c.args.field c.args.tag.now c.args.tags.now c.collect.new.self c.args.markers.now c.collect.new.markers some c.collect.ensures.gone)
    c.collect.ensures.ok

pub returns-clause-others : goal.returns-clause-others
returns-clause-others g c =
    let live = g.L.Live.is c.args.live.now in
    let collected = tag-collected live c.args.field c.args.tag.now c.args.tags.now c.collect.new.self c.args.markers.now c.collect.new.markers c.collect.result c.collect.ensures.ok c.collect.ensures.gone c.collect.ensures.err in
    word-others live c.args.tag.now (tags_of c.args.tags.now c.args.field) (tags_of c.collect.new.self c.args.field) c.args.markers.now c.collect.new.markers collected.here

pub returns-clause-fields : goal.returns-clause-fields
returns-clause-fields g c =
    let live = g.L.Live.is c.args.live.now in
    let collected = tag-collected live c.args.field c.args.tag.now c.args.tags.now c.collect.new.self c.args.markers.now c.collect.new.markers c.collect.result c.collect.ensures.ok c.collect.ensures.gone c.collect.ensures.err in
    (λ other away name. ap (λ tags. entries_of tags name) (collected.others other away))

pub returns-clause-takes : goal.returns-clause-takes
returns-clause-takes g c =
    let live = g.L.Live.is c.args.live.now in
    tag-takes live c.args.field c.args.tag.now c.args.tags.now c.collect.new.self c.args.markers.now c.collect.new.markers c.requires.before
    (tag-collected live c.args.field c.args.tag.now c.args.tags.now c.collect.new.self c.args.markers.now c.collect.new.markers c.collect.result c.collect.ensures.ok c.collect.ensures.gone c.collect.ensures.err)
