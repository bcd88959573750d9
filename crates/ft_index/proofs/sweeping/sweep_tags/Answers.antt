use Rattle.ft_index.specs.Markers.{tag_list, tag_marker}
use Rattle.ft_index.proofs.CollectLaws.{tags-again, tags-same}
use Rattle.ft_index.proofs.TakingLaws.{before-taken, lists-again, lists-none}
use Rattle.ft_index.proofs.sweeping.sweep_tags.Goals as goal

pub loop-name-init : goal.loop-name-init
loop-name-init g c = record { thin = tags-same (g.L.Live.is c.args.live.now) c.args.tags.now; takes = lists-none c.args.markers.now (tag_list c.args.tags.now) }

pub sweep_tag-requires : goal.sweep_tag-requires
sweep_tag-requires g c = record {
  before = before-taken c.args.markers.now c.loop-name.markers (tag_marker c.args.tags.now) (tag_marker c.loop-name.tags) c.requires.before c.loop-name.invariant.takes.markers;
}

pub returns-in_err-sweep_tag-clause-thin : goal.returns-in_err-sweep_tag-clause-thin
returns-in_err-sweep_tag-clause-thin g c =
    tags-again (g.L.Live.is c.args.live.now) c.args.tags.now c.loop-name.tags c.sweep_tag.new.tags c.loop-name.invariant.thin c.sweep_tag.ensures.thin

pub returns-in_err-sweep_tag-clause-takes : goal.returns-in_err-sweep_tag-clause-takes
returns-in_err-sweep_tag-clause-takes g c =
    lists-again c.args.markers.now c.loop-name.markers c.sweep_tag.new.markers (tag_list c.args.tags.now) (tag_list c.loop-name.tags) (tag_list c.sweep_tag.new.tags)
    c.requires.before c.loop-name.invariant.takes c.sweep_tag.ensures.takes

pub loop-name-preserved : goal.loop-name-preserved
loop-name-preserved g c = record {
  thin = tags-again (g.L.Live.is c.args.live.now) c.args.tags.now c.loop-name.tags c.sweep_tag.new.tags c.loop-name.invariant.thin c.sweep_tag.ensures.thin;
  takes = lists-again c.args.markers.now c.loop-name.markers c.sweep_tag.new.markers (tag_list c.args.tags.now) (tag_list c.loop-name.tags) (tag_list c.sweep_tag.new.tags)
      c.requires.before c.loop-name.invariant.takes c.sweep_tag.ensures.takes;
}
