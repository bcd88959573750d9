use Rattle.std.proofs.Common.{◌+◌, ◌∙◌, arith, drop, slice_index_or, sym, subst}
use Rattle.std.proofs.lemmas.List.{drop_more}
use Rattle.ft_index.specs.Collecting.{TagsLiveBut}
use Rattle.ft_index.specs.Markers.{tag_list, tag_marker}
use Rattle.ft_index.proofs.CollectLaws.{fields-all, fields-next, fields-none, left-none, tags-again, tags-same}
use Rattle.ft_index.proofs.TakingLaws.{before-taken, lists-again, lists-none}
use Rattle.ft_index.proofs.collecting.collect_tags.Goals as goal

pub returns-in_err-fields-clause-thin : goal.returns-in_err-fields-clause-thin
returns-in_err-fields-clause-thin g c = tags-same (g.L.Live.is c.args.live.now) c.args.tags.now

pub loop-field-init : goal.loop-field-init
loop-field-init g c =
    let live = g.L.Live.is c.args.live.now in
    let tags = c.args.tags.now in
    record {
      thin = tags-same live tags;
      but = subst (λ fields. TagsLiveBut live fields tags) (sym (c.as_slice-field-items.ensures.value ∙ c.in_ok-fields.ensures)) (fields-all live tags);
      takes = lists-none c.args.markers.now (tag_list tags);
    }

pub collect_field-requires : goal.collect_field-requires
collect_field-requires g c = record {
  before = before-taken c.args.markers.now c.loop-field.markers (tag_marker c.args.tags.now) (tag_marker c.loop-field.tags) c.requires.before c.loop-field.invariant.takes.markers;
}

pub returns-in_err-collect_field-clause-thin : goal.returns-in_err-collect_field-clause-thin
returns-in_err-collect_field-clause-thin g c =
    tags-again (g.L.Live.is c.args.live.now) c.args.tags.now c.loop-field.tags c.collect_field.new.tags c.loop-field.invariant.thin c.collect_field.ensures.thin

pub returns-in_err-collect_field-clause-takes : goal.returns-in_err-collect_field-clause-takes
returns-in_err-collect_field-clause-takes g c =
    lists-again c.args.markers.now c.loop-field.markers c.collect_field.new.markers (tag_list c.args.tags.now) (tag_list c.loop-field.tags) (tag_list c.collect_field.new.tags)
    c.requires.before c.loop-field.invariant.takes c.collect_field.ensures.takes

pub loop-field-preserved : goal.loop-field-preserved
loop-field-preserved g c =
    let live = g.L.Live.is c.args.live.now in
    let fields = c.as_slice-field-items.result.now in
    let k = c.loop-field.field-index in
    record {
      thin = tags-again live c.args.tags.now c.loop-field.tags c.collect_field.new.tags c.loop-field.invariant.thin c.collect_field.ensures.thin;
      but = fields-next live (slice_index_or fields k 0) (drop (k + 1) fields) c.loop-field.tags c.collect_field.new.tags
          (subst (λ left. TagsLiveBut live left c.loop-field.tags) (drop_more fields k 0 c.loop-field-test.true) c.loop-field.invariant.but)
          c.in_ok-collect_field.ensures.here c.collect_field.ensures.others;
      takes = lists-again c.args.markers.now c.loop-field.markers c.collect_field.new.markers (tag_list c.args.tags.now) (tag_list c.loop-field.tags) (tag_list c.collect_field.new.tags)
          c.requires.before c.loop-field.invariant.takes c.collect_field.ensures.takes;
    }

pub returns-clause-live : goal.returns-clause-live
returns-clause-live g c =
    let live = g.L.Live.is c.args.live.now in
    fields-none live c.loop-field.tags
    (subst (λ left. TagsLiveBut live left c.loop-field.tags) (left-none c.as_slice-field-items.result.now c.loop-field.field-index (omega (arith, c.loop-field-test.false))) c.loop-field.invariant.but)

pub returns-in_err-fields-clause-takes : goal.returns-in_err-fields-clause-takes
returns-in_err-fields-clause-takes g c = lists-none c.args.markers.now (tag_list c.args.tags.now)
