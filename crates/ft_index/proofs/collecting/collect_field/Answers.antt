use Rattle.std.proofs.Common.{◌≡◌, ◌∷◌, ◌+◌, ◌∙◌, ap, arith, drop, refl, sym, subst}
use Rattle.ft_index.specs.Collecting.{LiveBut, RowsLiveBut}
use Rattle.ft_index.specs.Markers.{tag_list, tag_marker}
use Rattle.term_dict.specs.Tags.{tags_of}
use Rattle.ft_index.proofs.CollectLaws.{but-next, but-none, but-rows, left-next, left-none, rows-all, tags-again, tags-same}
use Rattle.ft_index.proofs.TakingLaws.{before-taken, lists-again, lists-none}
use Rattle.ft_index.proofs.collecting.collect_field.Goals as goal

pub returns-in_err-walk-clause-thin : goal.returns-in_err-walk-clause-thin
returns-in_err-walk-clause-thin g c = tags-same (g.L.Live.is c.args.live.now) c.args.tags.now

pub returns-in_err-names-clause-thin : goal.returns-in_err-names-clause-thin
returns-in_err-names-clause-thin g c = tags-same (g.L.Live.is c.args.live.now) c.args.tags.now

pub loop-name-init : goal.loop-name-init
loop-name-init g c =
    let live = g.L.Live.is c.args.live.now in
    let tags = c.args.tags.now in
    record {
      thin = tags-same live tags;
      but = but-rows live c.as_slice-name-items.result.now (tags_of tags c.args.field)
          (subst (λ names. RowsLiveBut live names (tags_of tags c.args.field)) (sym c.as_slice-name-items.ensures)
          (subst (RowsLiveBut live c.in_ok-names.names) (c.in_ok-walk.ensures ∙ rows-all (tags_of tags c.args.field)) c.in_ok-names.ensures));
      others = λ other away tag. refl;
      takes = lists-none c.args.markers.now (tag_list tags);
    }

pub collect_tag-requires : goal.collect_tag-requires
collect_tag-requires g c = record {
  before = before-taken c.args.markers.now c.loop-name.markers (tag_marker c.args.tags.now) (tag_marker c.loop-name.tags) c.requires.before c.loop-name.invariant.takes.markers;
}

pub returns-in_err-collect_tag-clause-thin : goal.returns-in_err-collect_tag-clause-thin
returns-in_err-collect_tag-clause-thin g c =
    tags-again (g.L.Live.is c.args.live.now) c.args.tags.now c.loop-name.tags c.collect_tag.new.tags c.loop-name.invariant.thin c.collect_tag.ensures.thin

pub returns-in_err-collect_tag-clause-others : goal.returns-in_err-collect_tag-clause-others
returns-in_err-collect_tag-clause-others g c = λ other away tag. c.collect_tag.ensures.fields other away tag ∙ c.loop-name.invariant.others other away tag

pub returns-in_err-collect_tag-clause-takes : goal.returns-in_err-collect_tag-clause-takes
returns-in_err-collect_tag-clause-takes g c =
    lists-again c.args.markers.now c.loop-name.markers c.collect_tag.new.markers (tag_list c.args.tags.now) (tag_list c.loop-name.tags) (tag_list c.collect_tag.new.tags)
    c.requires.before c.loop-name.invariant.takes c.collect_tag.ensures.takes

pub loop-name-preserved : goal.loop-name-preserved
loop-name-preserved g c =
    let live = g.L.Live.is c.args.live.now in
    let names = c.as_slice-name-items.result.now in
    let k = c.loop-name.name-index in
    let front : drop k names ≡ c.as_slice.result.now ∷ drop (k + 1) names = left-next names k c.name-item.result c.loop-name-test.true (sym c.name-item.is)
    ∙ ap (λ name. name ∷ drop (k + 1) names) (sym c.as_slice.ensures) in
    record {
      thin = tags-again live c.args.tags.now c.loop-name.tags c.collect_tag.new.tags c.loop-name.invariant.thin c.collect_tag.ensures.thin;
      but = but-next live c.as_slice.result.now (drop (k + 1) names) (tags_of c.loop-name.tags c.args.field) (tags_of c.collect_tag.new.tags c.args.field)
          (subst (λ left. LiveBut live left (tags_of c.loop-name.tags c.args.field)) front c.loop-name.invariant.but) c.in_ok-collect_tag.ensures.here c.collect_tag.ensures.others;
      others = λ other away tag. c.collect_tag.ensures.fields other away tag ∙ c.loop-name.invariant.others other away tag;
      takes = lists-again c.args.markers.now c.loop-name.markers c.collect_tag.new.markers (tag_list c.args.tags.now) (tag_list c.loop-name.tags) (tag_list c.collect_tag.new.tags)
          c.requires.before c.loop-name.invariant.takes c.collect_tag.ensures.takes;
    }

pub returns-clause-here : goal.returns-clause-here
returns-clause-here g c =
    let live = g.L.Live.is c.args.live.now in
    but-none live (tags_of c.loop-name.tags c.args.field)
    (subst (λ left. LiveBut live left (tags_of c.loop-name.tags c.args.field)) (left-none c.as_slice-name-items.result.now c.loop-name.name-index (omega (arith, c.loop-name-test.false))) c.loop-name.invariant.but)

pub returns-in_err-walk-clause-takes : goal.returns-in_err-walk-clause-takes
returns-in_err-walk-clause-takes g c = lists-none c.args.markers.now (tag_list c.args.tags.now)

pub returns-in_err-names-clause-takes : goal.returns-in_err-names-clause-takes
returns-in_err-names-clause-takes g c = lists-none c.args.markers.now (tag_list c.args.tags.now)
