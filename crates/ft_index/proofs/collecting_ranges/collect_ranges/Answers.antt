use Rattle.std.proofs.Common.{ℕ, arith, sym, subst, inl, inr}
use Rattle.ft_index.specs.Lists.{rows_of}
use Rattle.ft_index.specs.Markers.{range_list, range_marker}
use Rattle.ft_index.specs.Thinned.{RowsLive}
use Rattle.ft_index.proofs.FieldLaws.{below-or-not, decided}
use Rattle.ft_index.proofs.SlotLaws.{rows-beyond}
use Rattle.ft_index.proofs.TakingLaws.{before-taken, lists-again, lists-none}
use Rattle.ft_index.proofs.ThinLaws.{slot-again, slot-same}
use Rattle.ft_index.proofs.collecting_ranges.collect_ranges.Goals as goal

pub fields-init : goal.fields-init
fields-init g c = record {
  thin = λ field. slot-same (g.L.Live.is c.args.live.now) (rows_of c.args.ranges.now field);
  live = λ field below. absurd (omega (arith, below));
  takes = lists-none c.args.markers.now (range_list c.args.ranges.now);
}

pub collect_at-requires-clause-before : goal.collect_at-requires-clause-before
collect_at-requires-clause-before g c =
    before-taken c.args.markers.now c.fields.markers (range_marker c.args.ranges.now) (range_marker c.fields.ranges) c.requires.before c.fields.invariant.takes.markers

pub returns-in_err-collect_at-clause-thin : goal.returns-in_err-collect_at-clause-thin
returns-in_err-collect_at-clause-thin g c = λ field.
    slot-again (g.L.Live.is c.args.live.now) (rows_of c.args.ranges.now field) (rows_of c.fields.ranges field) (rows_of c.collect_at.new.ranges field) (c.fields.invariant.thin field) (c.collect_at.ensures.thin field)

pub returns-in_err-collect_at-clause-takes : goal.returns-in_err-collect_at-clause-takes
returns-in_err-collect_at-clause-takes g c =
    lists-again c.args.markers.now c.fields.markers c.collect_at.new.markers (range_list c.args.ranges.now) (range_list c.fields.ranges) (range_list c.collect_at.new.ranges)
    c.requires.before c.fields.invariant.takes c.collect_at.ensures.takes

pub fields-preserved : goal.fields-preserved
fields-preserved g c =
    let live = g.L.Live.is c.args.live.now in
    record {
      thin = λ field. slot-again live (rows_of c.args.ranges.now field) (rows_of c.fields.ranges field) (rows_of c.collect_at.new.ranges field) (c.fields.invariant.thin field) (c.collect_at.ensures.thin field);
      live = λ field below. elim (decided field c.fields.number) [
        | inl is ↦ subst (λ (n : ℕ). RowsLive live (rows_of c.collect_at.new.ranges n)) (sym is) c.in_ok-collect_at.ensures.here
        | inr away ↦ subst (RowsLive live) (sym (c.collect_at.ensures.others field away)) (c.fields.invariant.live field (omega (arith, below, away)))
      ];
      takes = lists-again c.args.markers.now c.fields.markers c.collect_at.new.markers (range_list c.args.ranges.now) (range_list c.fields.ranges) (range_list c.collect_at.new.ranges)
          c.requires.before c.fields.invariant.takes c.collect_at.ensures.takes;
    }

pub returns-clause-live : goal.returns-clause-live
returns-clause-live g c = λ field. elim (below-or-not field c.fields.number) [
  | inl below ↦ c.fields.invariant.live field below
  | inr beyond ↦ subst (RowsLive (g.L.Live.is c.args.live.now)) (sym (rows-beyond c.fields.ranges field (omega (arith, beyond, c.fields-test.false)))) (λ low. tt)
]
