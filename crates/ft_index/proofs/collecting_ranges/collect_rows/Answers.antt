use Rattle.std.proofs.Common.{◌≡◌, ◌+◌, Some, arith, drop, pos, slice_index_or, sym, subst}
use Rattle.std.proofs.Common.{ℤ, IfSome, false, rules, true}
use Rattle.std.proofs.lemmas.Int.{to_z-of_z}
use Rattle.std.proofs.lemmas.List.{drop_more}
use Rattle.std.specs.Ordering.{int_eq}
use mir.Syntax.{w64}
use mir.Val.{SFits, of_z, to_z}
use Rattle.gc_splice.specs.Alive.{all_alive}
use Rattle.numeric_ranges.specs.Ranges.{list_at}
use Rattle.ft_index.specs.Collecting.{LowsLiveBut}
use Rattle.ft_index.specs.Markers.{slot_marker}
use Rattle.ft_index.proofs.CollectLaws.{left-none}
use Rattle.ft_index.proofs.RowLaws.{lows-next, lows-none}
use Rattle.ft_index.proofs.TakingLaws.{before-taken, lists-again, lists-none}
use Rattle.ft_index.proofs.ThinLaws.{rows-again, rows-same}
use Rattle.ft_index.specs.Lists.{list_from}
use Rattle.ft_index.proofs.collecting_ranges.collect_rows.Goals as goal

pub returns-in_err-lows-clause-thin : goal.returns-in_err-lows-clause-thin
returns-in_err-lows-clause-thin g c = rows-same (g.L.Live.is c.args.live.now) c.args.rows.now

pub loop-low-init : goal.loop-low-init
loop-low-init g c =
    let live = g.L.Live.is c.args.live.now in
    let rows = c.args.rows.now in
    record {
      thin = rows-same live rows;
      but = subst (λ lows. LowsLiveBut live lows rows) (sym c.as_slice-low-items.ensures.value) c.in_ok-lows.ensures;
      takes = lists-none c.args.markers.now (list_from (Some rows));
    }

pub collect_row-requires : goal.collect_row-requires
collect_row-requires g c = record {
  before = before-taken c.args.markers.now c.loop-low.markers (slot_marker (Some c.args.rows.now)) (slot_marker (Some c.loop-low.rows)) c.requires.before c.loop-low.invariant.takes.markers;
}

pub returns-in_err-collect_row-clause-thin : goal.returns-in_err-collect_row-clause-thin
returns-in_err-collect_row-clause-thin g c =
    rows-again (g.L.Live.is c.args.live.now) c.args.rows.now c.loop-low.rows c.collect_row.new.rows c.loop-low.invariant.thin c.collect_row.ensures.thin

pub returns-in_err-collect_row-clause-takes : goal.returns-in_err-collect_row-clause-takes
returns-in_err-collect_row-clause-takes g c =
    lists-again c.args.markers.now c.loop-low.markers c.collect_row.new.markers (list_from (Some c.args.rows.now)) (list_from (Some c.loop-low.rows)) (list_from (Some c.collect_row.new.rows))
    c.requires.before c.loop-low.invariant.takes c.collect_row.ensures.takes

pub loop-low-preserved : goal.loop-low-preserved
loop-low-preserved g c =
    let live = g.L.Live.is c.args.live.now in
    let lows = c.as_slice-low-items.result.now in
    let k = c.loop-low.low-index in
    let low : ℤ = slice_index_or lows k (pos 0) in
    let fits : SFits w64 low = search rules in
    let same : to_z w64 (of_z w64 low) ≡ low = to_z-of_z w64 low fits in
    let new = c.collect_row.new.rows in
    record {
      thin = rows-again live c.args.rows.now c.loop-low.rows c.collect_row.new.rows c.loop-low.invariant.thin c.collect_row.ensures.thin;
      but = lows-next live (slice_index_or lows k (pos 0)) (drop (k + 1) lows) c.loop-low.rows c.collect_row.new.rows
          (subst (λ left. LowsLiveBut live left c.loop-low.rows) (drop_more lows k (pos 0) c.loop-low-test.true) c.loop-low.invariant.but)
          (subst (λ (v : ℤ). IfSome (list_at new v) (λ l. all_alive live l.entries ≡ true)) same c.in_ok-collect_row.ensures.here)
          (subst (λ (v : ℤ). (other : ℤ) → int_eq v other ≡ false → list_at new other ≡ list_at c.loop-low.rows other) same c.collect_row.ensures.others);
      takes = lists-again c.args.markers.now c.loop-low.markers c.collect_row.new.markers (list_from (Some c.args.rows.now)) (list_from (Some c.loop-low.rows)) (list_from (Some c.collect_row.new.rows))
          c.requires.before c.loop-low.invariant.takes c.collect_row.ensures.takes;
    }

pub returns-clause-live : goal.returns-clause-live
returns-clause-live g c =
    let live = g.L.Live.is c.args.live.now in
    lows-none live c.loop-low.rows
    (subst (λ left. LowsLiveBut live left c.loop-low.rows) (left-none c.as_slice-low-items.result.now c.loop-low.low-index (omega (arith, c.loop-low-test.false))) c.loop-low.invariant.but)

pub returns-in_err-lows-clause-takes : goal.returns-in_err-lows-clause-takes
returns-in_err-lows-clause-takes g c = lists-none c.args.markers.now (list_from (Some c.args.rows.now))
