use Rattle.std.proofs.Common.{◌≡◌, ◌+◌, ◌++◌, ◌∷◌, [], ℤ, Some, Option, arith, rules, sym, subst, ap, ◌∙◌, take, true}
use Rattle.std.proofs.Math.Seq.{take-length}
use Rattle.std.proofs.lemmas.Int.{to_z-of_z}
use mir.Syntax.{w64}
use mir.Val.{SFits, of_z, to_z}
use Rattle.gc_splice.specs.Alive.{all_alive}
use Rattle.ft_index.specs.Collecting.{RangesLiveBut}
use Rattle.ft_index.proofs.RowLaws.{lows-rows, range-at, range-clean, range-noted}
use Rattle.ft_index.proofs.collecting_ranges.dead_lows.Goals as goal
use Rattle.ft_index.proofs.collecting_ranges.dead_lows.Goals.{then-not-is_clean+in_ok-push, else-not-is_clean}

pub rows-preserved : goal.rows-preserved
rows-preserved g c =
    let live = g.L.Live.is c.args.live.now in
    let rows = c.args.rows.now in
    let at = c.rows.at in
    let l = c.range.result.now in
    let here = range-at rows at l c.range.ensures in
    elim c.if-not-is_clean.branch [
      | then-not-is_clean+in_ok-push w ↦
          let some : ◌≡◌ {A = Option ℤ} (Some here.low) (Some w.low.result) = sym here.begins ∙ w.low.ensures in
          let fits : SFits w64 w.low.result = search rules in
          let one : here.low ≡ to_z w64 (of_z w64 w.low.result) = cc (some, sym (to_z-of_z w64 w.low.result fits)) in
          subst (λ lows. RangesLiveBut live lows (take (at + 1) rows)) (sym (ap (λ v. v.items) w.lows-is ∙ w.in_ok-push.ensures.items))
          (subst (λ (n : ℤ). RangesLiveBut live (c.rows.lows.items ++ n ∷ []) (take (at + 1) rows)) one (range-noted live c.rows.lows.items rows at here.low l here.more c.rows.invariant))
      | else-not-is_clean w ↦
          let clean : all_alive live l.entries ≡ true = search rules in
          subst (λ lows. RangesLiveBut live lows (take (at + 1) rows)) (sym (ap (λ v. v.items) w.lows-is))
          (range-clean live c.rows.lows.items rows at here.low l here.more clean c.rows.invariant)
    ]

pub returns : goal.returns
returns g c =
    let live = g.L.Live.is c.args.live.now in
    lows-rows live c.rows.lows.items c.args.rows.now
    (subst (RangesLiveBut live c.rows.lows.items) (ap (λ n. take n c.args.rows.now) (omega (arith, c.rows-test.false, c.count-at-end.ensures.count, c.rows.auto.at-end)) ∙ take-length c.args.rows.now) c.rows.invariant)
