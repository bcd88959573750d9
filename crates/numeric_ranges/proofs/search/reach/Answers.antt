use Rattle.std.proofs.Common.{◌≡◌, ◌+◌, ◌-◌, ◌/◌, ◌<◌, ℤ, length, true, false, int_le, arith, rules, sym, subst}
use Rattle.std.proofs.lemmas.Int.{to_z-of_z}
use mir.Syntax.{w64}
use mir.Val.{to_z, of_z, SFits}
use Rattle.numeric_ranges.specs.declared.row.Row.{Row}
use Rattle.numeric_ranges.proofs.ReachLaws.{over_seen, under_seen, fits_seen}
use Rattle.numeric_ranges.proofs.search.reach.Goals as goal

pub halving-init : goal.halving-init
halving-init c = record { low = omega arith; high = fits_seen (to_z w64 (of_z w64 c.args.value)) c.args.rows.now; within = omega arith }

pub halving-preserved-then-rows-middle : goal.halving-preserved-then-rows-middle
halving-preserved-then-rows-middle c =
    let rows = c.args.rows.now in
    let half = c.halving.low + (c.halving.high - c.halving.low) / 2 in
    let within : half < length rows = omega (arith, c.halving-test.true, c.halving.invariant.within) in
    let f : SFits w64 c.index-rows-middle.result.low = search rules in
    record {
      low = over_seen (to_z w64 (of_z w64 c.args.value)) rows half c.index-rows-middle.result c.requires.rises within c.index-rows-middle.is
          (subst (λ (x : ℤ). int_le x (to_z w64 (of_z w64 c.args.value)) ≡ true) (to_z-of_z w64 c.index-rows-middle.result.low f) (subst (λ (x : Row). int_le (to_z w64 (of_z w64 x.low)) (to_z w64 (of_z w64 c.args.value)) ≡ true) (sym c.index-rows-middle.is) c.if-rows-middle.true));
      high = c.halving.invariant.high;
      within = c.halving.invariant.within;
    }

pub halving-preserved : goal.halving-preserved
halving-preserved c =
    let rows = c.args.rows.now in
    let half = c.halving.low + (c.halving.high - c.halving.low) / 2 in
    let within : half < length rows = omega (arith, c.halving-test.true, c.halving.invariant.within) in
    let f : SFits w64 c.index-rows-middle.result.low = search rules in
    record {
      low = c.halving.invariant.low;
      high = under_seen (to_z w64 (of_z w64 c.args.value)) rows half c.index-rows-middle.result within c.index-rows-middle.is
          (subst (λ (x : ℤ). int_le x (to_z w64 (of_z w64 c.args.value)) ≡ false) (to_z-of_z w64 c.index-rows-middle.result.low f) (subst (λ (x : Row). int_le (to_z w64 (of_z w64 x.low)) (to_z w64 (of_z w64 c.args.value)) ≡ false) (sym c.index-rows-middle.is) c.if-rows-middle.false));
      within = omega (arith, within);
    }
