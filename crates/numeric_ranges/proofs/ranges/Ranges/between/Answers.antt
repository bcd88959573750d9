use Rattle.std.proofs.Common.{◌≡◌, ◌<◌, ◌≤◌, ◌-◌, ◌↔◌, ℕ, IsTrue, length, true, false, ap, sym, subst, ◌∙◌, arith}
use Rattle.std.proofs.lemmas.Grind.{common_steps}
use Rattle.std.proofs.lemmas.Bool.{false≢true}
use Rattle.numeric_ranges.specs.Ranges.{Rows, meets}
use Rattle.numeric_ranges.specs.Rows.{rows_of, reach}
use Rattle.numeric_ranges.proofs.PutLaws.{reach_cast}
use Rattle.numeric_ranges.proofs.ReachLaws.{meets_none, meets_span, reach_mono}
use Rattle.numeric_ranges.proofs.ValueLaws.{cast_lt, le_from_not_lt}
use Rattle.numeric_ranges.proofs.ranges.Ranges.between.Goals as goal

pub returns-then-high-low-clause-met : goal.returns-then-high-low-clause-met
returns-then-high-low-clause-met c = λ i less.
    let test = cast_lt c.args.high c.args.low true c.ranges.high c.ranges.low c.if-high-low.true in
    ((λ h. absurd (omega (arith, h.1))), (λ m. absurd (false≢true (sym (meets_none c.args.self.now i c.args.low c.args.high test) ∙ m))))

pub returns-clause-ordered : goal.returns-clause-ordered
returns-clause-ordered c =
    let items = c.self.inside.rows.items in
    let order = le_from_not_lt c.args.high c.args.low (cast_lt c.args.high c.args.low false c.ranges.high c.ranges.low c.if-high-low.false) in
    let from = reach_cast items c.as_slice.result.now c.args.low c.reach.result c.as_slice.ensures.value c.reach.ensures.reach c.ranges.low in
    let to = reach_cast items c.as_slice-2.result.now c.args.high c.reach-2.result c.as_slice-2.ensures.value c.reach-2.ensures.reach c.ranges.high in
    omega (arith, from, to, reach_mono c.args.low c.args.high (rows_of items) order)

pub returns-clause-met : goal.returns-clause-met
returns-clause-met c = λ i less.
    let items = c.self.inside.rows.items in
    let order = le_from_not_lt c.args.high c.args.low (cast_lt c.args.high c.args.low false c.ranges.high c.ranges.low c.if-high-low.false) in
    let from : c.reach.result ≡ reach c.args.low (rows_of items) = reach_cast items c.as_slice.result.now c.args.low c.reach.result c.as_slice.ensures.value c.reach.ensures.reach c.ranges.low in
    let to = reach_cast items c.as_slice-2.result.now c.args.high c.reach-2.result c.as_slice-2.ensures.value c.reach-2.ensures.reach c.ranges.high in
    let within : i < length (rows_of items) = subst (λ (rows : Rows). i < length rows) (sym c.self.view_is) less in
    subst (λ (rows : Rows). ((c.reach.result - 1 ≤ i) × (i < c.reach-2.result)) ↔ IsTrue (meets rows i c.args.low c.args.high)) c.self.view_is
    (meets_span (rows_of items) i c.args.low c.args.high (c.reach.result - 1) c.reach-2.result order c.self.invariant.held.partition.lows within (ap (λ (n : ℕ). n - 1) from) to)

pub returns-clause-within : goal.returns-clause-within
returns-clause-within c = grind (arith, common_steps)
