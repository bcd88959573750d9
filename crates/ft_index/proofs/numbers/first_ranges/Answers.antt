use Rattle.std.proofs.Common.{◌≡◌, ℕ, Option, None, List, ◌+◌, length, length-append, take, ◌∙◌, sym, subst, ap, arith}
use Rattle.std.proofs.lemmas.Grind.{common_steps}
use Rattle.std.specs.Prelude.{slice_get}
use Rattle.numeric_ranges.specs.Ranges.{Rows}
use Rattle.ft_index.specs.Lists.{rows_of}
use Rattle.ft_index.specs.Markers.{TakesMarkers, range_marker}
use Rattle.ft_index.specs.Numbering.{IsFirst}
use Rattle.ft_index.proofs.NumberLaws.{first-next, first-takes}
use Rattle.ft_index.proofs.numbers.first_ranges.Goals as goal

pub loop-field-preserved : goal.loop-field-preserved
loop-field-preserved c =
    let many : length c.push.new.self.items ≡ c.loop-field.field-index + 1 = ap length c.in_ok-push.ensures.items ∙ (length-append c.loop-field.ranges.items _ ∙ omega (arith, c.loop-field.invariant.many)) in
    record {
      many = many;
      first = subst (λ (ranges : List (Option Rows)). (number : ℕ) → IsFirst (slice_get (take (c.loop-field.field-index + 1) c.as_slice-field-items.result.now) number) (rows_of ranges number)) (sym c.in_ok-push.ensures.items)
          (first-next c.loop-field.field-index c.as_slice-field-items.result.now c.field-item.result c.loop-field.ranges.items c.in_ok-first.first c.loop-field.invariant.many c.loop-field-test.true c.field-item.is
          c.in_ok-first.ensures.first c.loop-field.invariant.first);
      takes = subst (λ (ranges : List (Option Rows)). TakesMarkers c.args.markers.now c.first_of.new.markers (λ _. None) (range_marker ranges)) (sym c.in_ok-push.ensures.items)
          (first-takes c.args.markers.now c.loop-field.markers c.first_of.new.markers c.loop-field.ranges.items c.in_ok-first.first c.loop-field.invariant.takes c.in_ok-first.ensures.takes);
    }

pub returns-clause-numbers : goal.returns-clause-numbers
returns-clause-numbers c = grind (arith, common_steps)
