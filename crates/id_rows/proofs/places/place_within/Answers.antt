use Rattle.std.proofs.lemmas.Grind.{common_steps}
use Rattle.std.proofs.Common.{arith}
use Rattle.id_rows.proofs.PlaceLaws.{below_least, above_most}
use Rattle.id_rows.proofs.places.place_within.Goals as goal

pub returns : goal.returns
returns g c = record {
  within = omega (arith, c.narrowing.invariant.low, c.narrowing.invariant.span.within);
  below = λ k before. below_least g.T.HasId.id_of c.args.id c.args.rows.now c.narrowing.span.below c.narrowing.span.below_id c.narrowing.span.above c.narrowing.span.above_id c.requires.rises c.narrowing.invariant.span k (omega (arith, before, c.narrowing.invariant.low));
  above = λ k behind within. above_most g.T.HasId.id_of c.args.id c.args.rows.now c.narrowing.span.below c.narrowing.span.below_id c.narrowing.span.above c.narrowing.span.above_id c.requires.rises c.narrowing.invariant.span k (omega (arith, behind, c.narrowing-test.false, c.narrowing.invariant.high)) within;
}

pub narrowing-preserved : goal.narrowing-preserved
narrowing-preserved g c = grind (arith, common_steps)

pub narrowing-smaller : goal.narrowing-smaller
narrowing-smaller g c = grind (arith, common_steps)
