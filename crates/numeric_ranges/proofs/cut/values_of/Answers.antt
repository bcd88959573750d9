use Rattle.std.proofs.Common.{ℕ, get_or, pos, arith, rules}
use Rattle.std.proofs.lemmas.Grind.{common_steps}
use Rattle.std.proofs.lemmas.Int.{to_z-of_z}
use mir.Syntax.{w64}
use mir.Val.{SFits, of_z, to_z}
use Rattle.posting_block.specs.declared.hits.NumHit.{NumHit}
use Rattle.numeric_ranges.proofs.FilledLaws.{number_more}
use Rattle.numeric_ranges.proofs.cut.values_of.Goals as goal

pub values-preserved : goal.values-preserved
values-preserved c =
    let d : ℕ × NumHit = (0, record { value = pos 0 }) in
    let v = (get_or c.args.entries.now c.values.hit-index d).1.value in
    let f : SFits w64 v = search rules in
    record {
      values = grind (arith, common_steps);
      numbers = number_more c.values.copy.items c.push.new.self.items v (to_z w64 (of_z w64 v)) f (to_z-of_z w64 v f) c.in_ok-push.ensures.items c.values.invariant.numbers;
    }

pub returns-clause-values : goal.returns-clause-values
returns-clause-values c = grind (arith, common_steps)
