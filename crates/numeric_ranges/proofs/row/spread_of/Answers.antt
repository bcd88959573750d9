use Rattle.std.proofs.Common.{◌++◌, ◌∷◌, [], ℕ, ℤ, take, get_or, pos, rules, ap, sym, ◌∙◌}
use Rattle.std.proofs.lemmas.Int.{to_z-of_z}
use Rattle.std.proofs.lemmas.List.{take_more}
use mir.Syntax.{w64}
use mir.Val.{SFits}
use Rattle.posting_block.specs.declared.hits.NumHit.{NumHit}
use Rattle.numeric_ranges.proofs.SpreadLaws.{knows_along}
use Rattle.numeric_ranges.proofs.row.spread_of.Goals as goal

pub values-preserved : goal.values-preserved
values-preserved c =
    let es = c.args.entries.now in
    let d : ℕ × NumHit = (0, record { value = pos 0 }) in
    let e = get_or es c.values.hit-index d in
    let f : SFits w64 e.1.value = search rules in
    record {
      knows = knows_along c.with-spread.result _ _
          (ap (λ (v : ℤ). take c.values.hit-index es ++ (e.0, record { value = v }) ∷ []) (to_z-of_z w64 e.1.value f)
          ∙ sym (take_more es c.values.hit-index d c.values-test.true))
          (c.with-spread.ensures.knows (take c.values.hit-index es) e.0 c.values.invariant.knows);
      known = λ same. c.values.invariant.known (c.with-spread.ensures.known same);
    }
