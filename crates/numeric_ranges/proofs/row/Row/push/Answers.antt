use Rattle.std.proofs.Common.{◌++◌, ◌∷◌, [], ℤ, rules, ap, sym, ◌∙◌}
use Rattle.std.proofs.lemmas.Int.{to_z-of_z}
use mir.Syntax.{w64}
use mir.Val.{SFits}
use Rattle.numeric_ranges.proofs.SpreadLaws.{knows_along}
use Rattle.numeric_ranges.proofs.row.Row.push.Goals as goal

pub returns-clause-knows : goal.returns-clause-knows
returns-clause-knows c = λ knows.
    let es = c.args.self.now.list.entries in
    let f : SFits w64 c.args.hit.now.value = search rules in
    knows_along c.with-spread.result _ _
    (ap (λ (v : ℤ). es ++ (c.args.id, record { value = v }) ∷ []) (to_z-of_z w64 c.args.hit.now.value f) ∙ sym (ap (λ l. l.entries) c.in_ok-append.ensures.ok))
    (c.with-spread.ensures.knows es c.args.id knows)
