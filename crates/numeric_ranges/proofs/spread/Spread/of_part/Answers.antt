use Rattle.std.proofs.Common.{◌<◌, ℤ, length, rules, sym, subst, arith}
use Rattle.std.proofs.lemmas.Int.{to_z-of_z}
use mir.Syntax.{w64}
use mir.Val.{SFits}
use Rattle.numeric_ranges.specs.declared.spread.Spread.{Spread}
use Rattle.numeric_ranges.specs.declared.spread.Spread.TheVariants.{One}
use Rattle.numeric_ranges.specs.Rows.{Knows}
use Rattle.numeric_ranges.proofs.GoneLaws.{knows_one}
use Rattle.numeric_ranges.proofs.spread.Spread.of_part.Goals as goal

pub returns-in-One : goal.returns-in-One
returns-in-One c = λ es part knows p left.
    let v = c.in-One.value in
    let f : SFits w64 v = search rules in
    let some : 0 < length part = omega (arith, left, c.if-left-eq0.false) in
    subst (λ (w : ℤ). Knows (One w) part) (sym (to_z-of_z w64 v f)) (knows_one v es part p (subst (λ (s : Spread). Knows s es) c.in-One.is knows) some)
