use Rattle.std.proofs.Common.{◌≡◌, ◌<◌, ◌^◌, ℤ, FitsSigned, to_z, of_z, arith, rules, pos, ap, ◌∙◌}
use Rattle.std.specs.Int.{w64}
use Rattle.std.proofs.lemmas.Int.{to_z-of_z}
use Rattle.command_line.proofs.NumberLaws.{number_within, number_above, number_below, number_none}
use Rattle.command_line.proofs.numbers.number_in.Goals as goal

pub returns-in-Some : goal.returns-in-Some
returns-in-Some c n =
    let z : ℤ = c.in-Some.number in
    let fits : FitsSigned w64 z = search rules in
    let few : c.args.most < 2 ^ 32 = omega arith in
    let top : to_z w64 (of_z w64 c.from.result) ≡ pos c.args.most = ap (λ y. to_z w64 (of_z w64 y)) c.from.ensures ∙ to_z-of_z w64 (pos c.args.most) (omega (arith, few)) in
    number_within c.args.word.now c.as_bytes.result.now z _ _ n c.args.most fits c.as_bytes.ensures.value c.in-Some.ensures.spelled (to_z-of_z w64 z fits) top few c.if-number-ge1.true c.if-number-from.true

pub returns-in_default : goal.returns-in_default
returns-in_default c n =
    let z : ℤ = c.in-Some.number in
    let fits : FitsSigned w64 z = search rules in
    let few : c.args.most < 2 ^ 32 = omega arith in
    let top : to_z w64 (of_z w64 c.from.result) ≡ pos c.args.most = ap (λ y. to_z w64 (of_z w64 y)) c.from.ensures ∙ to_z-of_z w64 (pos c.args.most) (omega (arith, few)) in
    (λ e. absurd (cc), λ is. absurd (number_above c.args.word.now c.as_bytes.result.now z _ _ n c.args.most fits c.as_bytes.ensures.value c.in-Some.ensures.spelled (to_z-of_z w64 z fits) top few c.if-number-from.false is))

pub returns-in_default-2 : goal.returns-in_default-2
returns-in_default-2 c n =
    let z : ℤ = c.in-Some.number in
    let fits : FitsSigned w64 z = search rules in
    let few : c.args.most < 2 ^ 32 = omega arith in
    (λ e. absurd (cc), λ is. absurd (number_below c.args.word.now c.as_bytes.result.now z _ n c.args.most fits c.as_bytes.ensures.value c.in-Some.ensures.spelled (to_z-of_z w64 z fits) few c.if-number-ge1.false is))

pub returns-in_default-3 : goal.returns-in_default-3
returns-in_default-3 c n =
    let few : c.args.most < 2 ^ 32 = omega arith in
    (λ e. absurd (cc), λ is. absurd (number_none c.args.word.now c.as_bytes.result.now n c.args.most c.as_bytes.ensures.value c.in_default.ensures.none few is))
