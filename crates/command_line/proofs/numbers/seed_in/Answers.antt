use Rattle.std.proofs.Common.{ℤ, FitsSigned, rules}
use Rattle.std.specs.Int.{w64}
use Rattle.std.proofs.lemmas.Int.{to_z-of_z}
use Rattle.command_line.proofs.NumberLaws.{seed_within, seed_below, seed_none}
use Rattle.command_line.proofs.numbers.seed_in.Goals as goal

pub returns-in-Some : goal.returns-in-Some
returns-in-Some c n =
    let z : ℤ = c.in-Some.number in
    let fits : FitsSigned w64 z = search rules in
    seed_within c.args.word.now c.as_bytes.result.now z _ n fits c.as_bytes.ensures.value c.in-Some.ensures.spelled (to_z-of_z w64 z fits) c.if-number-ge0.true

pub returns-in_default : goal.returns-in_default
returns-in_default c n =
    let z : ℤ = c.in-Some.number in
    let fits : FitsSigned w64 z = search rules in
    (λ e. absurd (cc), λ is. absurd (seed_below c.args.word.now c.as_bytes.result.now z _ n fits c.as_bytes.ensures.value c.in-Some.ensures.spelled (to_z-of_z w64 z fits) c.if-number-ge0.false is))

pub returns-in_default-2 : goal.returns-in_default-2
returns-in_default-2 c n =
    (λ e. absurd (cc), λ is. absurd (seed_none c.args.word.now c.as_bytes.result.now n c.as_bytes.ensures.value c.in_default.ensures.none is))
