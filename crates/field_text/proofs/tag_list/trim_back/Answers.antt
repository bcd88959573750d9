use Rattle.std.proofs.Common.{◌≡◌, ◌==◌, ◌∙◌, ◌++◌, ◌∷◌, [], false, ap, sym, arith}
use Rattle.std.proofs.lemmas.Bool.Decides.{nat_tests}
use Rattle.field_text.specs.Tags.{trim_back}
use Rattle.field_text.proofs.TagLaws.{trim_back-blank, trim_back-byte}
use Rattle.field_text.proofs.tag_list.trim_back.Goals as goal

pub returns-then-byte-ne32 : goal.returns-then-byte-ne32
returns-then-byte-ne32 c =
    let k = c.if-byte-ne32.true in
    let other : (c.in-Some.byte.now == 32) ≡ false = grind (arith, nat_tests) in
    c.in-Some.ensures.cases.0
    ∙ (sym (trim_back-byte c.in-Some.before.now c.in-Some.byte.now other)
    ∙ (ap trim_back (sym c.in-Some.ensures.cases.0) ∙ c.back.invariant))

pub back-preserved : goal.back-preserved
back-preserved c =
    sym (trim_back-blank c.in-Some.before.now)
    ∙ (ap (λ byte. trim_back (c.in-Some.before.now ++ byte ∷ [])) (sym c.if-byte-ne32.false)
    ∙ (ap trim_back (sym c.in-Some.ensures.cases.0) ∙ c.back.invariant))
