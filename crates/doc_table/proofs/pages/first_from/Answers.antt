use Rattle.std.proofs.Common.{arith, ◌<◌, ◌^◌, inl, inr}
use Rattle.std.proofs.lemmas.Bool.{cases_lt}
use Rattle.doc_table.proofs.WordLaws.{lowest_below}
use Rattle.doc_table.proofs.PlaceLaws.{number_most}
use Rattle.doc_table.proofs.NextLaws.{bare_before, bare_spent, found_from, none_from}
use Rattle.doc_table.proofs.pages.first_from.Goals as goal

pub loop-at-init : goal.loop-at-init
loop-at-init c =
    λ k before. elim (cases_lt k c.args.place) [
      | inl first ↦ bare_before c.args.pages.now c.args.from k (c.requires.below k first)
      | inr last ↦ bare_spent c.args.pages.now c.args.from k (c.requires.spent k (omega (arith, c.max-at.ensures, before, last)))
    ]

pub bits_from-word-requires : goal.bits_from-word-requires
bits_from-word-requires c = c.requires.above c.loop-at.at (omega (arith, c.max-at.ensures, c.loop-at.auto.at)) c.loop-at-test.true

pub overflow_mul-result : goal.overflow_mul-result
overflow_mul-result c = omega (arith, number_most 0 (2 ^ 58) c.args.pages.now c.loop-at.at c.requires.rises c.loop-at-test.true)

pub overflow_add-result : goal.overflow_add-result
overflow_add-result c =
    let lowest : c.from.result < 64 = omega (arith, c.from.ensures, lowest_below c.bits_from-word.result (omega (arith, c.if-word-ne0.true)) c.bits_from-word.type_inv) in
    omega (arith, lowest, number_most 0 (2 ^ 58) c.args.pages.now c.loop-at.at c.requires.rises c.loop-at-test.true)

pub returns-then-word-ne0 : goal.returns-then-word-ne0
returns-then-word-ne0 c =
    found_from (2 ^ 58) c.args.from c.loop-at.at c.bits_from-word.result c.from.result c.args.pages.now c.requires.rises c.loop-at-test.true c.loop-at.invariant c.bits_from-word.ensures (omega (arith, c.if-word-ne0.true)) c.bits_from-word.type_inv c.from.ensures

pub returns : goal.returns
returns c = none_from c.args.from c.args.pages.now (λ k within. c.loop-at.invariant k (omega (arith, within, c.loop-at-test.false)))
