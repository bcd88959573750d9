use Rattle.std.proofs.Common.{sym, ◌∙◌, arith}
use Rattle.std.proofs.lemmas.Grind.{common_steps}
use Rattle.query_parse.proofs.QueryLemmas.{else-next}
use Rattle.query_parse.proofs.phrases.are_words.Goals as goal

pub comparing-preserved : goal.comparing-preserved
comparing-preserved c = c.comparing.invariant
    ∙ rw c.behind-rest.ensures.value (else-next c.comparing.rest.now c.first-item.result c.next-item.result (omega arith) c.first-item.is c.next-item.is (sym c.are_alike.ensures ∙ c.if-not-are_alike.false))

pub returns-in-empty : goal.returns-in-empty
returns-in-empty c = grind (arith, common_steps)

pub returns-in-len1 : goal.returns-in-len1
returns-in-len1 c = grind (arith, common_steps)

pub returns-then-not-are_alike : goal.returns-then-not-are_alike
returns-then-not-are_alike c = grind (arith, common_steps)
