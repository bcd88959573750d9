use Rattle.std.proofs.Common.{arith}
use Rattle.std.proofs.lemmas.Grind.{common_steps}
use Rattle.query_lex.proofs.quote.past_quoted.Goals as goal

pub returns-in-92-clause-more : goal.returns-in-92-clause-more
returns-in-92-clause-more c = grind (arith, common_steps)

pub returns-in-len1-up-clause-more : goal.returns-in-len1-up-clause-more
returns-in-len1-up-clause-more c = grind (arith, common_steps)
