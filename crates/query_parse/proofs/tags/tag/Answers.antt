use Rattle.std.proofs.Common.{arith}
use Rattle.std.proofs.lemmas.Grind.{common_steps}
use Rattle.query_parse.proofs.tags.tag.Goals as goal

pub returns-in_ok-text-in-Tag-clause-read : goal.returns-in_ok-text-in-Tag-clause-read
returns-in_ok-text-in-Tag-clause-read c = grind (arith, common_steps)

pub returns-in_ok-text-in-Some-clause-read : goal.returns-in_ok-text-in-Some-clause-read
returns-in_ok-text-in-Some-clause-read c = grind (arith, common_steps)

pub returns-in-None-clause-read : goal.returns-in-None-clause-read
returns-in-None-clause-read c = grind (arith, common_steps)
