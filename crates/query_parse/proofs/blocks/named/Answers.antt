use Rattle.std.proofs.Common.{arith}
use Rattle.std.proofs.lemmas.Grind.{common_steps}
use Rattle.query_parse.proofs.blocks.named.Goals as goal

pub returns-in-Some-Semi-clause-read : goal.returns-in-Some-Semi-clause-read
returns-in-Some-Semi-clause-read c = grind (arith, common_steps)

pub returns-in-Some-AttrClose-clause-read : goal.returns-in-Some-AttrClose-clause-read
returns-in-Some-AttrClose-clause-read c = grind (arith, common_steps)

pub returns-in_default-next_sign-clause-read : goal.returns-in_default-next_sign-clause-read
returns-in_default-next_sign-clause-read c = grind (arith, common_steps)
