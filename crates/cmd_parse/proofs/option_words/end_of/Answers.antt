use Rattle.std.proofs.Common.{arith}
use Rattle.std.proofs.lemmas.Grind.{common_steps}
use Rattle.cmd_parse.proofs.option_words.end_of.Goals as goal

pub returns-in_err-read_bound-in-40 : goal.returns-in_err-read_bound-in-40
returns-in_err-read_bound-in-40 c = grind (arith, common_steps)

pub returns-in_ok-read_bound-in-40 : goal.returns-in_ok-read_bound-in-40
returns-in_ok-read_bound-in-40 c = grind (arith, common_steps)
