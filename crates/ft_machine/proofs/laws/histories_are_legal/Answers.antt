use Rattle.std.proofs.Common.{[]}
use Rattle.ft_machine.proofs.CleanLaws.{history-legal}
use Rattle.ft_machine.specs.Clean.{empty_marked}
use Rattle.ft_machine.proofs.laws.histories_are_legal.Goals as goal

pub returns : goal.returns
returns g c = λ readings first entries after history. history-legal readings first [] empty_marked entries after history
