use Rattle.load_maker.proofs.CommandLaws.{first_three}
use Rattle.load_maker.proofs.laws.first_commands.Goals as goal

pub returns : goal.returns
returns c = first_three
