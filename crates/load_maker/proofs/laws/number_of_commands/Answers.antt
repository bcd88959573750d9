use Rattle.load_maker.proofs.NumberLaws.{load_number}
use Rattle.load_maker.proofs.laws.number_of_commands.Goals as goal

pub returns : goal.returns
returns c = load_number
