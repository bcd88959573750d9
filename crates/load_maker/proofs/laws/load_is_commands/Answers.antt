use Rattle.load_maker.proofs.CommandLaws.{load_is}
use Rattle.load_maker.proofs.laws.load_is_commands.Goals as goal

pub returns : goal.returns
returns c = load_is
