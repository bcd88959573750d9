use Rattle.ft_schema.proofs.SpelledAgain.{created_again}
use Rattle.ft_schema.proofs.laws.definition_is_read_back.Goals as goal

pub returns : goal.returns
returns c = created_again
