use Rattle.ft_schema.proofs.SpelledAgain.{altered_again}
use Rattle.ft_schema.proofs.laws.added_fields_are_read_back.Goals as goal

pub returns : goal.returns
returns c = altered_again
