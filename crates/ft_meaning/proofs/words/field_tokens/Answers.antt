use Rattle.std.proofs.Common.{arith}
use Rattle.ft_meaning.proofs.MeaningLaws.{value-fits}
use Rattle.ft_meaning.proofs.words.field_tokens.Goals as goal

pub tokens-requires : goal.tokens-requires
tokens-requires c = grind (arith, value-fits)
