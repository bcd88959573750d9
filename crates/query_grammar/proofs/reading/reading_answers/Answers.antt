use Rattle.query_grammar.proofs.OneAnswer.{reading_answers}
use Rattle.query_grammar.proofs.reading.reading_answers.Goals as goal

pub returns : goal.returns
returns c = reading_answers
