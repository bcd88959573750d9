use Rattle.query_lex.proofs.EscapingLemmas.{escaped-read}
use Rattle.query_lex.proofs.laws.escaped_word_is_read.Goals as goal

pub returns : goal.returns
returns c = escaped-read
