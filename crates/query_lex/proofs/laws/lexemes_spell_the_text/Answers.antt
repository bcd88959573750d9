use Rattle.query_lex.proofs.TextSpelled.{text-spelled}
use Rattle.query_lex.proofs.laws.lexemes_spell_the_text.Goals as goal

pub returns : goal.returns
returns c = text-spelled
