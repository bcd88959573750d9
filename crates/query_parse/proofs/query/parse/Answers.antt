use Rattle.query_parse.proofs.AnswerLemmas.{lexed-answer, lexed-read, lexical-answer, lexical-read}
use Rattle.query_parse.proofs.query.parse.Goals as goal

pub returns-in-Err : goal.returns-in-Err
returns-in-Err c = record {
  exact = rw c.lexical.ensures (lexical-answer c.args.def.now c.args.params.now c.args.text.now c.in-Err.fault c.in-Err.ensures.err);
  read = rw c.lexical.ensures (lexical-read c.args.def.now c.args.params.now c.args.text.now c.in-Err.fault c.in-Err.ensures.err);
}

pub returns : goal.returns
returns c =
    let def = c.args.def.now in
    let params = c.args.params.now in
    let given = rw (c.as_slice.ensures, c.as_slice-2.ensures) at c.answer.ensures in
    record {
      exact = lexed-answer def params (c.reading_answers.ensures def params) c.args.text.now c.in-Ok.lexemes c.answer.result c.in-Ok.ensures.ok c.in-Ok.ensures.places given;
      read = lexed-read def params c.args.text.now c.in-Ok.lexemes c.answer.result c.in-Ok.ensures.ok given;
    }
