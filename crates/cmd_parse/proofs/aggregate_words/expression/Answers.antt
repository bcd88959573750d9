use Rattle.cmd_parse.proofs.ExpressionLaws.{expression-read, expression-stops}
use Rattle.cmd_parse.proofs.aggregate_words.expression.Goals as goal

pub returns-in-Ok-clause-read : goal.returns-in-Ok-clause-read
returns-in-Ok-clause-read c = expression-read c.args.words.now c.in-Some.rest c.in-Some.text.now c.in-Ok.tree c.in-Some.ensures c.in-Ok.ensures.exact

pub returns-in-Err : goal.returns-in-Err
returns-in-Err c = record {
  read = rw c.expression_stop.ensures (expression-stops c.args.words.now c.in-Some.rest c.in-Some.text.now c.in-Err.found c.in-Some.ensures c.in-Err.ensures.exact);
  shorter = tt;
}
