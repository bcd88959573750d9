use Rattle.std.proofs.Common.{◌<◌, length, sym, ◌∙◌, ap, Ok, arith, rules}
use Rattle.query_parse.proofs.AnswerLemmas.{ended, goes-on, whole-read, whole-stops}
use Rattle.query_parse.proofs.query.whole.Goals as goal

pub returns-in-Err : goal.returns-in-Err
returns-in-Err c =
    let def = c.args.parser.now.def.now in
    let params = c.args.parser.now.params in
    let some : 0 < length c.args.lexemes.now = search rules in
    whole-stops def params c.args.lexemes.now c.in-Err.stop some c.in-Err.ensures.read

pub returns-in-empty : goal.returns-in-empty
returns-in-empty c =
    let def = c.args.parser.now.def.now in
    let params = c.args.parser.now.params in
    let some : 0 < length c.args.lexemes.now = search rules in
    whole-read def params c.args.lexemes.now c.in-Ok.read.1.now c.in-Ok.read.0.items some c.in-Ok.ensures.read ∙ (ended def params c.in-Ok.read.0.items c.in-Ok.read.1.now (omega arith) ∙ ap Ok (sym c.union_of.ensures))

pub returns-in_default : goal.returns-in_default
returns-in_default c =
    let def = c.args.parser.now.def.now in
    let params = c.args.parser.now.params in
    let some : 0 < length c.args.lexemes.now = search rules in
    whole-read def params c.args.lexemes.now c.in-Ok.read.1.now c.in-Ok.read.0.items some c.in-Ok.ensures.read ∙ goes-on def params c.in-Ok.read.0.items c.in-Ok.read.1.now (omega arith)
