use Rattle.std.proofs.Common.{sym, ◌∙◌, arith}
use Rattle.query_parse.proofs.Tagging.{begins, is-open, stops_here}
use Rattle.query_parse.proofs.tags.tags.Goals as goal

pub reading-init : goal.reading-init
reading-init c = record { reads = rw c.new-parts.ensures.items (begins _ _ _ _); within = omega arith }

pub returns-in-Err-clause-read : goal.returns-in-Err-clause-read
returns-in-Err-clause-read c =
    let def = c.args.parser.now.def.now in
    let params = c.args.parser.now.params in
    let unclosed = is-open def params c.args.case c.reading.rest.now (sym c.tags_end.ensures.end ∙ c.if-tags_end.false) in
    stops_here def params c.args.case _ _ _ _ unclosed c.in-Err.ensures.read c.reading.invariant.reads
