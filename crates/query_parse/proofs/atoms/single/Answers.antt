use Rattle.std.proofs.Common.{List, ℕ, subst, ◌≡◌}
use Rattle.std.specs.Prelude.{IfOk, option_to_list}
use Rattle.query_grammar.specs.Meaning.{quote_parts}
use Rattle.query_parse.proofs.atoms.single.Goals as goal

pub returns-in-Quote-clause-read : goal.returns-in-Quote-clause-read
returns-in-Quote-clause-read c =
    let stops = c.args.parser.now.def.now.stops.words in
    let made = subst (λ (text : List ℕ). IfOk c.quote_part.result (λ left. option_to_list left ≡ quote_parts stops c.args.fields.now text)) c.as_slice-in-Quote.ensures c.quote_part.ensures in
    rw c.in-Quote.is (c.followed-in-Quote.ensures.read (quote_parts stops c.args.fields.now c.in-Quote.text) made)
