use Rattle.std.proofs.Common.{◌≡◌, true, false, sym, ◌∙◌}
use Rattle.query_grammar.specs.Grammar.{has_name}
use Rattle.query_grammar.specs.Reading.{names_of}
use Rattle.query_parse.specs.NameKeys.{holds}
use Rattle.query_parse.proofs.PairLemmas.{name-again, name-new}
use Rattle.query_parse.proofs.blocks.next_step.Goals as goal

pub returns-then-has_name-clause-read : goal.returns-then-has_name-clause-read
returns-then-has_name-clause-read c = λ def others before named.
    let seen : holds c.args.names.now c.in-Param.name ≡ true = cc in
    let again : has_name (names_of def c.args.params.now before) c.in-Param.name ≡ true = sym (named c.in-Param.name) ∙ seen in
    name-again def c.args.params.now others before c.args.lexemes.now c.first-item.result c.in-Param.name c.in-len1-up.len_at_least c.first-item.is c.in-Param.is again

pub returns-else-has_name-clause-read : goal.returns-else-has_name-clause-read
returns-else-has_name-clause-read c = λ def others before named.
    let seen : holds c.args.names.now c.in-Param.name ≡ false = cc in
    let again : has_name (names_of def c.args.params.now before) c.in-Param.name ≡ false = sym (named c.in-Param.name) ∙ seen in
    let read = rw (c.behind-else-has_name.ensures.value, c.as_slice-else-has_name.ensures) at (c.named.ensures.read def others before) in
    read ∙ name-new def c.args.params.now others before c.args.lexemes.now c.first-item.result c.in-Param.name c.in-len1-up.len_at_least c.first-item.is c.in-Param.is again
