use Rattle.std.proofs.Common.{◌≡◌, ◌∙◌, ap, subst, List, ℕ, map}
use Rattle.std.specs.Prelude.{IfOk, option_to_list}
use Rattle.token_text.specs.declared.token.Token.{Token}
use Rattle.token_text.specs.Tokens.{tokens}
use Rattle.query_grammar.specs.Meaning.{quoted}
use Rattle.query_parse.proofs.atoms.quote_part.Goals as goal

pub returns : goal.returns
returns c =
    let word : Token → List ℕ = λ token. token.word in
    let words : c.in_ok-words.words.items ≡ map word (tokens c.args.text.now c.args.parser.now.def.now.stops.words) = c.in_ok-words.ensures ∙ ap (map word) c.in_ok-found.ensures in
    subst (λ (ws : List (List ℕ)). IfOk c.quoted.result (λ part. option_to_list part ≡ quoted c.args.fields.now ws)) words c.quoted.ensures
