use Rattle.std.proofs.Common.{◌∙◌, ◌+◌, sym}
use Rattle.std.specs.Str.{bytes_eq}
use Rattle.token_text.specs.declared.token.Token.{Token}
use Rattle.query_match.proofs.TokenLemmas.{none-next, some-here}
use Rattle.query_match.proofs.words.has_word.Goals as goal

pub returns-then-eq : goal.returns-then-eq
returns-then-eq c =
    sym (some-here (λ (token : Token). bytes_eq c.args.text.now token.word) c.args.found.now c.loop-i.i (record { place = c.loop-i.i + 1; word = c.word.result.now }) c.word.ensures
    (sym c.eq.ensures ∙ c.if-eq.true))

pub loop-i-preserved : goal.loop-i-preserved
loop-i-preserved c =
    none-next (λ (token : Token). bytes_eq c.args.text.now token.word) c.args.found.now c.loop-i.i (record { place = c.loop-i.i + 1; word = c.word.result.now }) c.word.ensures
    c.loop-i.invariant (sym c.eq.ensures ∙ c.if-eq.false)
