use Rattle.std.proofs.Common.{◌∙◌, ◌+◌, sym}
use Rattle.token_text.specs.declared.token.Token.{Token}
use Rattle.ft_meaning.specs.Holds.{begins}
use Rattle.query_match.proofs.TokenLemmas.{none-next, some-here}
use Rattle.query_match.proofs.words.has_prefix.Goals as goal

pub returns-then-starts_with : goal.returns-then-starts_with
returns-then-starts_with c =
    sym (some-here (λ (token : Token). begins c.args.text.now token.word) c.args.found.now c.loop-i.i (record { place = c.loop-i.i + 1; word = c.word.result.now }) c.word.ensures
    (sym c.starts_with.ensures.value ∙ c.if-starts_with.true))

pub loop-i-preserved : goal.loop-i-preserved
loop-i-preserved c =
    none-next (λ (token : Token). begins c.args.text.now token.word) c.args.found.now c.loop-i.i (record { place = c.loop-i.i + 1; word = c.word.result.now }) c.word.ensures
    c.loop-i.invariant (sym c.starts_with.ensures.value ∙ c.if-starts_with.false)
