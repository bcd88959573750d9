use Rattle.std.proofs.Common.{◌≡◌, ◌<◌, ℕ, length, ◌∙◌, ap, sym, subst}
use Rattle.token_text.proofs.SlicesLaws.{length-tokens}
use Rattle.token_text.proofs.text_tokens.TextTokens.word.Goals as goal

pub word_at-requires-clause-index : goal.word_at-requires-clause-index
word_at-requires-clause-index c =
    let all = ap length (sym c.self.view_is) ∙ length-tokens c.self.inside.bytes.items 1 c.self.inside.parts.items in
    let held : length c.args.self.now ≡ length c.as_slice-2.result.now = all ∙ ap length (sym c.as_slice-2.ensures.value) in
    subst (λ (n : ℕ). c.args.i < n) held c.requires
