use Rattle.std.proofs.Common.{length, ◌∙◌, ap, sym}
use Rattle.token_text.proofs.SlicesLaws.{length-tokens}
use Rattle.token_text.proofs.text_tokens.TextTokens.len.Goals as goal

pub returns-clause-len : goal.returns-clause-len
returns-clause-len c =
    let same = sym (length-tokens c.self.inside.bytes.items 1 c.self.inside.parts.items) ∙ ap length c.self.view_is in
    c.len.ensures ∙ (c.self.inside.parts.ok.0 ∙ same)
