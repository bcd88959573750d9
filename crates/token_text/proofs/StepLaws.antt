-- One token more of those that a caller goes through by index.
use Rattle.std.proofs.Common.{◌≡◌, ℕ, ◌+◌, List, [], ◌∷◌, ◌++◌, take, Some, ap, ◌∙◌}
use Rattle.std.specs.List.{slice_get}
use Rattle.std.proofs.lemmas.List.{take_more}
use Rattle.std.proofs.lemmas.Option.{get_or_from_slice_get, slice_get_within}
use Rattle.token_text.specs.declared.token.Token.{Token}

-- the tokens so far
pub taken-next : (tokens : List Token) (i : ℕ) (token : Token) → slice_get tokens i ≡ Some token → take (i + 1) tokens ≡ take i tokens ++ token ∷ []
taken-next tokens i token here =
    take_more tokens i token (slice_get_within tokens i token here)
    ∙ ap (λ (last : Token). take i tokens ++ last ∷ []) (get_or_from_slice_get tokens i token token here)
