-- Taking the blanks off a piece's end, one after another.
use Rattle.std.proofs.Common.{◌≡◌, ℕ, suc, ◌-◌, Bool, true, false, cond, List, [], ◌∷◌, ◌++◌, length, take, drop, refl, ap, sym, ◌∙◌, arith}
use Rattle.std.specs.Prelude.{◌||◌}
use Rattle.std.specs.List.{list_any}
use Rattle.query_lex.specs.declared.text_byte.TextByte.{TextByte}
use Rattle.query_lex.specs.Pieces.{is_plain, trimmed_with, trimmed, front_of, ends_in}
use Rattle.query_lex.specs.Quotes.{spelled}
use Rattle.query_lex.proofs.SpelledLemmas.{spelled-behind, spelled-is_plain}

or-false : (x : Bool) → (x || false) ≡ x
or-false true = refl
or-false false = refl

ends-one : (byte : ℕ) (b : TextByte) → ends_in byte (b ∷ []) ≡ is_plain byte b
ends-one byte b =
    let none : length (b ∷ []) - 1 ≡ 0 = omega arith in
    ap (λ k. list_any (is_plain byte) (drop k (b ∷ []))) none ∙ or-false (is_plain byte b)

front-one : (b : TextByte) → front_of (b ∷ []) ≡ []
front-one b =
    let none : length (b ∷ []) - 1 ≡ 0 = omega arith in
    ap (λ k. take k (b ∷ [])) none

-- the end of a piece is that of what stands behind its first byte
ends-behind : (byte : ℕ) (b c : TextByte) (piece : List TextByte) → ends_in byte (b ∷ c ∷ piece) ≡ ends_in byte (c ∷ piece)
ends-behind byte b c piece =
    let whole : length (b ∷ c ∷ piece) - 1 ≡ suc (length (c ∷ piece) - 1) = omega arith in
    ap (λ k. list_any (is_plain byte) (drop k (b ∷ c ∷ piece))) whole

front-behind : (b c : TextByte) (piece : List TextByte) → front_of (b ∷ c ∷ piece) ≡ b ∷ front_of (c ∷ piece)
front-behind b c piece =
    let whole : length (b ∷ c ∷ piece) - 1 ≡ suc (length (c ∷ piece) - 1) = omega arith in
    ap (λ k. take k (b ∷ c ∷ piece)) whole

-- a piece that ends in a blank is trimmed to the same without it
pub trims : (piece : List TextByte) → ends_in 32 piece ≡ true → trimmed (front_of piece) ≡ trimmed piece
trims [] blank = absurd cc
trims (b ∷ []) blank = ap trimmed (front-one b) ∙ sym (ap (λ is. cond is [] (b ∷ [])) (sym (ends-one 32 b) ∙ blank))
trims (b ∷ c ∷ piece) blank =
    let behind = trims (c ∷ piece) (sym (ends-behind 32 b c piece) ∙ blank) in
    ap trimmed (front-behind b c piece) ∙ ap (trimmed_with b) behind

-- a piece that ends in none is trimmed
pub trims-not : (piece : List TextByte) → ends_in 32 piece ≡ false → trimmed piece ≡ piece
trims-not [] blank = refl
trims-not (b ∷ []) blank = ap (λ is. cond is [] (b ∷ [])) (sym (ends-one 32 b) ∙ blank)
trims-not (b ∷ c ∷ piece) blank = ap (trimmed_with b) (trims-not (c ∷ piece) (sym (ends-behind 32 b c piece) ∙ blank))

-- a piece that ends in a byte is spelled by what is before it, and by it
pub ends-spelled : (byte : ℕ) (piece : List TextByte) → ends_in byte piece ≡ true → spelled piece ≡ spelled (front_of piece) ++ byte ∷ []
ends-spelled byte [] ends = absurd cc
ends-spelled byte (b ∷ []) ends =
    spelled-is_plain byte b [] (sym (ends-one byte b) ∙ ends) ∙ sym (ap (λ (front : List TextByte). spelled front ++ byte ∷ []) (front-one b))
ends-spelled byte (b ∷ c ∷ piece) ends =
    let behind = ends-spelled byte (c ∷ piece) (sym (ends-behind byte b c piece) ∙ ends) in
    spelled-behind b (c ∷ piece) (front_of (c ∷ piece)) (byte ∷ []) behind ∙ sym (ap (λ (front : List TextByte). spelled front ++ byte ∷ []) (front-behind b c piece))
