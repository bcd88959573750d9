-- How the bytes in a quote are spelled, one after another.
use Rattle.std.proofs.Common.{◌≡◌, ℕ, Bool, true, false, cond, not, eqb, List, [], ◌∷◌, ◌++◌, refl, ap, ◌∙◌, sym}
use Rattle.std.proofs.lemmas.Bool.{and_parts, not-true, eqb-true}
use Rattle.query_lex.specs.declared.text_byte.TextByte.{TextByte}
use Rattle.query_lex.specs.Pieces.{is_plain}
use Rattle.query_lex.specs.Quotes.{spelled}

one_more : (is_escaped : Bool) (byte : ℕ) (bytes others : List ℕ) → cond is_escaped (92 ∷ byte ∷ bytes) (byte ∷ bytes) ++ others ≡ cond is_escaped (92 ∷ byte ∷ (bytes ++ others)) (byte ∷ (bytes ++ others))
one_more true byte bytes others = refl
one_more false byte bytes others = refl

pub spelled-append : (xs ys : List TextByte) → spelled (xs ++ ys) ≡ spelled xs ++ spelled ys
spelled-append [] ys = refl
spelled-append (x ∷ xs) ys =
    ap (λ (bytes : List ℕ). cond x.escaped (92 ∷ x.byte ∷ bytes) (x.byte ∷ bytes)) (spelled-append xs ys)
    ∙ sym (one_more x.escaped x.byte (spelled xs) (spelled ys))

-- a byte before others, some of which are known
pub spelled-behind : (b : TextByte) (bytes kept : List TextByte) (more : List ℕ) → spelled bytes ≡ spelled kept ++ more → spelled (b ∷ bytes) ≡ spelled (b ∷ kept) ++ more
spelled-behind b bytes kept more e =
    ap (λ (others : List ℕ). cond b.escaped (92 ∷ b.byte ∷ others) (b.byte ∷ others)) e ∙ sym (one_more b.escaped b.byte (spelled kept) more)

-- a byte that is not escaped is spelled by itself
pub spelled-plain : (b : TextByte) (bytes : List TextByte) → b.escaped ≡ false → spelled (b ∷ bytes) ≡ b.byte ∷ spelled bytes
spelled-plain b bytes e = ap (λ (is : Bool). cond is (92 ∷ b.byte ∷ spelled bytes) (b.byte ∷ spelled bytes)) e

pub spelled-is_plain : (byte : ℕ) (b : TextByte) (bytes : List TextByte) → is_plain byte b ≡ true → spelled (b ∷ bytes) ≡ byte ∷ spelled bytes
spelled-is_plain byte b bytes is =
    let parts = and_parts (not b.escaped) (eqb b.byte byte) is in
    spelled-plain b bytes (not-true b.escaped parts.0) ∙ ap (λ (c : ℕ). c ∷ spelled bytes) (eqb-true b.byte byte parts.1)
