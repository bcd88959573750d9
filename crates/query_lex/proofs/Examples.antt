-- What the definition says of a few texts: which lexemes spell them, and which do not.
use Rattle.std.proofs.Common.{◌≡◌, ℕ, ◌⊎◌, Bool, true, false, true≢false, List, [], ◌∷◌, ◌++◌, codes, refl, ap, sym, subst, inl, inr, arith}
use Rattle.query_lex.specs.declared.lexeme.LexKind.{LexKind}
use Rattle.query_lex.specs.declared.lexeme.LexKind.TheVariants as kinds
use Rattle.query_lex.specs.declared.lexeme.Lexeme.{Lexeme}
use Rattle.query_lex.specs.declared.lexeme.Sign.TheVariants as signs
use Rattle.query_lex.specs.Spelling.{IsSpelling, quoted_end, quoted_byte, tag_end, tag_byte, tag_escape}
use Rattle.query_lex.specs.Spells.{only_separates, is_whole, SpellsIn, no_more, separator, lexeme, Spells}

abbrev put : ℕ → LexKind → Lexeme
put at kind = record { at = at; kind = kind }

-- words, a quote and signs; the blank in the quote is of it, the other one separates
words :
    Spells 0 (codes "@t:(a \"b c\")")
    (put 0 (kinds.Sign signs.At) ∷ put 1 (kinds.Word (codes "t")) ∷ put 2 (kinds.Sign signs.Colon)
    ∷ put 3 (kinds.Sign signs.Open) ∷ put 4 (kinds.Word (codes "a")) ∷ put 6 (kinds.Quote (codes "b c"))
    ∷ put 11 (kinds.Sign signs.Close) ∷ [])
words =
    lexeme (codes "@") (omega arith) refl refl
    (lexeme (codes "t") (omega arith) refl refl
    (lexeme (codes ":") (omega arith) refl refl
    (lexeme (codes "(") (omega arith) refl refl
    (lexeme (codes "a") (omega arith) refl refl
    (separator refl
    (lexeme (codes "\"b c\"") (omega arith) (refl, quoted_byte refl (quoted_byte refl (quoted_byte refl quoted_end))) refl
    (lexeme (codes ")") (omega arith) refl refl no_more)))))))

-- a tag whose bar is escaped, and a prefix; a bar and blanks stand between them
tags :
    Spells 0 (codes "@t:{a\\|b | c* }")
    (put 0 (kinds.Sign signs.At) ∷ put 1 (kinds.Word (codes "t")) ∷ put 2 (kinds.Sign signs.Colon)
    ∷ put 3 (kinds.Sign signs.TagOpen) ∷ put 4 (kinds.Tag (codes "a|b") false) ∷ put 11 (kinds.Tag (codes "c") true)
    ∷ put 14 (kinds.Sign signs.TagClose) ∷ [])
tags =
    lexeme (codes "@") (omega arith) refl refl
    (lexeme (codes "t") (omega arith) refl refl
    (lexeme (codes ":") (omega arith) refl refl
    (lexeme (codes "{") (omega arith) refl refl
    (lexeme (codes "a\\|b") (omega arith) (tag_byte refl (tag_escape (tag_byte refl tag_end))) refl
    (separator refl (separator refl (separator refl
    (lexeme (codes "c*") (omega arith) (tag_byte refl tag_end) refl
    (separator refl
    (lexeme (codes "}") (omega arith) refl refl no_more))))))))))

-- an escaped blank is of its word, and a `$` without a name is of nothing
escaped : Spells 0 (codes "red\\ wine $ $c")
    (put 0 (kinds.Word (codes "red wine")) ∷ put 12 (kinds.Param (codes "c")) ∷ [])
escaped =
    lexeme (codes "red\\ wine") (omega arith) refl refl
    (separator refl (separator refl (separator refl
    (lexeme (codes "$c") (omega arith) (refl, refl) refl no_more))))

-- A lexeme stands at the next byte, unless that only separates.
next_place : {is_in : Bool} {at : ℕ} {text : List ℕ} {found : List Lexeme} → SpellsIn is_in at text found → (b : ℕ)
    (rest : List ℕ) (first : Lexeme) (others : List Lexeme)
    → text ≡ b ∷ rest → found ≡ first ∷ others → (first.at ≡ at) ⊎ (only_separates is_in b rest ≡ true)
next_place no_more b rest first others text found = absurd cc
next_place (separator {in_tags = is_in} {b = c} {text = more} separates spells) b rest first others text found =
    let same : c ≡ b = cc in
    let behind : more ≡ rest = cc in
    let here = subst (λ (byte : ℕ). only_separates is_in byte more ≡ true) same separates in
    inr (subst (λ (bytes : List ℕ). only_separates is_in b bytes ≡ true) behind here)
next_place (lexeme {at = place} {kind = kind} bytes some spelling whole spells) b rest first others text found =
    let same : put place kind ≡ first = cc in
    inl (sym (ap (λ (x : Lexeme). x.at) same))

-- the byte of a word does not separate, so the word stands nowhere but at it
wrong_offset : Spells 0 (codes "a") (put 1 (kinds.Word (codes "a")) ∷ []) → ⊥
wrong_offset spells =
    elim (next_place spells 97 [] (put 1 (kinds.Word (codes "a"))) [] refl refl) [
      | inl at ↦ omega (arith, at)
      | inr separates ↦ true≢false (sym separates)
    ]

-- a bar outside the braces of tags is a sign of its own
lost_bar : Spells 0 (codes "|a") (put 1 (kinds.Word (codes "a")) ∷ []) → ⊥
lost_bar spells =
    elim (next_place spells 124 (codes "a") (put 1 (kinds.Word (codes "a"))) [] refl refl) [
      | inl at ↦ omega (arith, at)
      | inr separates ↦ true≢false (sym separates)
    ]

-- a parameter is not passed over
lost_param : Spells 0 (codes "$c") [] → ⊥
lost_param spells = by_text spells refl refl
  where
    by_text : {at : ℕ} {text : List ℕ} {found : List Lexeme} → SpellsIn false at text found
        → text ≡ codes "$c" → found ≡ [] → ⊥
    by_text no_more text found = cc
    by_text (separator {b = c} {text = more} separates spells) text found =
        let same : c ≡ 36 = cc in
        let behind : more ≡ codes "c" = cc in
        let here = subst (λ (byte : ℕ). only_separates false byte more ≡ true) same separates in
        true≢false (sym (subst (λ (bytes : List ℕ). only_separates false 36 bytes ≡ true) behind here))
    by_text (lexeme bytes some spelling whole spells) text found = cc

-- a word is not two
split_word : Spells 0 (codes "ab") (put 0 (kinds.Word (codes "a")) ∷ put 1 (kinds.Word (codes "b")) ∷ []) → ⊥
split_word spells = by_text spells refl refl
  where
    by_text : {at : ℕ} {text : List ℕ} {found : List Lexeme} → SpellsIn false at text found → text ≡ codes "ab"
        → found ≡ put 0 (kinds.Word (codes "a")) ∷ put 1 (kinds.Word (codes "b")) ∷ [] → ⊥
    by_text no_more text found = cc
    by_text (separator {b = c} {text = more} separates spells) text found =
        let same : c ≡ 97 = cc in
        true≢false (sym (subst (λ (byte : ℕ). only_separates false byte more ≡ true) same separates))
    by_text (lexeme {at = place} {kind = kind} bytes {text = more} some spelling whole spells) text found =
        let same : put place kind ≡ put 0 (kinds.Word (codes "a")) = cc in
        let word : kind ≡ kinds.Word (codes "a") = ap (λ (x : Lexeme). x.kind) same in
        let first : bytes ≡ codes "a" = subst (λ (k : LexKind). IsSpelling k bytes) word spelling in
        let both : 97 ∷ more ≡ codes "ab" = subst (λ (front : List ℕ). front ++ more ≡ codes "ab") first text in
        let rest : more ≡ codes "b" = cc in
        let here = subst (λ (k : LexKind). is_whole false k more ≡ true) word whole in
        true≢false (sym (subst (λ (after : List ℕ). is_whole false (kinds.Word (codes "a")) after ≡ true) rest here))
