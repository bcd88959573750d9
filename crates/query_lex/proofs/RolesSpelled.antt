-- What stands at a byte, by what the byte begins there.
use Rattle.std.proofs.Common.{◌≡◌, ℕ, Bool, true, false, true≢false, not, eqb, List, [], ◌∷◌, IfOk, refl, sym, subst, inl, inr, arith}
use Rattle.std.specs.Prelude.{◌||◌}
use Rattle.std.proofs.lemmas.Bool.{cond_both, eqb-true, or_parts, or_cases, or_from, not-false}
use Rattle.query_lex.specs.declared.context.Context.{Context}
use Rattle.query_lex.specs.declared.context.Context.TheVariants.{Text, AfterColon, AfterArrow, Range, Tags, Attributes}
use Rattle.query_lex.specs.declared.lexeme.LexKind.TheVariants as kinds
use Rattle.query_lex.specs.declared.lexeme.Sign.{Sign}
use Rattle.query_lex.specs.declared.lexeme.Sign.TheVariants as signs
use Rattle.query_lex.specs.declared.role.Role.{Role}
use Rattle.query_lex.specs.declared.role.Role.TheVariants as role
use Rattle.query_lex.specs.Bytes.{begins_word}
use Rattle.query_lex.specs.Context.{is_enclosed}
use Rattle.query_lex.specs.Lexemes.{lexeme_with, lexeme_at}
use Rattle.query_lex.specs.Roles.{bracket_in, brace_in, sign_role, text_role, range_role, tag_role, attribute_role, is_raw_role}
use Rattle.query_lex.specs.Spelling.{IsSpelling}
use Rattle.query_lex.specs.Spells.{only_separates, goes_on_raw}
use Rattle.ft_base.specs.Separators.{is_separator}
use Rattle.query_lex.proofs.InTags.{in_tags}
use Rattle.query_lex.proofs.ParamsSpelled.{param-stands}
use Rattle.query_lex.proofs.PiecesSpelled.{piece-stands}
use Rattle.query_lex.proofs.QuotesSpelled.{quote-stands}
use Rattle.query_lex.proofs.RawSpelled.{EndsRaw, raw-stands}
use Rattle.query_lex.proofs.Standing.{Stands, took, blank-separates, star-stands, arrow-stands, percent-stands}
use Rattle.query_lex.proofs.WordsSpelled.{word-stands}

-- the byte alone spells the sign
abbrev Alone : Sign → ℕ → Type 0
Alone sign b = IsSpelling (kinds.Sign sign) (b ∷ [])

alone : (sign : Sign) (b byte : ℕ) → eqb b byte ≡ true → Alone sign byte → Alone sign b
alone sign b byte e spells = subst (Alone sign) (sym (eqb-true b byte e)) spells

bracket-alone : (context : Context) → Alone (bracket_in context) 91
bracket-alone AfterColon = refl
bracket-alone _ = refl

brace-alone : (context : Context) → Alone (brace_in context) 123
brace-alone AfterColon = refl
brace-alone AfterArrow = refl
brace-alone _ = refl

-- the cases in a text; of no lexeme is what always only separates
text-cases : (context : Context) (b : ℕ) (P : Role → Type 0)
    → (begins_word b ≡ true → P role.Word)
    → (b ≡ 36 → P role.Dollar) → (b ≡ 34 → P role.Quote) → (b ≡ 42 → P role.Star) → (b ≡ 61 → P role.Equals)
    → (b ≡ 37 → P role.Percent)
    → ((sign : Sign) → Alone sign b → P (role.Sign sign))
    → (((rest : List ℕ) → only_separates false b rest ≡ true) → P role.Blank)
    → P (text_role context b)
unfolding text_role sign_role
text-cases context b P word dollar quote star equals percent sign blank =
    cond_both (begins_word b) role.Word _ P word (λ n0.
    cond_both (eqb b 36) role.Dollar _ P (λ e. dollar (eqb-true b 36 e)) (λ n36.
    cond_both (eqb b 34) role.Quote _ P (λ e. quote (eqb-true b 34 e)) (λ n34.
    cond_both (eqb b 42) role.Star _ P (λ e. star (eqb-true b 42 e)) (λ n42.
    cond_both (eqb b 61) role.Equals _ P (λ e. equals (eqb-true b 61 e)) (λ n61.
    cond_both (eqb b 37) role.Percent _ P (λ e. percent (eqb-true b 37 e)) (λ n37.
    cond_both (eqb b 40) (role.Sign signs.Open) _ P (λ e. sign signs.Open (alone signs.Open b 40 e refl)) (λ n40.
    cond_both (eqb b 41) (role.Sign signs.Close) _ P (λ e. sign signs.Close (alone signs.Close b 41 e refl)) (λ n41.
    cond_both (eqb b 124) (role.Sign signs.Pipe) _ P (λ e. sign signs.Pipe (alone signs.Pipe b 124 e refl)) (λ n124.
    cond_both (eqb b 45) (role.Sign signs.Minus) _ P (λ e. sign signs.Minus (alone signs.Minus b 45 e refl)) (λ n45.
    cond_both (eqb b 126) (role.Sign signs.Tilde) _ P (λ e. sign signs.Tilde (alone signs.Tilde b 126 e refl)) (λ n126.
    cond_both (eqb b 64) (role.Sign signs.At) _ P (λ e. sign signs.At (alone signs.At b 64 e refl)) (λ n64.
    cond_both (eqb b 58) (role.Sign signs.Colon) _ P (λ e. sign signs.Colon (alone signs.Colon b 58 e refl)) (λ n58.
    cond_both (eqb b 91) (role.Sign (bracket_in context)) _ P
    (λ e. sign (bracket_in context) (alone (bracket_in context) b 91 e (bracket-alone context))) (λ n91.
    cond_both (eqb b 123) (role.Sign (brace_in context)) _ P
    (λ e. sign (brace_in context) (alone (brace_in context) b 123 e (brace-alone context))) (λ n123.
    cond_both (eqb b 93 || eqb b 125) (role.Sign signs.Stray) role.Blank P (λ e. sign signs.Stray (stray e)) (λ n.
    let bars = or_parts (eqb b 92) (not (is_separator b)) n0 in
    let n92 : eqb b 92 ≡ false = bars.0 in
    let is : is_separator b ≡ true = not-false (is_separator b) bars.1 in
    let closers = or_parts (eqb b 93) (eqb b 125) n in
    let n93 : eqb b 93 ≡ false = closers.0 in
    let n125 : eqb b 125 ≡ false = closers.1 in
    blank (λ rest.
    rw (n36, n61, is, n34, n37, n40, n41, n42, n45, n58, n64, n91, n92, n93, n123, n124, n125, n126) refl)))))))))))))))))
  where
    stray : (eqb b 93 || eqb b 125) ≡ true → Alone signs.Stray b
    stray e =
        elim (or_cases (eqb b 93) (eqb b 125) e) [
          | inl is ↦ alone signs.Stray b 93 is refl
          | inr is ↦ alone signs.Stray b 125 is refl
        ]

-- what stands there where it begins so
abbrev So : Bool → Context → ℕ → List ℕ → Role → Type 0
So is_in context b rest begun = IfOk (lexeme_with begun context b rest) (λ x. Stands is_in b rest x.0 x.1)

sign-so : (context : Context) (b : ℕ) (rest : List ℕ) (sign : Sign) → Alone sign b
    → So false context b rest (role.Sign sign)
sign-so context b rest sign spells =
    took false (b ∷ rest) (kinds.Sign sign) rest (b ∷ []) (omega arith) refl spells refl

at-byte : (is_in : Bool) (context : Context) (b byte : ℕ) (rest : List ℕ) (begun : Role) → b ≡ byte
    → So is_in context byte rest begun → So is_in context b rest begun
at-byte is_in context b byte rest begun e so = subst (λ (c : ℕ). So is_in context c rest begun) (sym e) so

text-stands : (context : Context) (b : ℕ) (rest : List ℕ) → So false context b rest (text_role context b)
text-stands context b rest =
    text-cases context b (So false context b rest)
    (word-stands b rest)
    (λ e. at-byte false context b 36 rest role.Dollar e (param-stands (not (is_enclosed context)) rest))
    (λ e. at-byte false context b 34 rest role.Quote e (quote-stands rest))
    (λ e. at-byte false context b 42 rest role.Star e (star-stands rest))
    (λ e. at-byte false context b 61 rest role.Equals e (arrow-stands rest))
    (λ e. at-byte false context b 37 rest role.Percent e (percent-stands rest))
    (sign-so context b rest)
    (λ separates. (refl, separates rest))

blank-stands : (is_in : Bool) (context : Context) (b : ℕ) (rest : List ℕ) → eqb b 32 ≡ true
    → So is_in context b rest role.Blank
blank-stands is_in context b rest e =
    at-byte is_in context b 32 rest role.Blank (eqb-true b 32 e) (refl, blank-separates is_in rest)

dollar-stands : (context : Context) (b : ℕ) (rest : List ℕ) → eqb b 36 ≡ true → So false context b rest role.Dollar
dollar-stands context b rest e =
    at-byte false context b 36 rest role.Dollar (eqb-true b 36 e) (param-stands (not (is_enclosed context)) rest)

-- what is not raw in brackets or in braces of attributes ends a run
abbrev Ends : ℕ → Role → Type 0
Ends b begun = is_raw_role begun ≡ false → goes_on_raw b ≡ false

ends-at : (b byte : ℕ) → goes_on_raw byte ≡ false → eqb b byte ≡ true → goes_on_raw b ≡ false
ends-at b byte ends e = subst (λ (c : ℕ). goes_on_raw c ≡ false) (sym (eqb-true b byte e)) ends

range-ends : EndsRaw Range
unfolding range_role
range-ends b =
    let P : Role → Type 0 = Ends b in
    cond_both (eqb b 32) role.Blank _ P (λ e raw. ends-at b 32 refl e) (λ n32.
    cond_both (eqb b 40) (role.Sign signs.Open) _ P (λ e raw. ends-at b 40 refl e) (λ n40.
    cond_both (eqb b 91) (role.Sign signs.Stray) _ P (λ e raw. ends-at b 91 refl e) (λ n91.
    cond_both (eqb b 93) (role.Sign signs.RangeClose) _ P (λ e raw. ends-at b 93 refl e) (λ n93.
    cond_both (eqb b 36) role.Dollar role.Raw P (λ e raw. ends-at b 36 refl e) (λ n36 raw. absurd (true≢false raw))))))

attribute-ends : EndsRaw Attributes
unfolding attribute_role
attribute-ends b =
    let P : Role → Type 0 = Ends b in
    cond_both (eqb b 32) role.Blank _ P (λ e raw. ends-at b 32 refl e) (λ n32.
    cond_both (eqb b 59) (role.Sign signs.Semi) _ P (λ e raw. ends-at b 59 refl e) (λ n59.
    cond_both (eqb b 125) (role.Sign signs.AttrClose) _ P (λ e raw. ends-at b 125 refl e) (λ n125.
    cond_both (eqb b 58) (role.Sign signs.Colon) _ P (λ e raw. ends-at b 58 refl e) (λ n58.
    cond_both (eqb b 36) role.Dollar role.Raw P (λ e raw. ends-at b 36 refl e) (λ n36 raw. absurd (true≢false raw))))))

range-stands : (b : ℕ) (rest : List ℕ) → So false Range b rest (range_role b)
unfolding range_role
range-stands b rest =
    let P : Role → Type 0 = So false Range b rest in
    let put = sign-so Range b rest in
    cond_both (eqb b 32) role.Blank _ P (blank-stands false Range b rest) (λ n32.
    cond_both (eqb b 40) (role.Sign signs.Open) _ P (λ e. put signs.Open (alone signs.Open b 40 e refl)) (λ n40.
    cond_both (eqb b 91) (role.Sign signs.Stray) _ P (λ e. put signs.Stray (alone signs.Stray b 91 e refl)) (λ n91.
    cond_both (eqb b 93) (role.Sign signs.RangeClose) _ P
    (λ e. put signs.RangeClose (alone signs.RangeClose b 93 e refl)) (λ n93.
    cond_both (eqb b 36) role.Dollar role.Raw P (dollar-stands Range b rest) (λ n36.
    raw-stands Range range-ends b rest (rw (n32, n40, n91, n93, n36) refl))))))

attribute-stands : (b : ℕ) (rest : List ℕ) → So false Attributes b rest (attribute_role b)
unfolding attribute_role
attribute-stands b rest =
    let P : Role → Type 0 = So false Attributes b rest in
    let put = sign-so Attributes b rest in
    cond_both (eqb b 32) role.Blank _ P (blank-stands false Attributes b rest) (λ n32.
    cond_both (eqb b 59) (role.Sign signs.Semi) _ P (λ e. put signs.Semi (alone signs.Semi b 59 e refl)) (λ n59.
    cond_both (eqb b 125) (role.Sign signs.AttrClose) _ P
    (λ e. put signs.AttrClose (alone signs.AttrClose b 125 e refl)) (λ n125.
    cond_both (eqb b 58) (role.Sign signs.Colon) _ P (λ e. put signs.Colon (alone signs.Colon b 58 e refl)) (λ n58.
    cond_both (eqb b 36) role.Dollar role.Raw P (dollar-stands Attributes b rest) (λ n36.
    raw-stands Attributes attribute-ends b rest (rw (n32, n59, n125, n58, n36) refl))))))

tag-stands : (b : ℕ) (rest : List ℕ) → So true Tags b rest (tag_role b)
unfolding tag_role
tag-stands b rest =
    let P : Role → Type 0 = So true Tags b rest in
    cond_both (eqb b 32 || eqb b 124) role.Blank _ P between (λ n.
    let bars = or_parts (eqb b 32) (eqb b 124) n in
    cond_both (eqb b 125) (role.Sign signs.TagClose) role.Piece P
    (λ e.
    let spells : Alone signs.TagClose b = alone signs.TagClose b 125 e refl in
    took true (b ∷ rest) (kinds.Sign signs.TagClose) rest (b ∷ []) (omega arith) refl spells refl) (λ n125.
    piece-stands b rest bars.0 (or_from (eqb b 124) (eqb b 125) bars.1 n125)))
  where
    between : (eqb b 32 || eqb b 124) ≡ true → So true Tags b rest role.Blank
    between e =
        elim (or_cases (eqb b 32) (eqb b 124) e) [
          | inl is ↦ blank-stands true Tags b rest is
          | inr is ↦ at-byte true Tags b 124 rest role.Blank (eqb-true b 124 is) (refl, refl)
        ]

pub lexeme-stands : (context : Context) (b : ℕ) (rest : List ℕ)
    → IfOk (lexeme_at context b rest) (λ x. Stands (in_tags context) b rest x.0 x.1)
unfolding lexeme_at
lexeme-stands Range b rest = range-stands b rest
lexeme-stands Tags b rest = tag-stands b rest
lexeme-stands Attributes b rest = attribute-stands b rest
lexeme-stands Text b rest = text-stands Text b rest
lexeme-stands AfterColon b rest = text-stands AfterColon b rest
lexeme-stands AfterArrow b rest = text-stands AfterArrow b rest
