-- The lexemes that are read of a text, and what separates them, spell it.
use Rattle.std.proofs.Common.{◌≡◌, ℕ, zero, suc, ◌+◌, ◌-◌, ◌≤◌, Bool, false, List, [], ◌∷◌, ◌++◌, length, replicate, Option, Some, None, Result, Ok, Err, IfOk, ap, sym, ◌∙◌, subst, length-append, arith}
use Rattle.std.proofs.lemmas.List.{length-replicate}
use Rattle.std.proofs.lemmas.Result.{IfOk-at_ok}
use Rattle.ft_base.specs.Reading.{◌>>=◌}
use Rattle.query_lex.specs.declared.context.Context.{Context}
use Rattle.query_lex.specs.declared.context.Context.TheVariants.{Text}
use Rattle.query_lex.specs.declared.fault.LexFault.{LexFault}
use Rattle.query_lex.specs.declared.fault.Stop.{Stop}
use Rattle.query_lex.specs.declared.lexeme.LexKind.{LexKind}
use Rattle.query_lex.specs.declared.lexeme.Lexeme.{Lexeme}
use Rattle.query_lex.specs.Context.{context_behind}
use Rattle.query_lex.specs.Lexemes.{lexeme_at, at_place, lexed_in, lexed, placed, lexemes}
use Rattle.query_lex.specs.Reading.{Read}
use Rattle.query_lex.specs.Spells.{SpellsIn, no_more, separator, lexeme, in_tags_behind, Spells}
use Rattle.query_lex.proofs.InTags.{in_tags, KeepsTags, lexeme-keeps}
use Rattle.query_lex.proofs.Lexing.{after}
use Rattle.query_lex.proofs.RolesSpelled.{lexeme-stands}
use Rattle.query_lex.proofs.Standing.{Took, Stands, blank-separates}

-- blanks only separate
blanks-separate : (is_in : Bool) (blanks at : ℕ) (text : List ℕ) (found : List Lexeme)
    → SpellsIn is_in (at + blanks) text found → SpellsIn is_in at (replicate blanks 32 ++ text) found
blanks-separate is_in zero at text found spells =
    let here : at + 0 ≡ at = omega arith in
    subst (λ (place : ℕ). SpellsIn is_in place text found) here spells
blanks-separate is_in (suc blanks) at text found spells =
    let here : at + suc blanks ≡ suc at + blanks = omega arith in
    let others = subst (λ (place : ℕ). SpellsIn is_in place text found) here spells in
    separator (blank-separates is_in (replicate blanks 32 ++ text))
    (blanks-separate is_in blanks (suc at) text found others)

-- how many bytes a lexeme takes
took-length : (is_in : Bool) (bytes : List ℕ) (kind : LexKind) (rest : List ℕ) (took : Took is_in bytes kind rest)
    → length bytes ≡ length took.spelling + (took.blanks + length rest)
took-length is_in bytes kind rest took =
    let blanks : length (replicate took.blanks 32 ++ rest) ≡ took.blanks + length rest =
    length-append (replicate took.blanks 32) rest
    ∙ ap (λ (n : ℕ). n + length rest) (length-replicate took.blanks 32) in
    ap length took.whole ∙ length-append took.spelling (replicate took.blanks 32 ++ rest)
    ∙ ap (λ (n : ℕ). length took.spelling + n) blanks

after_ok : (found : List Lexeme) (others : Result (List Lexeme) Stop) (P Q : List Lexeme → Type 0) → IfOk others P
    → ((lexemes : List Lexeme) → P lexemes → Q (found ++ lexemes))
    → IfOk (after found others) Q
after_ok found (Ok lexemes) P Q h given = given lexemes h
after_ok found (Err stop) P Q h given = tt

-- what is known of the bytes behind a lexeme
abbrev Again : ℕ → ℕ → Type 0
Again n total = (at : ℕ) (context : Context) (rest : List ℕ) → length rest ≤ n → at + length rest ≡ total
    → IfOk (lexed_in n total context rest) (SpellsIn (in_tags context) at rest)

-- the lexeme that is read at the first of so many bytes, if there is one, and those behind it
abbrev with_others : ℕ → ℕ → Context → ℕ → Option LexKind × List ℕ → Result (List Lexeme) Stop
with_others n total context size first =
    after (at_place (total - size) first.0) (lexed_in n total (context_behind context first.0) first.1)

-- the text spells what is read of it
abbrev IsSpelled : Context → ℕ → List ℕ → Result (List Lexeme) Stop → Type 0
IsSpelled context at text read = IfOk read (SpellsIn (in_tags context) at text)

one-spelled : (n total at : ℕ) (context : Context) (b : ℕ) (bytes : List ℕ) (kind : Option LexKind) (rest : List ℕ)
    → length (b ∷ bytes) ≤ suc n → at + length (b ∷ bytes) ≡ total
    → Stands (in_tags context) b bytes kind rest → KeepsTags context kind → Again n total
    → IsSpelled context at (b ∷ bytes) (with_others n total context (length (b ∷ bytes)) (kind, rest))
one-spelled n total at context b bytes None rest few place stands keeps again =
    let size : length rest ≡ length bytes = ap length stands.0 in
    let P : List ℕ → List Lexeme → Type 0 = SpellsIn (in_tags context) (suc at) in
    after_ok [] (lexed_in n total context rest) (P rest) (SpellsIn (in_tags context) at (b ∷ bytes))
    (again (suc at) context rest (omega arith) (omega arith))
    (λ found spells. separator stands.1 (subst (λ (text : List ℕ). P text found) stands.0 spells))
one-spelled n total at context b bytes (Some kind) rest few place stands keeps again =
    let size : length (b ∷ bytes) ≡ length stands.spelling + (stands.blanks + length rest) =
    took-length (in_tags context) (b ∷ bytes) kind rest stands in
    let here : at ≡ total - length (b ∷ bytes) = omega arith in
    let end : ℕ = at + length stands.spelling in
    let next : Context = context_behind context (Some kind) in
    let is_in : Bool = in_tags_behind (in_tags context) kind in
    let P : List ℕ → List Lexeme → Type 0 = SpellsIn (in_tags context) at in
    after_ok (at_place (total - length (b ∷ bytes)) (Some kind)) (lexed_in n total next rest)
    (SpellsIn (in_tags next) (end + stands.blanks) rest) (P (b ∷ bytes))
    (again (end + stands.blanks) next rest (omega (arith, stands.least)) (omega arith))
    (λ found spells.
    let others = subst (λ (x : Bool). SpellsIn x (end + stands.blanks) rest found) keeps spells in
    let behind = blanks-separate is_in stands.blanks end rest found others in
    subst (λ (place : ℕ). P (b ∷ bytes) (record { at = place; kind = kind } ∷ found)) here
    (subst (λ (text : List ℕ). P text (record { at = at; kind = kind } ∷ found)) (sym stands.whole)
    (lexeme stands.spelling stands.least stands.spells stands.ends behind)))

step-spelled : (n total at : ℕ) (context : Context) (b : ℕ) (bytes : List ℕ) (read : Read (Option LexKind))
    → length (b ∷ bytes) ≤ suc n → at + length (b ∷ bytes) ≡ total
    → IfOk read (λ x. Stands (in_tags context) b bytes x.0 x.1) → IfOk read (λ x. KeepsTags context x.0) → Again n total
    → IsSpelled context at (b ∷ bytes) (read >>= with_others n total context (length (b ∷ bytes)))
step-spelled n total at context b bytes (Ok first) few place stands keeps again =
    one-spelled n total at context b bytes first.0 first.1 few place stands keeps again
step-spelled n total at context b bytes (Err stop) few place stands keeps again = tt

lexed-spelled : (n total at : ℕ) (context : Context) (bytes : List ℕ) → length bytes ≤ n → at + length bytes ≡ total
    → IsSpelled context at bytes (lexed_in n total context bytes)
lexed-spelled zero total at context [] few place = no_more
lexed-spelled zero total at context (b ∷ bytes) few place = absurd (omega (arith, few))
lexed-spelled (suc n) total at context [] few place = no_more
lexed-spelled (suc n) total at context (b ∷ bytes) few place =
    step-spelled n total at context b bytes (lexeme_at context b bytes) few place (lexeme-stands context b bytes)
    (lexeme-keeps context b bytes)
    (λ at context rest few place. lexed-spelled n total at context rest few place)

placed-ok : (total : ℕ) (read : Result (List Lexeme) Stop) (P : List Lexeme → Type 0) → IfOk read P
    → IfOk (placed total read) P
placed-ok total (Ok found) P h = h
placed-ok total (Err stop) P h = tt

pub text-spelled : (text : List ℕ) (found : List Lexeme) → lexemes text ≡ Ok found → Spells 0 text found
unfolding lexed lexemes
text-spelled text found read =
    IfOk-at_ok (SpellsIn false 0 text) read
    (placed-ok (length text) (lexed text) (SpellsIn false 0 text)
    (lexed-spelled (length text) (length text) 0 Text text (omega arith) (omega arith)))

-- a text has one answer
pub one-list : (text : List ℕ) (found others : List Lexeme) → lexemes text ≡ Ok found → lexemes text ≡ Ok others
    → found ≡ others
one-list text found others one other = cc

pub no-fault : (text : List ℕ) (found : List Lexeme) (fault : LexFault) → lexemes text ≡ Ok found
    → lexemes text ≡ Err fault → ⊥
no-fault text found fault one other = cc
