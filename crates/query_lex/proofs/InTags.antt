-- Where the next lexeme stands, so far as the braces of tags go.
use Rattle.std.proofs.Common.{◌≡◌, ℕ, Bool, true, false, eqb, List, [], ◌∷◌, Option, Some, None, Ok, Err, IfOk, refl, sym}
use Rattle.std.specs.Prelude.{◌||◌}
use Rattle.std.proofs.lemmas.Bool.{cond_both}
use Rattle.query_lex.specs.declared.context.Context.{Context}
use Rattle.query_lex.specs.declared.context.Context.TheVariants.{Text, AfterColon, AfterArrow, Range, Tags, Attributes}
use Rattle.query_lex.specs.declared.lexeme.LexKind.{LexKind}
use Rattle.query_lex.specs.declared.lexeme.LexKind.TheVariants as kinds
use Rattle.query_lex.specs.declared.lexeme.Sign.{Sign}
use Rattle.query_lex.specs.declared.lexeme.Sign.TheVariants as signs
use Rattle.query_lex.specs.declared.role.Role.{Role}
use Rattle.query_lex.specs.declared.role.Role.TheVariants as role
use Rattle.query_lex.specs.declared.text_byte.TextByte.{TextByte}
use Rattle.query_lex.specs.Context.{behind, behind_colon, context_behind}
use Rattle.query_lex.specs.Lexemes.{lexeme_with, lexeme_at}
use Rattle.query_lex.specs.Pieces.{tag_byte_at, next_of_tag, trimmed, front_of, starred_kind, piece_kind, piece_at}
use Rattle.query_lex.specs.Reading.{Read, with_first, run_at}
use Rattle.query_lex.specs.Roles.{tag_role}
use Rattle.query_lex.specs.Spells.{in_tags_behind}
use Rattle.query_lex.proofs.PieceKinds.{kind-cases}
use Rattle.query_lex.proofs.Taken.{whatever}

abbrev pub in_tags : Context → Bool
in_tags Tags = true
in_tags other = false

-- what only separates leaves it
abbrev pub kept_behind : Bool → Option LexKind → Bool
kept_behind is_in None = is_in
kept_behind is_in (Some kind) = in_tags_behind is_in kind

abbrev pub KeepsTags : Context → Option LexKind → Type 0
KeepsTags context kind = in_tags (context_behind context kind) ≡ kept_behind (in_tags context) kind

behind-keeps : (context : Context) → in_tags (behind context) ≡ in_tags context
behind-keeps Range = refl
behind-keeps Tags = refl
behind-keeps Attributes = refl
behind-keeps _ = refl

colon-keeps : (context : Context) → in_tags (behind_colon context) ≡ in_tags context
colon-keeps Range = refl
colon-keeps Tags = refl
colon-keeps Attributes = refl
colon-keeps _ = refl

sign-keeps : (context : Context) → in_tags context ≡ false → (sign : Sign) → KeepsTags context (Some (kinds.Sign sign))
sign-keeps context outside signs.Colon = colon-keeps context
sign-keeps context outside signs.Arrow = sym outside
sign-keeps context outside signs.RangeOpen = sym outside
sign-keeps context outside signs.TagOpen = refl
sign-keeps context outside signs.AttrOpen = sym outside
sign-keeps context outside signs.RangeClose = sym outside
sign-keeps context outside signs.TagClose = refl
sign-keeps context outside signs.AttrClose = sym outside
sign-keeps context outside _ = behind-keeps context

kind-keeps : (context : Context) → in_tags context ≡ false → (kind : Option LexKind) → KeepsTags context kind
kind-keeps context outside None = refl
kind-keeps context outside (Some (kinds.Sign sign)) = sign-keeps context outside sign
kind-keeps context outside (Some _) = behind-keeps context

outside-keeps : (context : Context) → in_tags context ≡ false → (read : Read (Option LexKind))
    → IfOk read (λ x. KeepsTags context x.0)
outside-keeps context outside (Ok x) = kind-keeps context outside x.0
outside-keeps context outside (Err stop) = tt

starred-keeps : (front : List TextByte) → KeepsTags Tags (Some (starred_kind front))
starred-keeps [] = refl
starred-keeps (b ∷ front) = refl

piece-keeps : (piece : List TextByte) → KeepsTags Tags (Some (piece_kind piece))
piece-keeps piece =
    kind-cases piece (λ kind. KeepsTags Tags (Some kind)) (λ param. refl) (λ star. starred-keeps (front_of piece)) refl

abbrev Kept : Option LexKind × List ℕ → Type 0
Kept x = KeepsTags Tags x.0

inside-keeps : (b : ℕ) (rest : List ℕ) → IfOk (piece_at b rest) Kept
unfolding piece_at
inside-keeps b rest =
    whatever Kept (tag_byte_at b rest) _
    (λ first. whatever Kept (with_first first.0 (run_at next_of_tag first.1)) _ (λ piece. piece-keeps (trimmed piece.0)))

-- In the braces of tags there are pieces, and the sign that closes them.
tag-keeps : (b : ℕ) (rest : List ℕ) → IfOk (lexeme_with (tag_role b) Tags b rest) Kept
unfolding tag_role
tag-keeps b rest =
    let P : Role → Type 0 = λ begun. IfOk (lexeme_with begun Tags b rest) Kept in
    cond_both (eqb b 32 || eqb b 124) role.Blank _ P (λ e. refl) (λ n.
    cond_both (eqb b 125) (role.Sign signs.TagClose) role.Piece P (λ e. refl) (λ n125. inside-keeps b rest))

pub lexeme-keeps : (context : Context) (b : ℕ) (rest : List ℕ)
    → IfOk (lexeme_at context b rest) (λ x. KeepsTags context x.0)
unfolding lexeme_at
lexeme-keeps Tags b rest = tag-keeps b rest
lexeme-keeps Text b rest = outside-keeps Text refl (lexeme_at Text b rest)
lexeme-keeps AfterColon b rest = outside-keeps AfterColon refl (lexeme_at AfterColon b rest)
lexeme-keeps AfterArrow b rest = outside-keeps AfterArrow refl (lexeme_at AfterArrow b rest)
lexeme-keeps Range b rest = outside-keeps Range refl (lexeme_at Range b rest)
lexeme-keeps Attributes b rest = outside-keeps Attributes refl (lexeme_at Attributes b rest)
