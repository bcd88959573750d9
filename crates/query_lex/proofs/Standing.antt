-- What stands at a byte: a lexeme with the bytes that spell it, or none.
use Rattle.std.proofs.Common.{◌≡◌, ℕ, ◌<◌, Bool, true, false, cond, List, [], ◌∷◌, ◌++◌, length, drop, replicate, Option, Some, None, codes, IsTrue, refl, ap, sym, ◌∙◌, append_assoc, arith}
use Rattle.std.proofs.lemmas.Bool.{false≢true, eqb-true, not_from_false}
use Rattle.query_lex.specs.declared.lexeme.LexKind.{LexKind}
use Rattle.query_lex.specs.declared.lexeme.LexKind.TheVariants.{Foreign, Sign}
use Rattle.query_lex.specs.declared.lexeme.Sign.TheVariants as signs
use Rattle.query_lex.specs.Bytes.{begins_word, comes, is_at}
use Rattle.query_lex.specs.Spelling.{IsSpelling}
use Rattle.query_lex.specs.Spells.{only_separates, is_whole}
use Rattle.query_lex.specs.Words.{Found, star_at, arrow_at}

-- a lexeme takes the bytes that spell it, one at least, and blanks behind them
pub record Took (in_tags : Bool) (bytes : List ℕ) (kind : LexKind) (behind : List ℕ) : Type 0 where
  pub spelling : List ℕ
  pub blanks : ℕ
  pub least : 0 < length spelling
  pub whole : bytes ≡ spelling ++ (replicate blanks 32 ++ behind)
  pub spells : IsSpelling kind spelling
  pub ends : IsTrue (is_whole in_tags kind (replicate blanks 32 ++ behind))

-- A byte before the rest, and what reading gives there: a lexeme, or none, and then the byte only separates.
abbrev pub Stands : Bool → ℕ → List ℕ → Option LexKind → List ℕ → Type 0
Stands in_tags b rest None behind = (behind ≡ rest) × IsTrue (only_separates in_tags b rest)
Stands in_tags b rest (Some kind) behind = Took in_tags (b ∷ rest) kind behind

abbrev pub StandsSo : Bool → ℕ → List ℕ → Found → Type 0
StandsSo in_tags b rest found = Stands in_tags b rest found.0 found.1

-- no blanks behind it
pub took : (in_tags : Bool) (bytes : List ℕ) (kind : LexKind) (behind spelling : List ℕ) → 0 < length spelling
    → bytes ≡ spelling ++ behind → IsSpelling kind spelling
    → is_whole in_tags kind behind ≡ true → Took in_tags bytes kind behind
took in_tags bytes kind behind spelling least whole spells ends =
    record { spelling = spelling; blanks = 0; least = least; whole = whole; spells = spells; ends = ends }

-- a blank only separates
pub blank-separates : (in_tags : Bool) (rest : List ℕ) → only_separates in_tags 32 rest ≡ true
blank-separates true rest = refl
blank-separates false rest = refl

-- the byte that comes next is the first
pub at-next : (byte : ℕ) (rest : List ℕ) → is_at byte rest ≡ true → rest ≡ byte ∷ drop 1 rest
at-next byte [] e = absurd (false≢true e)
at-next byte (b ∷ rest) e = ap (λ (c : ℕ). c ∷ rest) (eqb-true b byte e)

-- bytes that end in the one that comes next
pub with-next : (bytes front behind more : List ℕ) (b : ℕ) → bytes ≡ front ++ behind → behind ≡ b ∷ more
    → bytes ≡ (front ++ b ∷ []) ++ more
with-next bytes front behind more b whole next =
    whole ∙ ap (λ (others : List ℕ). front ++ others) next ∙ sym (append_assoc front (b ∷ []) more)

pub star-stands : (rest : List ℕ) → StandsSo false 42 rest (star_at rest)
star-stands rest = by_test (comes begins_word rest)
  where
    by_test : (is : Bool)
        → StandsSo false 42 rest (cond {A = Found} is (Some (Foreign (codes "*")), rest) (Some (Sign signs.Star), rest))
    by_test true = took false (42 ∷ rest) (Foreign (codes "*")) rest (42 ∷ []) (omega arith) refl (refl, refl) refl
    by_test false = took false (42 ∷ rest) (Sign signs.Star) rest (42 ∷ []) (omega arith) refl refl refl

pub arrow-stands : (rest : List ℕ) → StandsSo false 61 rest (arrow_at rest)
arrow-stands rest = by_test (is_at 62 rest) refl
  where
    by_test : (is : Bool) → is_at 62 rest ≡ is
        → StandsSo false 61 rest (cond {A = Found} is (Some (Sign signs.Arrow), drop 1 rest) (None, rest))
    by_test true e =
        took false (61 ∷ rest) (Sign signs.Arrow) (drop 1 rest) (61 ∷ 62 ∷ []) (omega arith)
        (ap (λ (bytes : List ℕ). 61 ∷ bytes) (at-next 62 rest e)) refl refl
    by_test false e = (refl, not_from_false (is_at 62 rest) e)

pub percent-stands : (rest : List ℕ) → Stands false 37 rest (Some (Foreign (codes "%"))) rest
percent-stands rest = took false (37 ∷ rest) (Foreign (codes "%")) rest (37 ∷ []) (omega arith) refl (refl, refl) refl
