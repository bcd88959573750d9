-- Quotes: from a `"` to the next one that no backslash escapes.
use Rattle.std.specs.Prelude.{ℕ, List, [], ◌∷◌, drop, Bool, true, false, ◌&&◌, ◌||◌, ◌==◌, Option, Some, None, Ok, Err, if◌then◌else◌}
use Rattle.ft_base.specs.Reading.{◌>>=◌}
use Rattle.query_lex.specs.declared.fault.Cause.TheVariants.{OpenQuote, LoneEscape}
use Rattle.query_lex.specs.declared.fault.Stop.{Stop}
use Rattle.query_lex.specs.declared.lexeme.LexKind.{LexKind}
use Rattle.query_lex.specs.declared.lexeme.LexKind.TheVariants.{Quote}
use Rattle.query_lex.specs.declared.text_byte.TextByte.{TextByte}
use Rattle.ft_base.specs.Separators.{is_separator}
use Rattle.query_lex.specs.Reading.{Read, Next, stop_at, fault, run_at}

abbrev pub plain : ℕ → TextByte
plain b = record { byte = b; escaped = false }

abbrev pub escaped : ℕ → TextByte
escaped b = record { byte = b; escaped = true }

-- bytes as they stand in the text, with their backslashes
abbrev pub spelled : List TextByte → List ℕ
spelled [] = []
spelled (b ∷ bytes) = if b.escaped then 92 ∷ b.byte ∷ spelled bytes else b.byte ∷ spelled bytes

-- whether a quote that has these bytes left is closed
abbrev pub is_closed : List ℕ → Bool
is_closed [] = false
is_closed (b ∷ []) = b == 34
is_closed (b ∷ c ∷ rest) = (b == 34) || (if (b == 92) && is_separator c then is_closed rest else is_closed (c ∷ rest))

-- A backslash that escapes nothing is the fault where its quote is closed. A quote that is open is the fault before.
abbrev pub lone_or_open : List ℕ → List ℕ → Stop
lone_or_open inside rest = if is_closed rest then stop_at LoneEscape (92 ∷ rest) else stop_at OpenQuote (34 ∷ inside)

-- the byte that a backslash escapes, behind it
abbrev pub quoted_escape_at : List ℕ → List ℕ → Next TextByte
quoted_escape_at inside [] = Err (lone_or_open inside [])
quoted_escape_at inside (b ∷ rest) = if is_separator b then Ok (Some (escaped b, rest)) else Err (lone_or_open inside (b ∷ rest))

-- the next byte in a quote, behind whose first byte stands `inside`
unfoldable pub next_quoted : List ℕ → List ℕ → Next TextByte
next_quoted inside [] = fault OpenQuote (34 ∷ inside)
next_quoted inside (b ∷ rest) =
    if b == 34 then Ok None
    else (if b == 92 then quoted_escape_at inside rest
    else Ok (Some (plain b, rest)))

-- what is in a quote, as it stands, and the bytes from its end on
abbrev pub quoted_at : List ℕ → Read (List ℕ)
quoted_at inside = run_at (next_quoted inside) inside >>= λ text. Ok (spelled text.0, text.1)

-- A quote, behind its first byte.
unfoldable pub quote_at : List ℕ → Read (Option LexKind)
quote_at inside = do
  text ← quoted_at inside
  Ok (Some (Quote text.0), drop 1 text.1)
