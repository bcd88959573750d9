-- Raw bytes in brackets and in the braces of attributes: numbers and values, as they stand.
use Rattle.std.specs.Prelude.{ℕ, List, [], ◌∷◌, ◌&&◌, ◌==◌, not, Option, Some, None, Ok, if◌then◌else◌}
use Rattle.ft_base.specs.Reading.{◌>>=◌}
use Rattle.query_lex.specs.declared.context.Context.{Context}
use Rattle.query_lex.specs.declared.fault.Cause.TheVariants.{LoneEscape}
use Rattle.query_lex.specs.declared.lexeme.LexKind.{LexKind}
use Rattle.query_lex.specs.declared.lexeme.LexKind.TheVariants as kinds
use Rattle.query_lex.specs.Bytes.{comes}
use Rattle.ft_base.specs.Separators.{is_separator}
use Rattle.query_lex.specs.Roles.{is_raw}
use Rattle.query_lex.specs.Reading.{Read, Next, fault, with_first, run_at}

-- A byte that is kept. A backslash hides nothing, but is lone where no separator follows it.
abbrev pub raw_byte_at : ℕ → List ℕ → Read ℕ
raw_byte_at b rest = if (b == 92) && not (comes is_separator rest) then fault LoneEscape (b ∷ rest) else Ok (b, rest)

-- the next byte of a run
unfoldable pub next_raw : Context → List ℕ → Next ℕ
next_raw context [] = Ok None
next_raw context (b ∷ rest) = if is_raw context b then (raw_byte_at b rest >>= λ byte. Ok (Some byte)) else Ok None

-- A longest run, of which there is one byte.
unfoldable pub raw_at : Context → ℕ → List ℕ → Read (Option LexKind)
raw_at context b rest = do
  first ← raw_byte_at b rest
  run ← with_first first.0 (run_at (next_raw context) first.1)
  Ok (Some (kinds.Raw run.0), run.1)
