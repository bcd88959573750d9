-- The places of lexemes: each begins behind the bytes of those before it, so their offsets rise.
use Rattle.std.specs.Prelude.{ℕ, suc, ◌≤◌, List, [], ◌∷◌}
use Rattle.query_lex.specs.declared.lexeme.Lexeme.{Lexeme}

-- the offsets rise, from one on and before another
abbrev pub Rise : ℕ → ℕ → List Lexeme → Type 0
Rise from end [] = from ≤ end
Rise from end (lexeme ∷ lexemes) = (from ≤ lexeme.at) × Rise (suc lexeme.at) end lexemes
