-- Words as they are written in a text.
use Rattle.std.specs.Prelude.{ℕ, List, [], ◌∷◌, if◌then◌else◌}
use Rattle.query_lex.specs.declared.lexeme.LexKind.TheVariants.{Word}
use Rattle.query_lex.specs.declared.lexeme.Lexeme.{Lexeme}
use Rattle.ft_base.specs.Separators.{is_separator}

-- a backslash before each byte that parts words
abbrev pub escaped_word : List ℕ → List ℕ
escaped_word [] = []
escaped_word (b ∷ word) = if is_separator b then 92 ∷ b ∷ escaped_word word else b ∷ escaped_word word

-- the lexemes of a text that is one word
abbrev pub one_word : List ℕ → List Lexeme
one_word word = record { at = 0; kind = Word word } ∷ []
