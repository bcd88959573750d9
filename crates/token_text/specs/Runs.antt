-- What a reader that goes from run to run of a text asks of it.
use Rattle.std.specs.Prelude.{ℕ, List, [], ◌∷◌, Bool, false, ◌&&◌, ◌==◌}
use Rattle.ft_base.specs.Separators.{is_separator}

-- whether a separator comes that a backslash before it escapes
abbrev pub begins_escape : List ℕ → Bool
begins_escape [] = false
begins_escape (b ∷ []) = false
begins_escape (b ∷ c ∷ rest) = (b == 92) && is_separator c
