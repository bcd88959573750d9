-- Bytes of a query's text: which begin a word, and which may be of a parameter's name.
use Rattle.std.specs.Prelude.{ℕ, List, [], ◌∷◌, Bool, false, ◌&&◌, ◌||◌, not, nat_le, ◌==◌}
use Rattle.ft_base.specs.Separators.{is_separator}

-- a byte of a word, or a backslash, which escapes one
abbrev pub begins_word : ℕ → Bool
begins_word b = (b == 92) || not (is_separator b)

-- ASCII letters, digits and `_`
abbrev pub is_of_name : ℕ → Bool
is_of_name b = (nat_le 48 b && nat_le b 57) || ((nat_le 65 b && nat_le b 90) || ((b == 95) || (nat_le 97 b && nat_le b 122)))

-- whether a byte comes next that is so
abbrev pub comes : (ℕ → Bool) → List ℕ → Bool
comes is_so [] = false
comes is_so (b ∷ bytes) = is_so b

-- whether this very byte comes next
abbrev pub is_at : ℕ → List ℕ → Bool
is_at byte bytes = comes (λ b. b == byte) bytes
