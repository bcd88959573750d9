-- FILTER of FT.SEARCH: a field, and the two ends of an interval (RediSearch, numeric filters).
use Rattle.std.specs.Prelude.{ℕ, ℤ, List, [], ◌∷◌, length, Bool, true, false, ◌-◌, ◌==◌, Option, Some, None, option_map, Ok, if◌then◌else◌}
use Rattle.field_text.specs.Bounds.{bound_of, low_of, high_of, interval_of}
use Rattle.field_text.specs.declared.bounds.Bound.{Bound}
use Rattle.ft_base.specs.Reading.{◌>>=◌}
use Rattle.cmd_parse.specs.Words.{Word, Read, fault, word_at}
use Rattle.cmd_parse.specs.declared.stop.Cause.TheVariants.{Syntax}

-- a field whose number has to lie in an interval, if there is a number in it; its name is word `at` of the command
pub record Filter : Type 0 where
  pub at : ℕ
  pub field : Word
  pub interval : Option (ℤ × ℤ)

-- An end, and whether it is left out: `(`, the byte 40, before an end leaves it out.
abbrev pub end_of : Word → Option (Bool × Bound)
end_of [] = None
end_of (b ∷ text) =
    if b == 40 then option_map (λ bound. (true, bound)) (bound_of text) else option_map (λ bound. (false, bound)) (bound_of (b ∷ text))

abbrev pub end_with : Option (Bool × Bound) → List Word → List Word → Read (Bool × Bound)
end_with None from words = fault Syntax from
end_with (Some end) from words = Ok (end, words)

abbrev pub end_at : List Word → Read (Bool × Bound)
end_at [] = fault Syntax []
end_at (word ∷ words) = end_with (end_of word) (word ∷ words) words

abbrev pub filter_at : ℕ → List Word → Read Filter
filter_at total words = do
  field ← word_at words
  low ← end_at field.1
  high ← end_at low.1
  Ok (record { at = total - length words; field = field.0; interval = interval_of (low_of low.0.0 low.0.1) (high_of high.0.0 high.0.1) }, high.1)
