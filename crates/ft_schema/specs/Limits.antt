-- What an index takes.
use Rattle.std.specs.Prelude.{ℕ}

-- how many fields an index has at the most
abbrev pub most_fields : ℕ
most_fields = 1024

-- how many of them are TEXT fields at the most
abbrev pub most_texts : ℕ
most_texts = 32
