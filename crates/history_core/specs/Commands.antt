-- Who made the entries of a history, and what one caller said.
use Rattle.std.specs.Prelude.{ℕ, List, [], ◌∷◌, map, nat_eq, if◌then◌else◌}
use Rattle.ft_base.specs.Reply.{joined}
use Rattle.history_core.specs.Entries.{Entry, Exec, Scan, Splice}

-- What a caller's command left: its moment, its words and its reply.
pub record Said : Type 0 where
  pub moment : ℕ
  pub words : List (List ℕ)
  pub reply : List ℕ

module _ {K N A : Type 0} where
  -- who made an entry
  abbrev pub caller_of : Entry K N A → ℕ
  caller_of (Exec caller moment words reply) = caller
  caller_of (Scan caller index result) = caller
  caller_of (Splice caller scan name answer) = caller

  -- The entries of one caller among those of all, in their order.
  abbrev pub own : ℕ → List (Entry K N A) → List (Entry K N A)
  own caller [] = []
  own caller (entry ∷ entries) = if nat_eq caller (caller_of entry) then entry ∷ own caller entries else own caller entries

  -- One caller's commands as entries: what it made, where it says commands and nothing else.
  abbrev pub commands_of : ℕ → List Said → List (Entry K N A)
  commands_of caller said = map (λ (one : Said). Exec caller one.moment one.words one.reply) said

-- the words of commands, and their moments
abbrev pub words_of : List Said → List (List (List ℕ))
words_of said = map (λ (one : Said). one.words) said

abbrev pub moments_of : List Said → List ℕ
moments_of said = map (λ (one : Said). one.moment) said

-- the replies of commands, one after another
abbrev pub replies_of : List Said → List ℕ
replies_of said = joined (map (λ (one : Said). one.reply) said)
