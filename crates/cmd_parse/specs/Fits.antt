-- Whether a command's name is known and its number of words lawful, as reading tells it. The three names of transactions
-- (Redis: MULTI, EXEC, DISCARD) are known too, and each stands alone; they are read by a caller's session.
use Rattle.std.specs.Prelude.{ℕ, List, [], ◌∷◌, Bool, ◌||◌, Result, Err, codes, if◌then◌else◌}
use Rattle.ft_base.specs.Names.{is_name}
use Rattle.ft_base.specs.declared.name_fit.NameFit.{NameFit}
use Rattle.ft_base.specs.declared.name_fit.NameFit.TheVariants.{Fits, Unknown, Arity}
use Rattle.cmd_parse.specs.Asked.{Asked}
use Rattle.cmd_parse.specs.Read.{read}
use Rattle.cmd_parse.specs.declared.command.CmdFault.{CmdFault}
use Rattle.cmd_parse.specs.declared.command.CmdFault.TheVariants as fault

-- whether a word is one of the three names, in any case
abbrev pub is_of_session : List ℕ → Bool
is_of_session name = is_name name (codes "MULTI") || is_name name (codes "EXEC") || is_name name (codes "DISCARD")

-- a command that stands alone, by the words behind its name
abbrev pub alone : List (List ℕ) → NameFit
alone [] = Fits
alone (word ∷ args) = Arity

-- What a reading says of the name and the number of words: two of its faults are of these, and all else is behind them.
abbrev pub fit_of : Result Asked CmdFault → NameFit
fit_of (Err fault.Unknown) = Unknown
fit_of (Err fault.Arity) = Arity
fit_of _ = Fits

-- The fit of a command's words, where an index that they create has this serial.
abbrev pub name_fit : ℕ → List (List ℕ) → NameFit
name_fit serial [] = Unknown
name_fit serial (name ∷ args) = if is_of_session name then alone args else fit_of (read serial (name ∷ args))
