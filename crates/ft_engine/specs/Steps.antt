-- The steps of an engine as a machine, and that they make legal histories.
use Rattle.std.specs.Prelude.{◌≤◌, ℕ, List, []}
use Rattle.history_core.specs.Histories.{Leads}
use Rattle.history_core.specs.Running.{IsStep}
use Rattle.ft_machine.specs.Step.{last_number}
use Rattle.ft_engine.specs.Cleaning.{StandsFor}
use Rattle.ft_engine.specs.Entries.{Entry, IsLegal}
use Rattle.ft_engine.specs.Pictures.{ScansBy, SplicesBy, name_at, shown_in}
use Rattle.ft_engine.specs.Stands.{Stands, opened}
use Rattle.ft_engine.specs.Stepping.{Steps}

-- an entry is a step of an engine
abbrev pub IsStepOf : List Entry → Stands → Entry → Stands → Type 0
IsStepOf = IsStep Steps ScansBy SplicesBy shown_in name_at

-- Entries that lead from an engine that was opened at a number to another are a legal history from this number, and it leads to
-- the other's state.
abbrev pub StepsAreLegal : Type 0
StepsAreLegal = (first : ℕ) (entries : List Entry) (engine : Stands)
    → first ≤ last_number → Leads IsStepOf [] (opened first) entries engine → IsLegal first entries engine.state

-- It is one that tells of clean indexes just their live records.
abbrev pub StepsAreHistory : Type 0
StepsAreHistory = (first : ℕ) (entries : List Entry) (engine : Stands)
    → first ≤ last_number → Leads IsStepOf [] (opened first) entries engine → StandsFor first entries engine
