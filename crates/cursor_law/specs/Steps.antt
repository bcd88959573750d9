-- The steps of a legal history, one for each command, with the states that they lead between.
use Rattle.std.specs.Prelude.{ℕ, List, [], ◌∷◌, ◌++◌}
use Rattle.history_core.specs.Entries.{Entry, Exec, Scan, Splice}
use Rattle.history_core.specs.Histories.{Leads, number}
use Rattle.ft_machine.specs.History.{IsLegal, MayFollow, Readings}
use Rattle.ft_machine.specs.Machine.{State, empty_state}

-- A command at an event's number and a moment, its reply, and the states before and behind it.
pub record Step : Type 0 where
  pub number : ℕ
  pub moment : ℕ
  pub old : State
  pub words : List (List ℕ)
  pub reply : List ℕ
  pub new : State

module _ {K N A : Type 0} (readings : Readings K N A) where
  -- The steps of entries that lead from a state to another, behind those before them. A scan and a splice have a number, and
  -- are no step.
  abbrev pub steps_from : (first : ℕ) (before : List (Entry K N A)) (old : State) (entries : List (Entry K N A)) (new : State)
      → Leads (MayFollow readings first) before old entries new → List Step
  steps_from first before old [] new legal = []
  steps_from first before old (Exec caller moment words reply ∷ entries) new legal =
      record { number = number first before; moment = moment; old = old; words = words; reply = reply; new = legal.0 }
      ∷ steps_from first (before ++ Exec caller moment words reply ∷ []) legal.0 entries new legal.2
  steps_from first before old (Scan caller index result ∷ entries) new legal =
      steps_from first (before ++ Scan caller index result ∷ []) legal.0 entries new legal.2
  steps_from first before old (Splice caller scan name answer ∷ entries) new legal =
      steps_from first (before ++ Splice caller scan name answer ∷ []) legal.0 entries new legal.2

  -- the steps of a legal history
  abbrev pub steps : (first : ℕ) (entries : List (Entry K N A)) (after : State) → IsLegal readings first entries after → List Step
  steps first entries after legal = steps_from first [] empty_state entries after legal
