-- Which indexes of an engine are clean, what each event keeps of that, and that a history of such events tells so.
use Rattle.std.specs.Prelude.{◌<◌, ℕ, List, [], ◌∷◌}
use Rattle.cmd_parse.specs.Read.{read}
use Rattle.ft_index.specs.Index.{Index}
use Rattle.ft_machine.specs.Clean.{Marked, TellsClean, clean_after}
use Rattle.ft_machine.specs.Step.{last_number}
use Rattle.indexed_store.specs.Collecting.{IsCleanAt}
use Rattle.ft_engine.specs.Entries.{Entry, IsHistory}
use Rattle.ft_engine.specs.Stands.{Stands}

-- The lists of the indexes of these names have no dead entry.
abbrev pub AreClean : List (List ℕ) → List Index → Type 0
AreClean [] indexes = Unit {0}
AreClean (name ∷ names) indexes = IsCleanAt name indexes × AreClean names indexes

-- an engine's state, with indexes that are clean
abbrev pub marked : Stands → List (List ℕ) → Marked
marked engine clean = record { state = engine.state; clean = clean }

-- Whichever indexes are clean before a command: those are that are to be clean behind it, and FT.INFO tells of a clean one just
-- the live records.
abbrev pub KeepsClean : ℕ → List (List ℕ) → Stands → List ℕ → Stands → Type 0
KeepsClean number words old written new =
    (clean : List (List ℕ)) → AreClean clean old.indexes
    → AreClean (clean_after (read number words) old.state written new.state clean) new.indexes
    × (number < last_number → TellsClean (read number words) (marked old clean) written)

-- An engine stands for a history with the indexes that are clean after it.
pub record StandsFor (first : ℕ) (entries : List Entry) (engine : Stands) : Type 0 where
  pub clean : List (List ℕ)
  pub history : IsHistory first entries (marked engine clean)
  pub are : AreClean clean engine.indexes
