-- Which indexes are clean: each entry of their lists is of a live document, since FT.DEBUG GC_FORCEINVOKE took the others
-- out. Their names stand beside the state and are no part of it: no reply depends on them but the num_records of FT.INFO.
use Rattle.std.specs.Prelude.{◌≡◌, ◌<◌, ◌⊎◌, ℕ, List, [], ◌∷◌, length, map, filter, Bool, Option, Some, None, Result, Ok, Err, IsTrue, if◌then◌else◌}
use Rattle.std.specs.Cmp.Lexicographic.{pointwise}
use Rattle.std.specs.List.{list_any}
use Rattle.std.specs.Str.{bytes_eq}
use Rattle.cmd_parse.specs.Asked.{Asked, Plain}
use Rattle.cmd_parse.specs.Read.{read}
use Rattle.cmd_parse.specs.declared.command.CmdFault.{CmdFault}
use Rattle.cmd_parse.specs.declared.command.Verb.TheVariants.{Debug, Info}
use Rattle.ft_base.specs.Docs.{Doc}
use Rattle.ft_base.specs.Memory.{out_of_memory}
use Rattle.ft_base.specs.Reply.{spelling}
use Rattle.ft_base.specs.Words.{first, second}
use Rattle.ft_meaning.specs.Member.{members}
use Rattle.ft_meaning.specs.Records.{live_records}
use Rattle.history_core.specs.Entries.{Entry, Exec, Scan, Scanned, Splice}
use Rattle.history_core.specs.Histories.{Leads, number}
use Rattle.ft_machine.specs.Definitions.{Defined, index_of}
use Rattle.ft_machine.specs.History.{IsLegal, MayFollow, Readings}
use Rattle.ft_machine.specs.Indexes.{done}
use Rattle.ft_machine.specs.Info.{info_reply}
use Rattle.ft_machine.specs.Machine.{State, empty_state}
use Rattle.ft_machine.specs.Step.{last_number}
use Rattle.ft_machine.specs.declared.counts.Counts.{Counts}

-- A state, and the names of the indexes that are clean.
pub record Marked : Type 0 where
  pub state : State
  pub clean : List (List ℕ)

abbrev pub empty_marked : Marked
empty_marked = record { state = empty_state; clean = [] }

-- ---- when an index is as it was

-- what tells an index from what it was: its serial, how many fields it has, and the ids of its members, of which each write
-- makes a new one
abbrev pub mark_of : List Doc → Defined → List ℕ
mark_of docs index = index.def.serial ∷ length index.def.fields ∷ map (λ (doc : Doc). doc.id) (members index.def docs)

-- the indexes of a name: there is one, or none
abbrev pub all_named : List ℕ → List Defined → List Defined
all_named name definitions = filter (λ (index : Defined). bytes_eq name index.def.name) definitions

abbrev pub marks_of : State → List ℕ → List (List ℕ)
marks_of state name = map (mark_of state.space) (all_named name state.definitions)

-- Whether the index of a name has the definition and the members that it had: no document came, went or got a new hash.
abbrev pub is_as_it_was : State → State → List ℕ → Bool
is_as_it_was old new name = pointwise bytes_eq (marks_of old name) (marks_of new name)

-- ---- which indexes are clean

-- with the one that a collection named, where it is said to be done
abbrev pub with_collected : Result Asked CmdFault → List ℕ → List (List ℕ) → List (List ℕ)
with_collected (Ok (Plain Debug args)) written names = if bytes_eq written (spelling done) then second args ∷ names else names
with_collected _ written names = names

-- The names of the clean indexes behind a command: those before it whose indexes are as they were, and the one that it
-- collected. Out of memory, none.
abbrev pub clean_after : Result Asked CmdFault → State → List ℕ → State → List (List ℕ) → List (List ℕ)
clean_after asked old written new clean =
    if bytes_eq written (spelling out_of_memory) then []
    else with_collected asked written (filter (is_as_it_was old new) clean)

-- whether an index of this name is clean
abbrev pub is_clean : Marked → List ℕ → Bool
is_clean marked name = list_any (bytes_eq name) marked.clean

-- ---- what is told of them

-- What FT.INFO tells of an index: as many records as the live ones, and no more.
pub record TellsJust (index : Defined) (docs : List Doc) (written : List ℕ) : Type 0 where
  pub counts : Counts
  pub records : counts.records ≡ live_records index.def (members index.def docs)
  pub told : written ≡ spelling (info_reply index.def counts)

-- that is told, or memory ran out
abbrev pub IsToldJust : Option Defined → List Doc → List ℕ → Type 0
IsToldJust None docs written = Unit {0}
IsToldJust (Some index) docs written = TellsJust index docs written ⊎ (written ≡ spelling out_of_memory)

-- Whatever is asked: FT.INFO tells just the live records of a clean index.
abbrev pub TellsClean : Result Asked CmdFault → Marked → List ℕ → Type 0
TellsClean (Ok (Plain Info args)) marked written =
    IsTrue (is_clean marked (first args)) → IsToldJust (index_of marked.state.definitions (first args)) marked.state.space written
TellsClean _ marked written = Unit {0}

-- ---- histories that tell so

-- A command at an event's number keeps the names of clean indexes, and tells of these what there is to tell. At the last
-- number every reply is one text.
pub record KeepsMarks (number : ℕ) (words : List (List ℕ)) (old : Marked) (written : List ℕ) (new : Marked) : Type 0 where
  pub clean : new.clean ≡ clean_after (read number words) old.state written new.state old.clean
  pub tells : number < last_number → TellsClean (read number words) old written

module _ {K N A : Type 0} (readings : Readings K N A) where
  -- What an entry keeps of the names of clean indexes: a scan and a splice keep them all.
  abbrev pub Keeps : ℕ → List (Entry K N A) → Marked → Entry K N A → Marked → Type 0
  Keeps first before old (Exec caller moment words reply) new = KeepsMarks (number first before) words old reply new
  Keeps first before old (Scan caller index result) new = new.clean ≡ old.clean
  Keeps first before old (Splice caller scan name answer) new = new.clean ≡ old.clean

  -- An entry may follow those before it, the first of which has this number, and leads from a state and its clean indexes to
  -- the next.
  abbrev pub Follows : ℕ → List (Entry K N A) → Marked → Entry K N A → Marked → Type 0
  Follows first before old entry new = MayFollow readings first before old.state entry new.state × Keeps first before old entry new

  -- A history from its first number, and the state and the clean indexes after it: it is legal, and FT.INFO tells of a clean
  -- index just the live records.
  abbrev pub IsHistory : ℕ → List (Entry K N A) → Marked → Type 0
  IsHistory first entries after = Leads (Follows first) [] empty_marked entries after

-- Each of them is legal, of whatever types its snapshots, names and answers are.
abbrev pub HistoriesAreLegal : (K N A : Type 0) → Type 0
HistoriesAreLegal K N A = (readings : Readings K N A) (first : ℕ) (entries : List (Entry K N A)) (after : Marked)
    → IsHistory readings first entries after → IsLegal readings first entries after.state
