-- What is promised of a run of the load: four lines that sum up the replies to its commands.
use Rattle.std.specs.Prelude.{◌≡◌, ℕ, ◌-◌, ℤ, pos, List, [], ◌∷◌, ◌++◌, length, map, take, sum_by, codes, Bool, false, ◌==◌, Some, if◌then◌else◌}
use Rattle.std.specs.Fmt.{decimal}
use Rattle.std.specs.Io.KnownBytes.{Appends, Keeps}
use Rattle.std.specs.List.{All, count_by}
use Rattle.std.specs.declared.option.Option.{Option}
use Rattle.ft_base.specs.Number.{int_of}
use Rattle.fs_ports.specs.Causes.{Rose}
use Rattle.fs_ports.specs.declared.link.Link as Link
use Rattle.history_core.specs.Commands.{Said, caller_of, commands_of, own, words_of}
use Rattle.ft_engine.specs.Entries.{Entry, IsHistory}
use Rattle.ft_machine.specs.Clean.{Marked}
use Rattle.load_maker.specs.Load.{load}
use Rattle.resp_wire.specs.Stream.{Command}
use Rattle.ft_server.specs.Session.{IsCut, Outside}
use Rattle.ft_server.specs.declared.exit.Exit.{Exit}
use Rattle.ft_server.specs.declared.exit.Exit.TheVariants as exit

-- a reply that is an error begins with `-`
abbrev pub is_error : List ℕ → Bool
is_error [] = false
is_error (mark ∷ _) = mark == 45

-- a number that is not below 0; else 0
abbrev pub count_from : Option ℤ → ℕ
count_from (Some (pos n)) = n
count_from _ = 0

-- the number of an integer reply, `:n` and a line's end; 0 of any other
abbrev pub number_of : List ℕ → ℕ
number_of [] = 0
number_of (mark ∷ text) = if mark == 58 then count_from (int_of (take (length text - 2) text)) else 0

-- the last of some replies, or this where there is none
abbrev pub last_of : List ℕ → List (List ℕ) → List ℕ
last_of before [] = before
last_of before (reply ∷ replies) = last_of reply replies

-- a line of the summary: a name, a number and a line feed
abbrev pub counted : List ℕ → ℕ → List ℕ
counted name n = name ++ (decimal n ++ 10 ∷ [])

-- The four lines: how many commands there were, how many of them were answered by an error, the number in the last reply,
-- and the length of all replies.
abbrev pub summary : List (List ℕ) → List ℕ
summary replies =
    counted (codes "commands ") (length replies)
    ++ (counted (codes "errors ") (count_by is_error replies)
    ++ (counted (codes "documents ") (number_of (last_of [] replies)) ++ counted (codes "reply bytes ") (sum_by length replies)))

abbrev pub each_reply : List Said → List (List ℕ)
each_reply said = map (λ (one : Said). one.reply) said

-- These commands were answered so: they are those of caller 0 in a legal history that begins at number 1 in the
-- empty state, each at moment 0. Nobody else has an entry in it. FT.INFO tells in it just the live records of indexes that
-- are clean.
pub record Loaded (commands : List Command) (said : List Said) : Type 0 where
  pub entries : List Entry
  pub after : Marked
  pub legal : IsHistory 1 entries after
  pub own_are : own 0 entries ≡ commands_of 0 said
  pub alone : All (λ (entry : Entry). caller_of entry ≡ 0) entries
  pub words : words_of said ≡ commands
  pub moments : All (λ (one : Said). one.moment ≡ 0) said

-- what a link tells, beside a clock that is not asked
abbrev pub told_of : {L : Type 0} → Link.Ghosts L → L → Option (List ℕ) → Outside
told_of port link given = record {
  left = port.left link;
  written = port.written link;
  read_faults = port.read_faults link;
  write_faults = port.write_faults link;
  given = given;
}

-- This text was written, and nothing else happened but for writes that failed.
pub record Wrote (text : List ℕ) (before after : Outside) : Type 0 where
  pub written : Appends before.written after.written text
  pub left : Keeps before.left after.left
  pub reads : after.read_faults ≡ before.read_faults
  pub given : after.given ≡ before.given

-- What each way to end says of a run of the load: all four lines were written; a write failed, behind the first bytes of them;
-- or out of memory, with nothing written.
abbrev pub EndsLoad : ℕ → ℕ → Exit → Outside → Outside → Type 0
EndsLoad seed docs exit.Done before after = (said : List Said) × Loaded (load seed docs) said × Wrote (summary (each_reply said)) before after
EndsLoad seed docs exit.WriteFault before after =
    Rose before.write_faults after.write_faults
    × ((said : List Said) × (front : List ℕ) × Loaded (load seed docs) said × IsCut front (summary (each_reply said)) × Wrote front before after)
EndsLoad seed docs exit.NoMemory before after = after ≡ before
EndsLoad seed docs other before after = ⊥
