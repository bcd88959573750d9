-- How far a command's reply and the next state are determined.
use Rattle.std.specs.Prelude.{◌≡◌, ◌≢◌, ◌<◌, ℕ, List, Some, None, Ok}
use Rattle.cmd_parse.specs.Asked.{Plain}
use Rattle.cmd_parse.specs.Read.{read}
use Rattle.cmd_parse.specs.declared.command.Verb.TheVariants.{Info}
use Rattle.ft_base.specs.Memory.{out_of_memory}
use Rattle.ft_base.specs.Reply.{spelling}
use Rattle.ft_base.specs.declared.definition.IndexDef.{IndexDef}
use Rattle.ft_base.specs.Words.{first}
use Rattle.ft_machine.specs.Definitions.{Defined, index_of}
use Rattle.ft_machine.specs.Info.{info_reply}
use Rattle.ft_machine.specs.Machine.{State}
use Rattle.ft_machine.specs.Step.{Answers, last_number}
use Rattle.ft_machine.specs.declared.counts.Counts.{Counts}

-- One command from one state that writes one reply leads to one state, whatever the command and the reply.
abbrev pub HasOneState : Type 0
HasOneState = (words : List (List ℕ)) (number moment : ℕ) (old : State) (written : List ℕ) (new next : State)
    → Answers words number moment old written new → Answers words number moment old written next → new ≡ next

-- One command from one state, that does not tell that memory ran out, writes one reply. FT.INFO of an index that is there is
-- left out, as it tells a number of records that may be above that of the live ones.
abbrev pub HasOneReply : Type 0
HasOneReply = (words : List (List ℕ)) (number moment : ℕ) (old : State) (written other : List ℕ) (new next : State)
    → ((args : List (List ℕ)) → read number words ≡ Ok (Plain Info args) → index_of old.definitions (first args) ≡ None)
    → Answers words number moment old written new → Answers words number moment old other next
    → written ≢ spelling out_of_memory → other ≢ spelling out_of_memory → written ≡ other

-- Two replies tell of an index the same but for the number of its records.
pub record DifferInRecords (def : IndexDef) (written other : List ℕ) : Type 0 where
  pub counts : Counts
  pub records : ℕ
  pub first_reply : written ≡ spelling (info_reply def counts)
  pub second_reply : other ≡ spelling (info_reply def (record counts { records = records }))

-- Two replies of FT.INFO in one state, neither of which tells that memory ran out, differ in the number of records alone.
abbrev pub InfoDiffersInRecords : Type 0
InfoDiffersInRecords = (args : List (List ℕ)) (index : Defined) (words : List (List ℕ)) (number moment : ℕ) (old : State) (written other : List ℕ) (new next : State)
    → number < last_number → read number words ≡ Ok (Plain Info args) → index_of old.definitions (first args) ≡ Some index
    → Answers words number moment old written new → Answers words number moment old other next
    → written ≢ spelling out_of_memory → other ≢ spelling out_of_memory → DifferInRecords index.def written other
