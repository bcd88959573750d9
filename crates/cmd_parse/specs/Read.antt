-- What a command asks, in the order of refusals: an unknown name, a wrong number of words,
-- and the first fault of the words from the left. An index that is created has a serial, which is not among the words.
use Rattle.std.specs.Prelude.{ℕ, ℤ, pos, suc, List, [], ◌∷◌, length, Bool, Option, Some, None, Result, Ok, Err, codes, is_none, ◌||◌, nat_le, slice_index_or, false, if◌then◌else◌}
use Rattle.std.specs.Ordering.{int_eq}
use Rattle.ft_base.specs.Names.{is_name}
use Rattle.ft_base.specs.Number.{int_of}
use Rattle.ft_base.specs.declared.definition.Field.{Field}
use Rattle.ft_base.specs.declared.definition.IndexDef.{IndexDef}
use Rattle.ft_schema.specs.Schema.{alter, create}
use Rattle.ft_schema.specs.declared.fault.SchemaFault.{SchemaFault}
use Rattle.cmd_parse.specs.Aggregating.{Aggregating, aggregate}
pub use Rattle.cmd_parse.specs.Asked.{Asked, Plain, CreateIndex, AlterIndex, Search, Aggregate, CursorRead, CursorDel}
use Rattle.cmd_parse.specs.Commands.{fits, form_of}
use Rattle.cmd_parse.specs.Cursor.{cursor}
use Rattle.cmd_parse.specs.Searching.{Searching, search}
use Rattle.cmd_parse.specs.declared.command.Verb.{Verb}
use Rattle.cmd_parse.specs.declared.command.Verb.TheVariants.{Select, Hincrby, Flushall, DropIndex, Debug}
use Rattle.cmd_parse.specs.declared.command.CmdFault.{CmdFault}
use Rattle.cmd_parse.specs.declared.command.CmdFault.TheVariants.{Unknown, Arity, Syntax, NotInteger, BadDb, Schema}
use Rattle.cmd_parse.specs.declared.table.Form.{Form}
use Rattle.cmd_parse.specs.declared.table.Form.TheVariants.{Between, AtLeast, InPairs, Create, Alter}
use Rattle.cmd_parse.specs.declared.table.Form.TheVariants as form

-- whether a word may stand behind FLUSHALL
abbrev pub is_flush_word : List ℕ → Bool
is_flush_word word = is_name word (codes "ASYNC") || is_name word (codes "SYNC")

-- the word behind FT.DROPINDEX and its index
abbrev pub is_drop_word : List ℕ → Bool
is_drop_word word = is_name word (codes "DD")

-- the word between FT.DEBUG and its index
abbrev pub is_collect_word : List ℕ → Bool
is_collect_word word = is_name word (codes "GC_FORCEINVOKE")

-- the only data base is 0
abbrev pub select_fault : Option ℤ → Option CmdFault
select_fault None = Some NotInteger
select_fault (Some n) = if int_eq n (pos 0) then None else Some BadDb

-- The first fault among a plain command's arguments, of which the first is word 1 of the command.
abbrev pub first_fault : Verb → List (List ℕ) → Option CmdFault
first_fault Select (index ∷ _) = select_fault (int_of index)
first_fault Hincrby (_ ∷ _ ∷ increment ∷ _) = if is_none (int_of increment) then Some NotInteger else None
first_fault Flushall (how ∷ _) = if is_flush_word how then None else Some (Syntax 1)
first_fault DropIndex (_ ∷ how ∷ _) = if is_drop_word how then None else Some (Syntax 2)
first_fault Debug (how ∷ _) = if is_collect_word how then None else Some (Syntax 1)
first_fault _ _ = None

-- the fault where there is one
abbrev pub plain_or : Option CmdFault → Verb → List (List ℕ) → Result Asked CmdFault
plain_or None verb args = Ok (Plain verb args)
plain_or (Some fault) verb args = Err fault

-- a plain command of a lawful number of words
abbrev pub plain : Verb → List (List ℕ) → Result Asked CmdFault
plain verb args = plain_or (first_fault verb args) verb args

-- FT.CREATE and FT.ALTER ask what the words of a schema say, or have its fault.
abbrev pub created : Result IndexDef SchemaFault → Result Asked CmdFault
created (Ok index) = Ok (CreateIndex index)
created (Err fault) = Err (Schema fault)

abbrev pub altered : List ℕ → Result (List Field) SchemaFault → Result Asked CmdFault
altered index (Ok fields) = Ok (AlterIndex index fields)
altered index (Err fault) = Err (Schema fault)

-- FT.SEARCH asks for what its query finds, or has the first fault of its words.
abbrev pub searched : Result Searching CmdFault → Result Asked CmdFault
searched (Ok what) = Ok (Search what)
searched (Err fault) = Err fault

-- FT.AGGREGATE asks what is made of what its query finds, or has the first fault of its words.
abbrev pub aggregated : Result Aggregating CmdFault → Result Asked CmdFault
aggregated (Ok what) = Ok (Aggregate what)
aggregated (Err fault) = Err fault

-- a command of this form and of a lawful number of words, which are its name and arguments
abbrev pub asked_as : Form → ℕ → List ℕ → List (List ℕ) → Result Asked CmdFault
asked_as (Between verb least most) serial name args = plain verb args
asked_as (AtLeast verb least) serial name args = plain verb args
asked_as (InPairs verb least) serial name args = plain verb args
asked_as (Create least) serial name args = created (create (name ∷ args) serial)
asked_as (Alter least) serial name args = altered (slice_index_or args 0 []) (alter (name ∷ args))
asked_as (form.Search least) serial name args = searched (search (name ∷ args))
asked_as (form.Aggregate least) serial name args = aggregated (aggregate (name ∷ args))
asked_as (form.Cursor least) serial name args = cursor (name ∷ args)

-- a command of this form, whose words are its name and arguments
abbrev pub read_as : Option Form → ℕ → List ℕ → List (List ℕ) → Result Asked CmdFault
read_as None serial name args = Err Unknown
read_as (Some form) serial name args = if fits form (suc (length args)) then asked_as form serial name args else Err Arity

-- What the words of a command ask, where an index that it creates has this serial.
abbrev pub read : ℕ → List (List ℕ) → Result Asked CmdFault
read serial [] = Err Unknown
read serial (name ∷ args) = read_as (form_of name) serial name args

-- whether words behind the name may want memory: those of a schema do, the options of a search, and the parts of an aggregate
abbrev pub wants_memory : Option Form → List (List ℕ) → Bool
wants_memory (Some (Create least)) args = nat_le least (suc (length args))
wants_memory (Some (Alter least)) args = nat_le least (suc (length args))
wants_memory (Some (form.Search least)) args = nat_le 4 (suc (length args))
wants_memory (Some (form.Aggregate least)) args = nat_le 4 (suc (length args))
wants_memory _ args = false

-- whether words are read with memory
abbrev pub takes_memory : List (List ℕ) → Bool
takes_memory [] = false
takes_memory (name ∷ args) = wants_memory (form_of name) args
