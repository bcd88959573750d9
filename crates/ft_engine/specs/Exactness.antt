-- How many documents a search and an aggregate read, and how many records are told of an index: by the store's own count, and
-- the lists'.
use Rattle.std.specs.Prelude.{◌≡◌, ◌≤◌, ◌⊎◌, ℕ, List, length, Option, Some, None, IsTrue, find}
use Rattle.cmd_parse.specs.Aggregating.{Aggregating}
use Rattle.cmd_parse.specs.Searching.{Searching}
use Rattle.cmd_parse.specs.Asked.{Asked, Plain, Search, Aggregate}
use Rattle.cmd_parse.specs.declared.aggregate_words.CursorSpec.{CursorSpec}
use Rattle.cmd_parse.specs.declared.command.Verb.TheVariants.{Info}
use Rattle.ft_base.specs.Memory.{out_of_memory}
use Rattle.ft_base.specs.Reply.{fits_wire, spelling}
use Rattle.ft_base.specs.declared.definition.IndexDef.{IndexDef}
use Rattle.ft_base.specs.Docs.{Doc}
use Rattle.ft_base.specs.declared.reply.Reply.{Reply}
use Rattle.ft_base.specs.declared.reply.Reply.TheVariants.{Fault}
use Rattle.ft_index.specs.Index.{Index}
use Rattle.ft_base.specs.Words.{first}
use Rattle.ft_machine.specs.Aggregating.{aggregate_rows, rows_reply}
use Rattle.ft_machine.specs.Info.{info_reply}
use Rattle.ft_machine.specs.Searching.{counted_reply}
use Rattle.ft_machine.specs.declared.counts.Counts.{Counts}
use Rattle.hash_store.specs.Store.{reads_after}
use Rattle.ft_index.specs.Records.{CountsJust, all_entries}
use Rattle.indexed_store.specs.Named.{is_named}
use Rattle.doc_reads.specs.Pages.{reads_for}

-- a refusal is written, or out of memory
abbrev pub IsRefusal : List ℕ → Type 0
IsRefusal written = (text : List ℕ) × (written ≡ spelling (Fault text))

-- A reply shows the documents that count, and fits the wire; as many were read as are told of a search that counts so many.
pub record Shows (what : Searching) (def : IndexDef) (found : List Doc) (old new : ℕ) (reply : Reply) : Type 0 where
  pub shown : reply ≡ counted_reply what def found
  pub fits : IsTrue (fits_wire reply)
  pub reads : new ≡ reads_after old (reads_for what def (length found))

-- Documents are shown, and as many were read as are told of a search that counts so many.
pub record ReadsShown (what : Searching) (written : List ℕ) (old new : ℕ) : Type 0 where
  pub def : IndexDef
  -- the documents that count
  pub found : List Doc
  pub shown : written ≡ spelling (counted_reply what def found)
  pub reads : new ≡ reads_after old (reads_for what def (length found))

-- A search has read just what it shows, or what it must read to sort; where it is refused, nothing.
abbrev pub ReadsRows : Searching → List ℕ → ℕ → ℕ → Type 0
ReadsRows what written old new =
    ReadsShown what written old new
    ⊎ ((IsRefusal written × (new ≡ old)) ⊎ ((written ≡ spelling out_of_memory) × (old ≤ new)))

-- The rows of documents are told, and each of the documents was read once.
pub record ReadsMade (what : Aggregating) (written : List ℕ) (old new : ℕ) : Type 0 where
  pub def : IndexDef
  -- the documents that the query finds
  pub found : List Doc
  pub made : written ≡ spelling (rows_reply (aggregate_rows what.load what.steps def found))
  pub reads : new ≡ reads_after old (length found)

-- An aggregate has read each document that it finds once, whatever its steps are; where it is refused, none.
abbrev pub ReadsFound : Aggregating → List ℕ → ℕ → ℕ → Type 0
ReadsFound what written old new =
    ReadsMade what written old new
    ⊎ ((IsRefusal written × (new ≡ old)) ⊎ ((written ≡ spelling out_of_memory) × (old ≤ new)))

-- the same where all rows are answered; a cursor's reads are not counted here
abbrev pub ReadsAll : Option CursorSpec → Aggregating → List ℕ → ℕ → ℕ → Type 0
ReadsAll None what written old new = ReadsFound what written old new
ReadsAll (Some cursor) what written old new = Unit {0}

-- whatever is asked, a search, or an aggregate without a cursor, reads no more than that
abbrev pub ReadsFew : Asked → List ℕ → ℕ → ℕ → Type 0
ReadsFew (Search what) written old new = ReadsRows what written old new
ReadsFew (Aggregate what) written old new = ReadsAll what.cursor what written old new
ReadsFew _ written old new = Unit {0}

-- What is told of an index has as many records as its lists have entries: just the live ones, where no entry is dead.
pub record TellsEntries (index : Index) (reply : Reply) : Type 0 where
  pub counts : Counts
  pub same : reply ≡ info_reply index.def counts
  pub records : counts.records ≡ all_entries index.lists
  pub just : CountsJust index.lists (Some counts.records)

-- the same of what is written, unless it is a refusal
abbrev pub TellsOf : Option Index → List ℕ → Type 0
TellsOf None written = Unit {0}
TellsOf (Some index) written = ((reply : Reply) × TellsEntries index reply × (written ≡ spelling reply)) ⊎ IsRefusal written

-- whatever is asked, FT.INFO tells as many
abbrev pub TellsExactly : Asked → List Index → List ℕ → Type 0
TellsExactly (Plain Info args) indexes written = TellsOf (find (is_named (first args)) indexes) written
TellsExactly _ indexes written = Unit {0}
