-- How a command that changes nothing is answered. What one of indexes needs of an index to read its documents, what it tells of
-- those that it finds, and what it leaves of the store.
use Rattle.std.specs.Prelude.{◌≡◌, ◌<◌, ◌≤◌, ◌^◌, ◌⊎◌, ℕ, List, All, length, None, IsTrue}
use Rattle.cmd_parse.specs.Aggregating.{Aggregating}
use Rattle.cmd_parse.specs.Asked.{Asked}
use Rattle.cmd_parse.specs.Searching.{Searching}
use Rattle.ft_base.specs.Memory.{out_of_memory}
use Rattle.ft_base.specs.Reply.{fits_wire, spelling}
use Rattle.ft_base.specs.declared.definition.IndexDef.{IndexDef}
use Rattle.ft_base.specs.Docs.{Doc}
use Rattle.ft_base.specs.declared.limits.TheConstants.{MAX_WORD_BYTES}
use Rattle.ft_base.specs.declared.query.Query.{Query}
use Rattle.ft_base.specs.declared.reply.Reply.{Reply}
use Rattle.ft_base.specs.declared.row.Row.{Row}
use Rattle.ft_index.specs.Index.{Index, Indexes, IsIndex}
use Rattle.ft_machine.specs.Aggregating.{aggregate_rows, rows_reply}
use Rattle.ft_machine.specs.Counted.{counted, first_unknown}
use Rattle.ft_machine.specs.Machine.{State}
use Rattle.ft_machine.specs.Step.{Does, last_number}
use Rattle.ft_meaning.specs.Holds.{found_of}
use Rattle.ft_meaning.specs.Meaning.{ValuesFit}
use Rattle.hash_store.specs.Store.{Store, reads_after}
use Rattle.ft_engine.specs.Exactness.{Shows}
use Rattle.indexed_store.specs.DefinitionsOf.{definitions_of}
use Rattle.indexed_store.specs.Holding.{Holding, state_of}
use Rattle.indexed_store.specs.Standing.{InStep}
use Rattle.doc_reads.specs.Ids.{docs_of}

-- A reply is written, or memory ran out.
abbrev pub IsReplied : Reply → List ℕ → Type 0
IsReplied reply written = (written ≡ spelling reply) ⊎ (written ≡ spelling out_of_memory)

-- A command that changes nothing is answered over documents and indexes, whatever the number of its event.
abbrev pub IsAnsweredOver : Asked → List Doc → List Index → List ℕ → Type 0
IsAnsweredOver asks space indexes written =
    (number : ℕ) (state : State) → state.space ≡ space → state.definitions ≡ definitions_of indexes → Does asks number state written state

-- The same over all that is held, in the next event.
abbrev pub IsAnswered : Asked → Holding → List ℕ → Type 0
IsAnswered asks held written = Does asks held.next (state_of held) written (state_of held)

-- ---- what is needed of an index

-- a text is no longer than a word may be
abbrev pub IsWord : List ℕ → Type 0
IsWord text = length text ≤ MAX_WORD_BYTES

-- Before the last event each index of a store can be read.
abbrev pub AreReadable : Store → List Index → Type 0
AreReadable store indexes = InStep store indexes last_number

-- An index stands for the documents of a store, and its ids and their values are such as queries can be planned over.
pub record IsReadable (index : Index) (space : List Doc) : Type 0 where
  pub stands : Indexes index space
  pub sound : IsIndex index
  pub few : index.table.last < 2 ^ 62
  pub values : All (λ (doc : Doc). ValuesFit doc.hash) space

-- A store hands out documents at most.
pub record HandsOut (old new : Store) : Type 0 where
  pub space : new.space ≡ old.space
  pub ready : new.ready ≡ old.ready
  pub last : new.last ≡ old.last
  pub rises : old.reads ≤ new.reads

-- ---- what is told of the documents that are found

-- the rows that all steps make of what a query finds
abbrev pub rows_of : Aggregating → List Doc → IndexDef → Query → List Row
rows_of what docs def query = aggregate_rows what.load what.steps def (found_of query def docs)

-- A reply tells these rows, and fits the wire; each document that was found was read once.
pub record TellsRows (what : Aggregating) (query : Query) (def : IndexDef) (old new : Store) (reply : Reply) : Type 0 where
  pub told : reply ≡ rows_reply (rows_of what old.space def query)
  pub fits : IsTrue (fits_wire reply)
  pub reads : new.reads ≡ reads_after old.reads (length (found_of query def old.space))

-- SORTBY and each FILTER name fields that an index has
abbrev pub NamesFields : Searching → IndexDef → Type 0
NamesFields what def = first_unknown def.fields what ≡ None

-- A reply shows the documents that count by a query, its FILTERs and the keys that are named.
abbrev pub ShowsCounted : Searching → Query → IndexDef → Store → Store → Reply → Type 0
ShowsCounted what query def old new = Shows what def (counted what query def old.space) old.reads new.reads

-- the same of a query that its FILTERs have joined already
abbrev pub ShowsNamed : Searching → Query → IndexDef → Store → Store → Reply → Type 0
ShowsNamed what query def old new = Shows what def (docs_of what.keys (found_of query def old.space)) old.reads new.reads
