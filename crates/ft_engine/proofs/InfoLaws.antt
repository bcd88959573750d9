-- What FT.INFO tells of an index is true of its documents.
use Rattle.std.specs.Prelude.{◌≡◌, ◌≤◌, ◌+◌, ℕ, ℤ, List, [], ◌∷◌, Option, None, Some, Result, Ok, Err, IfOk, IsTrue, find, length, refl}
use Rattle.std.proofs.Common.{sym, ap, ◌∙◌, arith, subst}
use Rattle.std.proofs.lemmas.List.{length-map}
use Rattle.std.proofs.lemmas.Result.{IfOk-weaker}
use Rattle.cmd_parse.specs.Read.{Plain}
use Rattle.cmd_parse.specs.declared.command.Verb.TheVariants.{Info}
use Rattle.cursor_book.specs.Cursors.{cursors_of}
use Rattle.cursor_book.specs.declared.cursor.Cursor.{Cursor}
use Rattle.ft_base.specs.Reply.{fits_wire, spelling}
use Rattle.ft_base.specs.declared.definition.IndexDef.{IndexDef}
use Rattle.ft_base.specs.Docs.{Doc}
use Rattle.ft_base.specs.declared.reply.Reply.{Reply}
use Rattle.ft_base.specs.declared.reply.Reply.TheVariants.{Fault}
use Rattle.ft_index.specs.Index.{Index, Indexes}
use Rattle.ft_meaning.specs.Member.{members}
use Rattle.ft_machine.specs.Info.{info_reply, Tells, informed}
use Rattle.ft_index.specs.Has.{Has}
use Rattle.ft_index.specs.Lists.{AllLists}
use Rattle.ft_meaning.specs.Records.{live_records}
use Rattle.ft_meaning.specs.Sortable.{sorting_vector}
use Rattle.ft_machine.proofs.Stepping.{gives, told}
use Rattle.ft_base.specs.Words.{first}
use Rattle.ft_machine.specs.Definitions.{Defined}
use Rattle.indexed_store.specs.DefinitionsOf.{defined, definitions_of}
use Rattle.indexed_store.specs.Named.{is_named}
use Rattle.inverted_list.specs.Listing.{RisesAbove, last_id}
use Rattle.ft_machine.specs.Indexes.{unknown_index}
use Rattle.ft_machine.specs.Machine.{State, answered}
use Rattle.ft_machine.specs.Step.{Does, Told}
use Rattle.ft_engine.proofs.AnsweringLaws.{named}
use Rattle.ft_engine.specs.Exactness.{TellsEntries}
use Rattle.ft_engine.specs.Told.{TellsIndex}

-- as many ids as rise up to a number are no more than the number
pub rising-few : {X : Type 0} (low : ℕ) (rows : List (ℕ × X)) → RisesAbove low rows → low + length rows ≤ last_id low rows
rising-few low [] rises = omega arith
rising-few low (row ∷ rows) rises = omega (arith, rises.0, rising-few row.0 rows rises.1)

-- an index that was looked up by a word is that of the name
pub found-by : (indexes : List Index) (name word : List ℕ) (found : Option Index) → word ≡ name → found ≡ find (is_named word) indexes → find (is_named name) indexes ≡ found
found-by indexes name word found same is = sym (is ∙ ap (λ (w : List ℕ). find (is_named w) indexes) same)

-- there is no such index
pub informs-none : (indexes : List Index) (state : State) (number : ℕ) (args : List (List ℕ)) (written : List ℕ) → state.definitions ≡ definitions_of indexes → find (is_named (first args)) indexes ≡ None
    → written ≡ spelling (Fault unknown_index) → Does (Plain Info args) number state written state
informs-none indexes state number args written same none said =
    gives (Plain Info args) number state (answered (Fault unknown_index) state) written state
    (subst (λ (i : Option Defined). informed i state (answered (Fault unknown_index) state)) (sym (named indexes state (first args) None same none)) refl) said refl

-- there is, and what was told of it was answered, or memory ran out
pub informs-index : {E : Type 0} (indexes : List Index) (index : Index) (state : State) (number : ℕ) (args : List (List ℕ)) (written : List ℕ) (made : Result Reply E) → state.definitions ≡ definitions_of indexes
    → find (is_named (first args)) indexes ≡ Some index → IfOk made (λ reply. Tells (defined index) state.space state.cursors reply) → Told made written → Does (Plain Info args) number state written state
informs-index indexes index state number args written made same there tells said =
    told (Plain Info args) number state written made tt
    (IfOk-weaker made _ _ (λ reply tells. subst (λ (i : Option Defined). informed i state (answered reply state)) (sym (named indexes state (first args) (Some index) same there)) (tells, refl)) tells) said

-- what is told by the counts of an index
pub told-of : {E : Type 0} (index : Index) (def : IndexDef) (lists : AllLists) (made : Result Reply E) (docs records failures cursors : ℕ) → def ≡ index.def → lists ≡ index.lists → docs ≡ length index.table.live
    → failures ≡ index.failures → ((def : IndexDef) (live : List (ℕ × List (Option ℤ))) (all : List Doc) → Has def live lists all → live_records def all ≤ records)
    → IfOk made (λ reply. reply ≡ info_reply def (record { docs = docs; records = records; failures = failures; cursors = cursors }))
    → IfOk made (λ reply. (all : List Doc) (opened : List Cursor) → Indexes index all → cursors ≡ length (cursors_of index.def.serial opened) → Tells (defined index) all opened reply)
told-of index def lists (Err e) docs records failures cursors its of_lists counted failed least made = tt
told-of index def lists (Ok reply) docs records failures cursors its of_lists counted failed least made = λ all opened stands are.
    let there = members index.def all in
    let count : docs ≡ length there = counted ∙ (ap (λ (rows : List (ℕ × List (Option ℤ))). length rows) stands.live ∙ length-map there (λ (doc : Doc). (doc.id, sorting_vector index.def doc))) in
    record {
      records = records;
      least = least index.def index.table.live there (subst (λ (ls : AllLists). Has index.def index.table.live ls there) (sym of_lists) stands);
      same = made ∙ (ap (λ (d : IndexDef). info_reply d (record { docs = docs; records = records; failures = failures; cursors = cursors })) its
          ∙ (ap (λ (n : ℕ). info_reply index.def (record { docs = n; records = records; failures = failures; cursors = cursors })) count
          ∙ (ap (λ (n : ℕ). info_reply index.def (record { docs = length there; records = records; failures = n; cursors = cursors })) failed
          ∙ ap (λ (n : ℕ). info_reply index.def (record { docs = length there; records = records; failures = index.failures; cursors = n })) are)));
    }

-- so all is told that there is to tell
pub tells-index : {E : Type 0} (index : Index) (cursors : ℕ) (made : Result Reply E)
    → IfOk made (λ reply. (all : List Doc) (opened : List Cursor) → Indexes index all → cursors ≡ length (cursors_of index.def.serial opened) → Tells (defined index) all opened reply)
    → IfOk made (λ reply. TellsEntries index reply) → IfOk made (λ reply. IsTrue (fits_wire reply)) → IfOk made (TellsIndex index cursors)
tells-index index cursors (Ok reply) tells exact fits = record { tells = tells; exact = exact; fits = fits }
tells-index index cursors (Err e) tells exact fits = tt

-- what is told of an index is told of the documents that it stands for, and of the cursors that were counted
pub told-at : {E : Type 0} (index : Index) (made : Result Reply E) (docs : List Doc) (opened : List Cursor) (cursors : ℕ) → Indexes index docs → cursors ≡ length (cursors_of index.def.serial opened)
    → IfOk made (TellsIndex index cursors) → IfOk made (λ reply. Tells (defined index) docs opened reply)
told-at index (Ok reply) docs opened cursors stands are told = told.tells docs opened stands are
told-at index (Err e) docs opened cursors stands are told = tt
