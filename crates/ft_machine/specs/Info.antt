-- What is told of an index (RediSearch, FT.INFO, of which it has seven fields).
use Rattle.std.specs.Prelude.{◌≡◌, ◌≤◌, ℕ, pos, List, [], ◌∷◌, ◌++◌, length, map, Bool, Option, Some, None, codes, if◌then◌else◌}
use Rattle.cursor_book.specs.Cursors.{cursors_of}
use Rattle.cursor_book.specs.declared.cursor.Cursor.{Cursor}
use Rattle.ft_base.specs.declared.definition.Field.{Field}
use Rattle.ft_base.specs.declared.definition.FieldKind.{FieldKind}
use Rattle.ft_base.specs.declared.definition.FieldKind.TheVariants.{Text, Tag, Numeric}
use Rattle.ft_base.specs.declared.definition.IndexDef.{IndexDef}
use Rattle.ft_base.specs.Docs.{Doc}
use Rattle.ft_base.specs.declared.reply.Reply.{Reply}
use Rattle.ft_base.specs.declared.reply.Reply.TheVariants.{Array, Bulk, Fault, Number}
use Rattle.ft_meaning.specs.Member.{members}
use Rattle.ft_meaning.specs.Records.{live_records}
use Rattle.ft_machine.specs.Definitions.{Defined}
use Rattle.ft_machine.specs.Indexes.{unknown_index}
use Rattle.ft_machine.specs.Machine.{Outcome, State, answered, just}
use Rattle.ft_machine.specs.declared.counts.Counts.{Counts}

-- a word where something is declared
abbrev pub word_if : Bool → List ℕ → List Reply
word_if declared word = if declared then Bulk word ∷ [] else []

-- the kind of a field, and what belongs to the kind
abbrev pub kind_words : FieldKind → List Reply
kind_words Text = Bulk (codes "TEXT") ∷ Bulk (codes "NOSTEM") ∷ []
kind_words (Tag separator case) =
    Bulk (codes "TAG") ∷ Bulk (codes "SEPARATOR") ∷ Bulk (separator ∷ []) ∷ word_if case (codes "CASESENSITIVE")
kind_words Numeric = Bulk (codes "NUMERIC") ∷ []

-- the field of the hash, and the alias
abbrev pub names : Field → List Reply
names field = Bulk (codes "identifier") ∷ Bulk field.name ∷ Bulk (codes "attribute") ∷ Bulk field.alias ∷ []

-- the options of a field of any kind
abbrev pub options : Field → List Reply
options field = word_if field.sortable (codes "SORTABLE") ++ word_if field.unf (codes "UNF") ++ word_if field.noindex (codes "NOINDEX")

-- the field of the hash, the alias, the kind, and the options as they were declared
abbrev pub attribute : Field → Reply
attribute field = Array (
    names field ++ Bulk (codes "type")
    ∷ (kind_words field.kind ++ options field)
    )

-- the name, the prefixes and the fields, each behind its own name
abbrev pub definition : IndexDef → List Reply
definition def =
    Bulk (codes "index_name") ∷ Bulk def.name
    ∷ Bulk (codes "prefixes") ∷ Array (map Bulk def.prefixes)
    ∷ Bulk (codes "attributes") ∷ Array (map attribute def.fields)
    ∷ []

-- what FT.INFO tells of an index with these counts
abbrev pub info_reply : IndexDef → Counts → Reply
info_reply def counts = Array (
    definition def
    ++ Bulk (codes "num_docs") ∷ Number (pos counts.docs)
    ∷ Bulk (codes "num_records") ∷ Number (pos counts.records)
    ∷ Bulk (codes "hash_indexing_failures") ∷ Number (pos counts.failures)
    ∷ Bulk (codes "cursors") ∷ Number (pos counts.cursors)
    ∷ []
    )

-- A reply tells of an index its definition, how many members it has, how often a document failed to be one, and how many
-- cursors are open on it. It tells a number of records that is at least that of the live ones.
pub record Tells (index : Defined) (docs : List Doc) (cursors : List Cursor) (reply : Reply) : Type 0 where
  pub records : ℕ
  pub least : live_records index.def (members index.def docs) ≤ records
  pub same : reply ≡ info_reply index.def (record { docs = length (members index.def docs); records = records; failures = index.failures; cursors = length (cursors_of index.def.serial cursors) })

-- what may be told of an index, where there is the index
abbrev pub informed : Option Defined → State → Outcome → Type 0
informed None state outcome = just (answered (Fault unknown_index) state) outcome
informed (Some index) state outcome = Tells index state.space state.cursors outcome.reply × (outcome.after ≡ state)
