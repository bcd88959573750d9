-- What the commands of indexes give.
use Rattle.std.specs.Prelude.{ℕ, List, [], ◌∷◌, ◌++◌, length, map, ◌&&◌, nat_le, Option, Some, None, is_some, Result, Ok, Err, codes, if◌then◌else◌}
use Rattle.std.specs.List.{find}
use Rattle.std.specs.Str.{bytes_eq}
use Rattle.cursor_book.specs.Cursors.{without_index as without_cursors}
use Rattle.ft_base.specs.Kinds.{is_tag}
use Rattle.ft_base.specs.declared.definition.Field.{Field}
use Rattle.ft_base.specs.declared.definition.IndexDef.{IndexDef}
use Rattle.ft_base.specs.Docs.{Doc}
use Rattle.ft_base.specs.declared.reply.Reply.{Reply}
use Rattle.ft_base.specs.declared.reply.Reply.TheVariants.{Line, Fault, Bulk, Array}
use Rattle.ft_schema.specs.Schema.{extended}
use Rattle.ft_schema.specs.declared.fault.SchemaFault.{SchemaFault}
use Rattle.ft_machine.specs.Definitions.{Defined, failures_over, index_of, with_index, without_index, without_members}
use Rattle.ft_machine.specs.TagValues.{tag_values}
use Rattle.ft_machine.specs.Machine.{Outcome, State, answered}
use Rattle.ft_schema.specs.Refusals.{schema_refusal}

-- the most indexes that there may be
abbrev pub most_indexes : ℕ
most_indexes = 256

-- the text where no index has the name
abbrev pub unknown_index : List ℕ
unknown_index = codes "Unknown index name"

-- an index that has tried these documents, with this count before
abbrev pub index_over : IndexDef → List Doc → ℕ → Defined
index_over def docs failures = record { def = def; failures = failures_over def docs failures }

-- what changes the definitions
abbrev pub defines : List Defined → State → Outcome
defines definitions state = record { reply = Line (codes "OK"); after = record state { definitions = definitions } }

-- FT.CREATE: a new index goes last, if its name is free and there is room. It tries each document.
abbrev pub created : IndexDef → State → Outcome
created def state =
    if is_some (index_of state.definitions def.name) then answered (Fault (codes "Index already exists")) state
    else (if nat_le most_indexes (length state.definitions) then answered (Fault (codes "Too many indexes")) state
    else defines (state.definitions ++ index_over def state.space 0 ∷ []) state)

-- an index with more fields, or why it can't have them, tries each document again, and its count goes on
abbrev pub altered_to : ℕ → Result IndexDef SchemaFault → State → Outcome
altered_to failures (Err fault) state = answered (Fault (schema_refusal fault)) state
altered_to failures (Ok def) state = defines (with_index state.definitions (index_over def state.space failures)) state

-- FT.ALTER
abbrev pub altered : Option Defined → List Field → State → Outcome
altered None fields state = answered (Fault unknown_index) state
altered (Some index) fields state = altered_to index.failures (extended index.def fields) state

-- the cursors of an index are gone with it
abbrev pub undefines : Defined → List ℕ → State → Outcome
undefines index name state =
    defines (without_index state.definitions name) (record state { cursors = without_cursors index.def.serial state.cursors })

-- FT.DROPINDEX, with the words behind the index's name: DD removes the index's members too.
abbrev pub dropped : Option Defined → List ℕ → List (List ℕ) → State → Outcome
dropped None name how state = answered (Fault unknown_index) state
dropped (Some index) name [] state = undefines index name state
dropped (Some index) name (_ ∷ _) state =
    undefines index name (record state { space = without_members (Some index) state.space })

-- FT._LIST: the names in order of creation
abbrev pub name_bulk : Defined → Reply
name_bulk index = Bulk index.def.name

abbrev pub listed : List Defined → Reply
listed definitions = Array (map name_bulk definitions)

-- the TAG field of an alias, where there is one
abbrev pub tag_field : List Field → List ℕ → Option Field
tag_field fields alias = find (λ (field : Field). is_tag field.kind && bytes_eq alias field.alias) fields

-- FT.TAGVALS, of a TAG field
abbrev pub tags_reply : Option Field → IndexDef → List Doc → Reply
tags_reply None def docs = Fault (codes "Unknown field at word 2")
tags_reply (Some field) def docs = Array (map Bulk (tag_values def field docs))

abbrev pub tag_vals : Option Defined → List ℕ → List Doc → Reply
tag_vals None alias docs = Fault unknown_index
tag_vals (Some index) alias docs = tags_reply (tag_field index.def.fields alias) index.def docs

-- what is said of an index whose lists have no dead entry any more
abbrev pub done : Reply
done = Line (codes "DONE")

-- FT.DEBUG GC_FORCEINVOKE: dead entries are nothing that a command tells of, so it changes no state.
abbrev pub collected : Option Defined → Reply
collected None = Fault unknown_index
collected (Some index) = done
