-- The documents of an index once one has entered it.
use Rattle.std.specs.Prelude.{Some}
use Rattle.doc_table.specs.Table.{Table}
use Rattle.ft_base.specs.declared.definition.IndexDef.{IndexDef}
use Rattle.ft_base.specs.Docs.{Doc}
use Rattle.ft_meaning.specs.Sortable.{sorting_vector}

-- the document waits in the table, with its sorting vector
abbrev pub awaiting : IndexDef → Doc → Table → Table
awaiting def doc table = record table { ready = Some (doc.id, sorting_vector def doc); last = doc.id }
