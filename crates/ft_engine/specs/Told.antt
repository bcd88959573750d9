-- What FT.INFO tells of an index.
use Rattle.std.specs.Prelude.{◌≡◌, ℕ, List, length, IsTrue}
use Rattle.cursor_book.specs.Cursors.{cursors_of}
use Rattle.cursor_book.specs.declared.cursor.Cursor.{Cursor}
use Rattle.ft_base.specs.Reply.{fits_wire}
use Rattle.ft_base.specs.Docs.{Doc}
use Rattle.ft_base.specs.declared.reply.Reply.{Reply}
use Rattle.ft_index.specs.Index.{Index, Indexes}
use Rattle.ft_machine.specs.Info.{Tells}
use Rattle.ft_engine.specs.Exactness.{TellsEntries}
use Rattle.indexed_store.specs.DefinitionsOf.{defined}

-- A reply tells of an index what there is to tell, whatever the documents that it stands for and the cursors, which are so
-- many. It tells as many records as the lists have entries, and fits the wire.
pub record TellsIndex (index : Index) (cursors : ℕ) (reply : Reply) : Type 0 where
  pub tells : (docs : List Doc) (opened : List Cursor) → Indexes index docs → cursors ≡ length (cursors_of index.def.serial opened)
      → Tells (defined index) docs opened reply
  pub exact : TellsEntries index reply
  pub fits : IsTrue (fits_wire reply)
