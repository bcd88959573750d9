-- What the documents' rows stand for.
use Rattle.std.specs.Prelude.{map}
use Rattle.ft_base.specs.Rows.{Rows}
use Rattle.doc_table.specs.Table.{Vector}
use Rattle.doc_table.specs.declared.doc_row.DocRow.{DocRow}

-- the sorting vectors by id
abbrev pub vectors_of : Rows DocRow → Rows Vector
vectors_of rows = map (λ row. (row.0, row.1.vector)) rows
