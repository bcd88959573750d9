use Rattle.doc_table.proofs.VectorLaws.{keys_of-vectors_of}
use Rattle.doc_table.proofs.doc_rows.DocRows.first_ids.Goals as goal

pub returns : goal.returns
returns c = rw (← c.self.view_is, keys_of-vectors_of c.self.inside.rows) c.first_ids.ensures
