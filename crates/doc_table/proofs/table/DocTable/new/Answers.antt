use Rattle.doc_table.proofs.TableLaws.{no_rows}
use Rattle.doc_table.proofs.MarkLaws.{none_marked}
use Rattle.doc_table.proofs.table.DocTable.new.Goals as goal

pub invariant_of-result : goal.invariant_of-result
invariant_of-result c = rw (c.new.ensures, c.new-2.ensures) (no_rows, none_marked)
