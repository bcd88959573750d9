use Rattle.std.proofs.Common.{sym, subst, ◌<◌}
use Rattle.std.specs.List.{AllByRecursion}
use Rattle.doc_table.proofs.VectorLaws.{keys_of-vectors_of}
use Rattle.doc_table.specs.Table.{Vector}
use Rattle.ft_base.specs.Rows.{Rows, Below}
use Rattle.doc_table.proofs.doc_rows.DocRows.push.Goals as goal

pub push-requires : goal.push-requires
push-requires c =
    subst (AllByRecursion (λ other. other < c.args.id)) (keys_of-vectors_of c.self.inside.rows)
    (subst (λ (rows : Rows Vector). Below c.args.id rows) (sym c.self.view_is) c.requires)
