use Rattle.std.proofs.Common.{◌≡◌, ◌∙◌, ap, sym, nat_eq, is_some, Option, Some, None, refl}
use Rattle.std.specs.Option.{option_map}
use Rattle.std.specs.Map.{lookup, remove_entry}
use Rattle.doc_table.specs.declared.doc_row.DocRow.{DocRow}
use Rattle.doc_table.specs.Vectors.{vectors_of}
use Rattle.doc_table.proofs.VectorLaws.{lookup-vectors_of, vectors_of-remove_entry}
use Rattle.doc_table.proofs.doc_rows.DocRows.remove.Goals as goal

-- a row that is found has a vector
is_some-vector : (found : Option DocRow) → is_some found ≡ is_some (option_map (λ row. row.vector) found)
is_some-vector None = refl
is_some-vector (Some row) = refl

pub returns-clause-was : goal.returns-clause-was
returns-clause-was c =
    c.is_some.ensures
    ∙ (ap is_some c.remove.ensures.was
    ∙ (is_some-vector (lookup (nat_eq c.args.id) c.self.inside.rows)
    ∙ ap is_some (sym (lookup-vectors_of c.args.id c.self.inside.rows) ∙ ap (lookup (nat_eq c.args.id)) c.self.view_is)))

pub returns-clause-gone : goal.returns-clause-gone
returns-clause-gone c =
    ap vectors_of c.remove.ensures.gone
    ∙ (vectors_of-remove_entry c.args.id c.self.inside.rows
    ∙ ap (remove_entry (nat_eq c.args.id)) c.self.view_is)
