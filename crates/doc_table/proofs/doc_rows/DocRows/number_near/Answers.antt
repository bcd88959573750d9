use Rattle.std.proofs.Common.{◌∙◌, ap, sym, nat_eq}
use Rattle.std.specs.Option.{option_map}
use Rattle.std.specs.Map.{lookup}
use Rattle.doc_table.specs.Table.{number_in}
use Rattle.doc_table.specs.declared.doc_row.DocRow.{DocRow}
use Rattle.doc_table.proofs.VectorLaws.{lookup-vectors_of}
use Rattle.doc_table.proofs.doc_rows.DocRows.number_near.Goals as goal

pub returns-in_err-get_near : goal.returns-in_err-get_near
returns-in_err-get_near c =
    c.from_residual.ensures
    ∙ ap (λ found. number_in found c.args.place)
    (ap (option_map (λ (row : DocRow). row.vector)) c.in_err-get_near.ensures
    ∙ (sym (lookup-vectors_of c.args.id c.self.inside.rows) ∙ ap (lookup (nat_eq c.args.id)) c.self.view_is))

pub returns : goal.returns
returns c =
    c.number.ensures
    ∙ ap (λ found. number_in found c.args.place)
    (ap (option_map (λ (row : DocRow). row.vector)) c.in_ok-get_near.ensures
    ∙ (sym (lookup-vectors_of c.args.id c.self.inside.rows) ∙ ap (lookup (nat_eq c.args.id)) c.self.view_is))
