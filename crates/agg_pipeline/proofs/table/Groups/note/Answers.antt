use Rattle.std.proofs.Common.{◌≡◌, ◌∙◌, ◌++◌, None, ap, sym}
use Rattle.std.specs.Map.{lookup}
use Rattle.indexmap.proofs.MapLemmas.{OnOk-map}
use Rattle.expr_eval.specs.Lending.{row_of}
use Rattle.agg_pipeline.specs.Spellings.{is_kept}
use Rattle.agg_pipeline.specs.Table.{Table, note_row, tuple_key}
use Rattle.agg_pipeline.proofs.TableLaws.{first_noted, none_from, stepped_there}
use Rattle.agg_pipeline.proofs.table.Groups.note.Goals as goal

pub returns-in-Some : goal.returns-in-Some
returns-in-Some c =
    let key_is : c.as_slice.result.now ≡ tuple_key c.args.def.now c.args.by.now (row_of c.args.row) =
    c.as_slice.ensures.value ∙ (c.in_ok-spell_tuple.ensures ∙ ap (λ bytes. bytes ++ tuple_key c.args.def.now c.args.by.now (row_of c.args.row)) c.clear.ensures.items) in
    OnOk-map c.step_at.result _ _ (λ noted. noted ∙ ap (λ (t : Table). note_row c.args.def.now c.args.by.now c.args.reduce.now t (row_of c.args.row)) c.self.view_is)
    (stepped_there c.args.def.now c.args.by.now c.args.reduce.now (row_of c.args.row) c.as_slice.result.now key_is c.self.inside.table.entries c.in-Some.i
    (sym c.in-Some.ensures.index) (sym c.in-Some.ensures.found) c.step_at.new.table.entries c.step_at.result c.step_at.ensures)

pub returns-in-None : goal.returns-in-None
returns-in-None c =
    let key_is : c.as_slice.result.now ≡ tuple_key c.args.def.now c.args.by.now (row_of c.args.row) =
    c.as_slice.ensures.value ∙ (c.in_ok-spell_tuple.ensures ∙ ap (λ bytes. bytes ++ tuple_key c.args.def.now c.args.by.now (row_of c.args.row)) c.clear.ensures.items) in
    let none : lookup (is_kept c.as_slice.result.now) c.self.inside.table.entries ≡ None = none_from (lookup (is_kept c.as_slice.result.now) c.self.inside.table.entries) (sym c.in-None.ensures.found) in
    OnOk-map c.insert_first.result _ _
    (λ put.
    put
    ∙ (sym (first_noted c.args.def.now c.args.by.now c.args.reduce.now (row_of c.args.row) c.as_slice.result.now key_is c.self.inside.table.entries none)
    ∙ ap (λ (t : Table). note_row c.args.def.now c.args.by.now c.args.reduce.now t (row_of c.args.row)) c.self.view_is))
    c.insert_first.ensures
