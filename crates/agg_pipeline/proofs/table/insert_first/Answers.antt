use Rattle.std.proofs.Common.{◌∙◌, ◌++◌, ◌∷◌, [], ap, List, ℕ, Some, refl}
use Rattle.indexmap.proofs.MapLemmas.{OnOk-map}
use Rattle.agg_pipeline.specs.Table.{table_of}
use Rattle.agg_pipeline.proofs.table.insert_first.Goals as goal

pub insert-requires : goal.insert-requires
insert-requires c = rw (c.in_ok-key.ensures.items ∙ c.as_slice.ensures.value) c.requires.absent

pub returns : goal.returns
returns c =
    OnOk-map c.insert.result _ _
    (λ put.
    put
    ∙ (ap (λ (k : List ℕ). table_of c.args.table.now.entries ++ (k, (Some c.in_ok-group.group.cells, c.in_ok-group.group.states)) ∷ []) (c.in_ok-key.ensures.items ∙ c.as_slice.ensures.value ∙ c.requires.spelled)
    ∙ rw (c.in_ok-group.ensures.cells, c.in_ok-group.ensures.states) refl))
    c.insert.ensures
