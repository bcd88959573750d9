use Rattle.std.proofs.Common.{◌≡◌, ◌∙◌, ap, subst, map, IfOk, List, []}
use Rattle.std.specs.Prelude.{fold}
use Rattle.ft_base.specs.declared.row.Row.{Row}
use Rattle.agg_pipeline.specs.Table.{Table, finished_row, note_row}
use Rattle.agg_pipeline.proofs.GroupLaws.{finished_groups, table_is}
use Rattle.agg_pipeline.proofs.grouping.group_rows.Goals as goal

pub returns : goal.returns
returns c =
    let noted : c.note_all.new.groups ≡ fold (note_row c.args.def.now c.args.by.now c.args.reduce.now) [] c.args.rows.now =
    c.in_ok-note_all.ensures ∙ ap (λ (t : Table). fold (note_row c.args.def.now c.args.by.now c.args.reduce.now) t c.args.rows.now) c.new-groups.ensures in
    subst (λ (want : List Row). IfOk c.finish.result (λ rows. rows.items ≡ want))
    (ap (map (finished_row c.args.reduce.now)) (noted ∙ table_is c.args.def.now c.args.by.now c.args.reduce.now c.args.rows.now) ∙ finished_groups c.args.def.now c.args.by.now c.args.reduce.now c.args.rows.now)
    c.finish.ensures
