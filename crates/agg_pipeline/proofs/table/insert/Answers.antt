use Rattle.std.proofs.Common.{◌∙◌, refl, ap}
use Rattle.agg_pipeline.specs.Table.{table_of}
use Rattle.agg_pipeline.proofs.TableLaws.{inserted, table_of-push}
use Rattle.agg_pipeline.proofs.table.insert.Goals as goal

pub returns : goal.returns
returns c =
    ap table_of (c.in_ok-insert.ensures.entries ∙ inserted c.args.key c.args.group c.args.table.now.entries c.args.key.items refl c.requires)
    ∙ table_of-push c.args.table.now.entries (c.args.key, c.args.group)
