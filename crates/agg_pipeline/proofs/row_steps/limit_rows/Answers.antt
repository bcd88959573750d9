use Rattle.std.proofs.Common.{◌≡◌, ◌∙◌, length, min, ap, drop, take, rules}
use Rattle.std.proofs.lemmas.List.{drop-take, drop_min}
use Rattle.agg_pipeline.proofs.row_steps.limit_rows.Goals as goal

pub returns : goal.returns
returns c =
    let before_is : c.min-before.result ≡ min c.args.offset (length c.args.rows.items) = c.min-before.ensures ∙ ap (min c.args.offset) (c.len.ensures ∙ search rules) in
    c.drop_first.ensures
    ∙ ap (drop c.min-before.result) c.truncate.ensures.items
    ∙ drop-take c.min-before.result c.args.num c.args.rows.items
    ∙ ap (λ n. take c.args.num (drop n c.args.rows.items)) before_is
    ∙ ap (take c.args.num) (drop_min c.args.offset c.args.rows.items)
