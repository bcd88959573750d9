use Rattle.std.proofs.Common.{ap, subst, ◌∙◌}
use Rattle.agg_pipeline.specs.Feeding.{IsMade}
use Rattle.agg_pipeline.specs.Steps.{piped}
use Rattle.agg_pipeline.proofs.FeedLaws.{IfOk-map, finished}
use Rattle.agg_pipeline.proofs.feed.Feed.finish.Goals as goal

pub returns-in-Rows : goal.returns-in-Rows
returns-in-Rows c =
    IfOk-map c.pipe.result _ _
    (λ made told def load steps docs holds.
    finished def load steps docs c.args.self holds made.items
    (λ rows are.
    told
    ∙ ap (piped c.args.self.def.now c.args.self.later.now) (subst (IsMade c.args.self.def.now c.args.self.later.now rows) c.in-Rows.is are)))
    c.pipe.ensures

pub returns-in-Groups : goal.returns-in-Groups
returns-in-Groups c =
    IfOk-map c.finish_groups.result _ _
    (λ made told def load steps docs holds.
    finished def load steps docs c.args.self holds made.items
    (λ rows are. told rows (subst (IsMade c.args.self.def.now c.args.self.later.now rows) c.in-Groups.is are)))
    c.finish_groups.ensures

pub returns-in-First : goal.returns-in-First
returns-in-First c =
    IfOk-map c.finish_first.result _ _
    (λ made told def load steps docs holds.
    finished def load steps docs c.args.self holds made.items
    (λ rows are. told rows (subst (IsMade c.args.self.def.now c.args.self.later.now rows) c.in-First.is are)))
    c.finish_first.ensures
