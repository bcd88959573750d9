use Rattle.query_plan.proofs.phrases.add_leaf.Goals as goal

pub returns : goal.returns
returns c = record { item = c.in_ok-leaf.leaf; was = c.in_ok-leaf.was; items = c.in_ok-push.ensures.ok }
