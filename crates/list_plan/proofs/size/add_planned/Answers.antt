use Rattle.list_plan.proofs.size.add_planned.Goals as goal

pub returns : goal.returns
returns c = record { item = c.in_ok-planned.planned; was = c.in_ok-planned.was; items = c.in_ok-push.ensures.items }
