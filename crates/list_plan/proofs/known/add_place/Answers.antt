use Rattle.list_plan.proofs.KnownLaws.{added}
use Rattle.list_plan.proofs.known.add_place.Goals as goal

pub returns : goal.returns
returns c =
    added c.args.known.now c.remove.new.self c.insert-2.new.self c.group_of-group.result c.args.list.now c.args.place c.text_of.result
    c.remove.result c.new.result c.unwrap_or-places.result c.insert.new.self
    c.group_of-group.ensures c.text_of.ensures c.remove.ensures.value c.remove.ensures.updates c.new.ensures.empty c.unwrap_or-places.ensures
    c.in_ok-insert.ensures.updates c.in_ok-insert-2.ensures.updates
