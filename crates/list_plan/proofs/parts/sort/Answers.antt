use Rattle.list_plan.proofs.PartLaws.{denied_goes, found_goes, none_goes}
use Rattle.list_plan.proofs.parts.sort.Goals as goal

pub returns-then-not-part : goal.returns-then-not-part
returns-then-not-part c = found_goes c.args.part c.args.found.now.items c.args.denied.now.items _ c.if-not-part.true c.in_ok-push.ensures.items

pub returns-then-is_none : goal.returns-then-is_none
returns-then-is_none c = none_goes c.args.part c.args.found.now.items c.args.denied.now.items c.if-not-part.false (c.is_none.ensures c.if-is_none.true)

pub returns : goal.returns
returns c = denied_goes c.args.part c.args.found.now.items c.args.denied.now.items _ c.if-not-part.false c.in_ok-push-2.ensures.items
