use Rattle.list_plan.proofs.PartLaws.{any_made}
use Rattle.list_plan.proofs.parts.some_part.Goals as goal

pub returns : goal.returns
returns c =
    any_made c.args.parts.items c.in_ok-others.others.items c.other.result c.in_ok-made.made c.in_ok-others.ensures c.in_ok-made.ensures c.other.ensures.planned
    c.other.ensures.negated
