use Rattle.list_plan.proofs.PartLaws.{every_made}
use Rattle.list_plan.proofs.parts.every_part.Goals as goal

pub returns : goal.returns
returns c = every_made c.args.parts.items c.split.new.found.items c.split.new.denied.items c.in_ok-put_together.field-0 c.in_ok-split.ensures c.in_ok-put_together.ensures
