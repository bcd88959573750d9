use Rattle.std.proofs.Common.{arith}
use Rattle.list_plan.proofs.PartLaws.{no_found, some_found}
use Rattle.list_plan.proofs.parts.put_together.Goals as goal

pub returns-then-len-eq0 : goal.returns-then-len-eq0
returns-then-len-eq0 c = no_found c.args.found.items c.args.denied.items c.in_ok-some_of.field-0 (omega (arith, c.len.ensures, c.if-len-eq0.true)) c.in_ok-some_of.ensures

pub returns : goal.returns
returns c =
    some_found c.args.found.items c.args.denied.items c.in_ok-all.all.items c.in_ok-every_of.field-0 c.in_ok-all.ensures c.in_ok-every_of.ensures.set
    c.in_ok-every_of.ensures.ready c.in_ok-every_of.ensures.placed c.in_ok-every_of.ensures.known
