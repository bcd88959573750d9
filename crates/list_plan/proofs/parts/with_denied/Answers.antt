use Rattle.std.proofs.Common.{arith}
use Rattle.list_plan.proofs.PartLaws.{no_denied, one_denies}
use Rattle.list_plan.proofs.parts.with_denied.Goals as goal

pub returns-then-len-eq0 : goal.returns-then-len-eq0
returns-then-len-eq0 c = no_denied c.args.found.items c.args.denied.items (omega (arith, c.len.ensures, c.if-len-eq0.true))

pub returns : goal.returns
returns c = one_denies c.args.found.items c.args.denied.items _ c.in_ok-none.none c.in_ok-none.ensures c.in_ok-push.ensures.items
