use Rattle.std.proofs.Common.{◌≡◌, ◌<◌, ◌+◌, ◌^◌, ap, arith, get_or, length, subst, sym, ◌∙◌}
use Rattle.collector.specs.Ways.{Going}
use Rattle.collector.proofs.CountLaws.{room-for}
use Rattle.collector.proofs.CycleLaws.{begins, ends-by, finishes, goes-on, took-now}
use Rattle.collector.proofs.collecting.collect_lists.Goals as goal

pub loop-named-init : goal.loop-named-init
loop-named-init g c = begins c.args.server.now c.args.snapshot.now c.args.pass (g.P.Pace.asked c.args.pace.now) (g.P.Pace.stopped c.args.pace.now) c.requires.of c.requires.going

pub collect_one-next-requires-clause-took : goal.collect_one-next-requires-clause-took
collect_one-next-requires-clause-took g c κs within =
    let i = c.loop-named.invariant in took-now c.args.server.now c.args.snapshot.now c.args.pass c.loop-named.pass i.tried _ c.requires.took i.ran

pub returns-in-Some : goal.returns-in-Some
returns-in-Some g c =
    let lists = c.args.snapshot.now.lists in
    let number = c.loop-named.named-index in
    let named = c.named-item.result in
    let next = c.collect_one-next in
    let inside : number < length lists = omega (arith, c.loop-named-test.true, ap length c.as_slice-named-items.ensures) in
    let item : named ≡ get_or lists number named = c.named-item.is ∙ ap (λ l. get_or l number named) c.as_slice-named-items.ensures in
    ends-by c.args.server.now c.args.snapshot.now c.args.pass c.loop-named.pass next.result.0 number named c.loop-named.counts (g.P.Pace.asked c.args.pace.now) (g.P.Pace.asked c.loop-named.pace) (g.P.Pace.asked next.new.pace)
    (g.P.Pace.stopped c.loop-named.pace) (g.P.Pace.stopped next.new.pace) c.loop-named.invariant inside item next.ensures.of next.result.1 c.in-Some.cycle next.ensures.did (sym c.end_of.ensures ∙ c.in-Some.is)

pub loop-named-preserved : goal.loop-named-preserved
loop-named-preserved g c =
    let lists = c.args.snapshot.now.lists in
    let number = c.loop-named.named-index in
    let named = c.named-item.result in
    let next = c.collect_one-next in
    let inside : number < length lists = omega (arith, c.loop-named-test.true, ap length c.as_slice-named-items.ensures) in
    let item : named ≡ get_or lists number named = c.named-item.is ∙ ap (λ l. get_or l number named) c.as_slice-named-items.ensures in
    subst (λ counts. Going c.args.server.now c.args.snapshot.now c.args.pass next.result.0 (number + 1) counts (g.P.Pace.asked c.args.pace.now) (g.P.Pace.asked next.new.pace) (g.P.Pace.stopped next.new.pace)) (sym c.count_step-counts.ensures)
    (goes-on c.args.server.now c.args.snapshot.now c.args.pass c.loop-named.pass next.result.0 number named c.loop-named.counts (g.P.Pace.asked c.args.pace.now) (g.P.Pace.asked c.loop-named.pace) (g.P.Pace.asked next.new.pace)
    (g.P.Pace.stopped c.loop-named.pace) (g.P.Pace.stopped next.new.pace) c.loop-named.invariant inside item next.ensures.of next.result.1 next.ensures.did (sym c.end_of.ensures ∙ c.in_default.is))
