use Rattle.std.proofs.Common.{arith, ◌<◌, ◌≤◌, ◌∙◌, length, take, drop, sym, ap, subst, cond, ◌++◌, ◌∷◌, []}
use Rattle.posting_block.specs.Rising.{last_id}
use Rattle.gc_splice.proofs.KeepLaws.{stands_before, at_entry, some_entry, above_kept, room_kept, before_next, place_next, alive_more}
use Rattle.gc_splice.proofs.keep.keep_in.Goals as goal

pub next-requires : goal.next-requires
next-requires g c = (drop c.entries.index c.args.block.now, stands_before g.P.Payload.spelled c.args.block.now c.entries.index c.entries.at c.entries.before c.entries.invariant.1 c.entries.invariant.2)

pub unreachable-requires : goal.unreachable-requires
unreachable-requires g c =
    let s = stands_before g.P.Payload.spelled c.args.block.now c.entries.index c.entries.at c.entries.before c.entries.invariant.1 c.entries.invariant.2 in
    some_entry g.P.Payload.spelled c.args.block.now c.entries.index c.next.result (omega (arith, c.entries-test.true, c.len-len.ensures.len)) (c.next.ensures (drop c.entries.index c.args.block.now) s) c.in_default.is

pub keep_one-requires-clause-found : goal.keep_one-requires-clause-found
keep_one-requires-clause-found g c =
    let s = stands_before g.P.Payload.spelled c.args.block.now c.entries.index c.entries.at c.entries.before c.entries.invariant.1 c.entries.invariant.2 in
    let a = at_entry g.P.Payload.spelled c.args.block.now c.entries.index c.next.result c.in-Some.found (omega (arith, c.entries-test.true, c.len-len.ensures.len)) (c.next.ensures (drop c.entries.index c.args.block.now) s) c.in-Some.is in
    (take c.entries.index c.args.block.now, a.more, a.e, a.is)

pub keep_one-requires-clause-above : goal.keep_one-requires-clause-above
keep_one-requires-clause-above g c =
    let s = stands_before g.P.Payload.spelled c.args.block.now c.entries.index c.entries.at c.entries.before c.entries.invariant.1 c.entries.invariant.2 in
    let a = at_entry g.P.Payload.spelled c.args.block.now c.entries.index c.next.result c.in-Some.found (omega (arith, c.entries-test.true, c.len-len.ensures.len)) (c.next.ensures (drop c.entries.index c.args.block.now) s) c.in-Some.is in
    subst (λ k. last_id 0 k < c.in-Some.found.id) (sym c.entries.invariant.0) (above_kept g.P.Payload.spelled (g.L.Live.is c.args.live.now) c.args.block.now c.entries.index c.in-Some.found a c.len-len.ensures.rises)

pub keep_one-requires-clause-room : goal.keep_one-requires-clause-room
keep_one-requires-clause-room g c =
    let few : length c.args.block.now ≤ 100 = omega (arith, c.len-len.ensures.len, c.len-len.ensures.few) in
    subst (λ k. length k < 100) (sym c.entries.invariant.0) (room_kept g.P.Payload.spelled (g.L.Live.is c.args.live.now) c.args.block.now c.entries.index (omega (arith, c.entries-test.true, c.len-len.ensures.len)) few)

pub entries-preserved : goal.entries-preserved
entries-preserved g c =
    let s = stands_before g.P.Payload.spelled c.args.block.now c.entries.index c.entries.at c.entries.before c.entries.invariant.1 c.entries.invariant.2 in
    let a = at_entry g.P.Payload.spelled c.args.block.now c.entries.index c.next.result c.in-Some.found (omega (arith, c.entries-test.true, c.len-len.ensures.len)) (c.next.ensures (drop c.entries.index c.args.block.now) s) c.in-Some.is in (
      c.in_ok-keep_one.ensures (take c.entries.index c.args.block.now) a.more a.e a.is
          ∙ ap (λ k. k ++ cond (g.L.Live.is c.args.live.now a.e.0) (a.e ∷ []) []) c.entries.invariant.0
          ∙ sym (alive_more (g.L.Live.is c.args.live.now) c.args.block.now c.entries.index a.e a.taken),
      place_next g.P.Payload.spelled c.args.block.now c.entries.index c.in-Some.found a,
      before_next g.P.Payload.spelled c.args.block.now c.entries.index c.in-Some.found a,
    )
