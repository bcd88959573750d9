use Rattle.std.proofs.Common.{arith, List, ℕ, refl, subst, sym}
use Rattle.id_iters.proofs.ReadingLaws.{Walked, comes, comes_above, walked_end, walked_next, walked_start}
use Rattle.id_iters.proofs.reading.read_wanted.Goals as goal

pub entries-init : goal.entries-init
entries-init g c =
    subst (λ (l : List ℕ). Walked g.P.Payload.spelled (g.H.HitTest.wants c.args.test.now) c.args.from c.args.block.now 0 0 l) (sym c.in_ok-make_room.ensures)
    (walked_start g.P.Payload.spelled (g.H.HitTest.wants c.args.test.now) c.args.from c.args.block.now)

pub read_entry-requires : goal.read_entry-requires
read_entry-requires g c =
    let w = c.entries.invariant in
    let k = comes g.P.Payload.spelled (g.H.HitTest.wants c.args.test.now) c.args.from c.args.block.now w.stands.done w.left c.next.result c.in-Some.found (c.next.ensures w.left w.stands) c.in-Some.is in
    (w.stands.done, k.more, k.entry, k.found)

pub entries-smaller : goal.entries-smaller
entries-smaller g c =
    let w = c.entries.invariant in
    let k = comes g.P.Payload.spelled (g.H.HitTest.wants c.args.test.now) c.args.from c.args.block.now w.stands.done w.left c.next.result c.in-Some.found (c.next.ensures w.left w.stands) c.in-Some.is in
    let above = comes_above g.P.Payload.spelled (g.H.HitTest.wants c.args.test.now) c.args.from c.args.block.now c.entries.at c.entries.before c.entries.ids.items c.in-Some.found c.len.ensures.rises w k in
    omega (arith, above)

pub entries-preserved : goal.entries-preserved
entries-preserved g c =
    let w = c.entries.invariant in
    let k = comes g.P.Payload.spelled (g.H.HitTest.wants c.args.test.now) c.args.from c.args.block.now w.stands.done w.left c.next.result c.in-Some.found (c.next.ensures w.left w.stands) c.in-Some.is in
    walked_next g.P.Payload.spelled (g.H.HitTest.wants c.args.test.now) c.args.from c.args.block.now c.entries.at c.entries.before c.entries.ids.items c.read_entry.new.ids.items c.in-Some.found _
    w k refl (c.in_ok-read_entry.ensures w.stands.done k.more k.entry k.found)

pub returns : goal.returns
returns g c =
    let w = c.entries.invariant in
    walked_end g.P.Payload.spelled (g.H.HitTest.wants c.args.test.now) c.args.from c.args.block.now c.entries.at c.entries.before c.entries.ids.items c.next.result w (c.next.ensures w.left w.stands) c.in_default.is
