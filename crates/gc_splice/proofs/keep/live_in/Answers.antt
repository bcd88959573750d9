use Rattle.std.proofs.Common.{◌≤◌, ◌∙◌, ap, subst, sym, length, filter, take}
use Rattle.gc_splice.proofs.AliveLaws.{counted_ids, fewer_alive}
use Rattle.gc_splice.proofs.keep.live_in.Goals as goal

pub returns-clause-live : goal.returns-clause-live
returns-clause-live g c =
    let live = g.L.Live.is c.args.live.now in
    let e = c.ids_into-len.ensures in
    c.live_among.ensures ∙ ap (λ n. length (filter live (take n c.ids_into-len.new.ids))) e.count ∙ ap (λ ids. length (filter live ids)) e.ids ∙ counted_ids live c.args.block.now

pub returns-clause-few : goal.returns-clause-few
returns-clause-few g c =
    let live = g.L.Live.is c.args.live.now in
    let e = c.ids_into-len.ensures in
    let is = c.live_among.ensures ∙ ap (λ n. length (filter live (take n c.ids_into-len.new.ids))) e.count ∙ ap (λ ids. length (filter live ids)) e.ids ∙ counted_ids live c.args.block.now in
    subst (λ n. n ≤ length c.args.block.now) (sym is) (fewer_alive live c.args.block.now)
