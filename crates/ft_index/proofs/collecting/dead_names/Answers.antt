use Rattle.std.proofs.Common.{subst, sym}
use Rattle.ft_index.proofs.CollectLaws.{Walked, walk-next}
use Rattle.ft_index.proofs.collecting.dead_names.Goals as goal

pub rows-preserved : goal.rows-preserved
rows-preserved g c =
    let live = g.L.Live.is c.args.live.now in
    subst (Walked live c.args.walk c.next.new.self) (sym c.in_ok-note_dead.ensures)
    (walk-next live c.args.walk c.next.new.self c.rows.names c.in-Some.name.now c.in-Some.list.now
    (subst (λ left. Walked live c.args.walk left c.rows.names) c.in-Some.ensures c.rows.invariant))
