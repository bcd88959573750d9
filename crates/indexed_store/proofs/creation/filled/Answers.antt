use Rattle.std.specs.Prelude.{◌≡◌, ◌+◌}
use Rattle.std.proofs.Common.{inl, arith}
use Rattle.indexed_store.specs.Standing.{markers_at}
use Rattle.indexed_store.proofs.IndexingLaws.{stands-later}
use Rattle.indexed_store.proofs.creation.filled.Goals as goal

pub returns-clause-stands : goal.returns-clause-stands
returns-clause-stands c =
    let event = c.args.markers.event in
    let same : c.fill.new.markers.event ≡ event = c.fill.ensures.event in
    stands-later c.fill.new.store.space c.fill.new.markers.event (event + 1) c.fill.new.markers (markers_at (event + 1)) c.fill.new.index (omega (arith, same)) (inl (omega (arith, same)))
    c.in_ok-fill.ensures.stands
