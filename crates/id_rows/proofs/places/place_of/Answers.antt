use Rattle.std.proofs.Common.{◌-◌, arith, length}
use Rattle.id_rows.proofs.PlaceLaws.{place_first, place_it, place_last, span_ahead}
use Rattle.id_rows.proofs.places.place_of.Goals as goal

pub returns-then-id-first : goal.returns-then-id-first
returns-then-id-first g c = place_first g.T.HasId.id_of c.args.rows.now c.args.id c.requires (omega (arith, c.id_at-first.ensures, c.if-id-first.true))

pub returns-then-id_at-id : goal.returns-then-id_at-id
returns-then-id_at-id g c =
    place_last g.T.HasId.id_of c.args.rows.now c.args.id (length c.args.rows.now - 1) c.requires (omega (arith, c.if-count-eq0.false)) (omega (arith, c.id_at.ensures, c.if-id_at-id.true))

pub returns-then-here-id : goal.returns-then-here-id
returns-then-here-id g c =
    place_it g.T.HasId.id_of c.args.rows.now c.args.id c.min-ahead.result c.requires (omega (arith, c.min-ahead.ensures, c.if-count-eq0.false)) (omega (arith, c.id_at-here.ensures, c.if-here-id.true))

pub place_within-requires-clause-span : goal.place_within-requires-clause-span
place_within-requires-clause-span g c =
    span_ahead g.T.HasId.id_of c.args.rows.now c.args.id c.id_at-first.result c.min-ahead.result c.id_at-here.result (length c.args.rows.now - 1) c.requires (omega (arith, c.if-count-eq0.false))
    c.id_at-first.ensures c.id_at-here.ensures (omega (arith, c.if-id-first.false)) (omega (arith, c.if-id_at-id.false, c.id_at.ensures)) c.min-ahead.ensures
