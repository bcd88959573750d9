use Rattle.std.proofs.Common.{arith, ◌+◌, ◌<◌}
use Rattle.id_rows.specs.IdRows.{place_id}
use Rattle.id_rows.proofs.PlaceLaws.{below_before, place_it}
use Rattle.id_rows.proofs.near.place_beyond.Goals as goal

pub overflow_sub-id : goal.overflow_sub-id
overflow_sub-id g c =
    let first : place_id g.T.HasId.id_of c.args.rows.now c.args.near < c.args.id =
    below_before g.T.HasId.id_of c.args.rows.now c.args.id (c.args.near + 2) c.requires.rises c.requires.next c.requires.less c.args.near (omega arith) in
    omega (arith, c.id_at.ensures, first)

pub returns-then-id_at-id : goal.returns-then-id_at-id
returns-then-id_at-id g c =
    place_it g.T.HasId.id_of c.args.rows.now c.args.id (c.args.near + c.min-ahead.result) c.requires.rises (omega (arith, c.min-ahead.ensures, c.requires.next)) (omega (arith, c.id_at-2.ensures, c.if-id_at-id.true))
