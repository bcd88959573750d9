use Rattle.std.proofs.Common.{arith}
use Rattle.id_rows.proofs.PlaceLaws.{place_it}
use Rattle.id_rows.proofs.near.place_near.Goals as goal

pub returns-then-id_at-id : goal.returns-then-id_at-id
returns-then-id_at-id g c =
    place_it g.T.HasId.id_of c.args.rows.now c.args.id c.unbroken_place-guess.result c.requires c.unbroken_place-guess.ensures (omega (arith, c.id_at.ensures, c.if-id_at-id.true))

pub returns-then-here-id-2 : goal.returns-then-here-id-2
returns-then-here-id-2 g c =
    place_it g.T.HasId.id_of c.args.rows.now c.args.id c.args.near c.requires (omega (arith, c.if-near-rows.false)) (omega (arith, c.id_at-here.ensures, c.if-here-id-2.true))
