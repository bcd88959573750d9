use Rattle.std.proofs.Common.{arith, ◌+◌}
use Rattle.id_rows.proofs.PlaceLaws.{place_last, place_next}
use Rattle.id_rows.proofs.near.place_behind.Goals as goal

pub returns-then-near-count : goal.returns-then-near-count
returns-then-near-count g c =
    place_last g.T.HasId.id_of c.args.rows.now c.args.id c.args.near c.requires.rises c.if-near-count.true c.requires.less

pub returns-then-id-id_at : goal.returns-then-id-id_at
returns-then-id-id_at g c =
    place_next g.T.HasId.id_of c.args.rows.now c.args.id c.args.near (c.args.near + 1) c.requires.rises (omega arith) c.requires.near c.requires.less (omega (arith, c.id_at.ensures, c.if-id-id_at.true))

pub returns-then-near-count-2 : goal.returns-then-near-count-2
returns-then-near-count-2 g c =
    place_last g.T.HasId.id_of c.args.rows.now c.args.id (c.args.near + 1) c.requires.rises (omega (arith, c.if-near-count-2.true)) (omega (arith, c.id_at.ensures, c.if-id-id_at.false))

pub returns-then-id-id_at-2 : goal.returns-then-id-id_at-2
returns-then-id-id_at-2 g c =
    place_next g.T.HasId.id_of c.args.rows.now c.args.id (c.args.near + 1) (c.args.near + 2) c.requires.rises (omega arith)
    (omega (arith, c.requires.near, c.if-near-count.false)) (omega (arith, c.id_at.ensures, c.if-id-id_at.false)) (omega (arith, c.id_at-2.ensures, c.if-id-id_at-2.true))
