use Rattle.std.proofs.Common.{arith, ◌+◌, ◌-◌}
use Rattle.id_rows.proofs.PlaceLaws.{above_behind, below_before}
use Rattle.id_rows.proofs.near.leap.Goals as goal

pub halve-requires-clause-from : goal.halve-requires-clause-from
halve-requires-clause-from g c =
    λ k before. below_before g.T.HasId.id_of c.args.rows.now c.args.id c.leaps.known c.requires.rises c.leaps.invariant.within c.leaps.invariant.less k (omega (arith, before))

pub halve-requires-clause-to : goal.halve-requires-clause-to
halve-requires-clause-to g c =
    above_behind g.T.HasId.id_of c.args.rows.now c.args.id (c.leaps.known + (c.leaps.known - c.args.near)) c.requires.rises (omega (arith, c.id_at.ensures, c.if-id-id_at.true))
