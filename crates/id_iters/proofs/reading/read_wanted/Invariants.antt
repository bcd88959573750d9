use Rattle.std.proofs.Common.{◌-◌, ◌^◌}
use Rattle.id_iters.proofs.ReadingLaws.{Walked}
use Rattle.id_iters.proofs.reading.read_wanted.Given as goal

abbrev pub invariant-entries : goal.invariant-entries
invariant-entries g l = Walked g.P.Payload.spelled (g.H.HitTest.wants l.test) l.from l.block l.at l.before l.ids.items

abbrev pub decreases-entries : goal.decreases-entries
decreases-entries g l = 2 ^ 64 - l.before
