use Rattle.std.proofs.Common.{length}
use Rattle.worker_pool.specs.Names.{names_in}
use Rattle.worker_pool.proofs.RoundLaws.{Cycling}
use Rattle.worker_pool.proofs.rounds.collect_all.Given as goal

abbrev pub invariant-loop-name : goal.invariant-loop-name
invariant-loop-name g l =
    Cycling g.P.Pace l.server (names_in l.reply) l.names l.fn.pass l.fn.pace l.pass l.pace

abbrev pub decreases-loop-name : goal.decreases-loop-name
decreases-loop-name g l = length l.names
