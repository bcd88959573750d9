use Rattle.std.proofs.Common.{ap}
use Rattle.ft_engine.specs.Stands.{Stands}
use Rattle.ft_engine.proofs.MovesLaws.{moves-still}
use Rattle.ft_engine.proofs.engine.Engine.abandon.Goals as goal

pub returns-clause-moves : goal.returns-clause-moves
returns-clause-moves c = moves-still c.args.self.now c.end.new.self c.end.ensures.later (ap (λ (e : Stands). e.indexes) c.end.ensures.ended)
