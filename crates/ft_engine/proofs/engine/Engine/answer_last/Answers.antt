use Rattle.std.proofs.Common.{ap, true, ◌∙◌}
use Rattle.ft_engine.proofs.EngineLaws.{begins, indexed}
use Rattle.ft_engine.specs.Stands.{Stands}
use Rattle.ft_engine.proofs.engine.Engine.answer_last.Goals as goal

pub returns-clause-indexed : goal.returns-clause-indexed
returns-clause-indexed c =
    indexed c.self.inside.held c.self.inside.next true c.self.inside.last c.stand.ensures.keys c.stand.ensures.stand
    (begins c.self.inside.held.next c.self.inside.next c.self.inside.pending (ap (λ (e : Stands). e.pending) c.self.view_is ∙ c.requires.free) c.self.invariant.number c.self.invariant.earlier)
