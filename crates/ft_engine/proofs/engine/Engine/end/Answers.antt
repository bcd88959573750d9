use Rattle.std.proofs.Common.{ap, arith, false, ◌+◌, ◌∙◌}
use Rattle.ft_engine.proofs.EngineLaws.{ends, indexed}
use Rattle.ft_engine.specs.Stands.{Stands}
use Rattle.ft_engine.proofs.engine.Engine.end.Goals as goal

pub returns-then-self-lt-LAST_NUMBER-clause-indexed : goal.returns-then-self-lt-LAST_NUMBER-clause-indexed
returns-then-self-lt-LAST_NUMBER-clause-indexed c =
    let pending = ap (λ (e : Stands). e.pending) c.self.view_is ∙ c.requires.pending in
    indexed c.self.inside.held (c.self.inside.next + 1) false c.self.inside.last c.stand.ensures.keys c.stand.ensures.stand
    (omega (arith, ends c.self.inside.held.next c.self.inside.next c.self.inside.pending pending c.self.invariant.earlier, c.if-self-lt-LAST_NUMBER.true))

pub returns-else-self-lt-LAST_NUMBER-clause-indexed : goal.returns-else-self-lt-LAST_NUMBER-clause-indexed
returns-else-self-lt-LAST_NUMBER-clause-indexed c =
    let pending = ap (λ (e : Stands). e.pending) c.self.view_is ∙ c.requires.pending in
    indexed c.self.inside.held c.self.inside.next false c.self.inside.last c.stand.ensures.keys c.stand.ensures.stand
    (omega (arith, ends c.self.inside.held.next c.self.inside.next c.self.inside.pending pending c.self.invariant.earlier, c.if-self-lt-LAST_NUMBER.false))

pub returns-then-self-lt-LAST_NUMBER-clause-later : goal.returns-then-self-lt-LAST_NUMBER-clause-later
returns-then-self-lt-LAST_NUMBER-clause-later c = omega (arith, ap (λ (e : Stands). e.next) c.self.view_is)

pub returns-else-self-lt-LAST_NUMBER-clause-later : goal.returns-else-self-lt-LAST_NUMBER-clause-later
returns-else-self-lt-LAST_NUMBER-clause-later c = omega (arith, ap (λ (e : Stands). e.next) c.self.view_is)
