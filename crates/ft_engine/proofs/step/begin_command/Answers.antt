use Rattle.std.proofs.Common.{ap, arith, true}
use Rattle.indexed_store.specs.Holding.{Holding}
use Rattle.ft_engine.proofs.EngineLaws.{indexed}
use Rattle.ft_engine.proofs.step.begin_command.Goals as goal

pub returns-clause-indexed : goal.returns-clause-indexed
returns-clause-indexed c = λ last.
    indexed c.prepare_command-change.new.held c.args.number true last c.stand-2.ensures.keys c.stand-2.ensures.stand
    (omega (arith, c.prepare_command-change.ensures.prepares.stays.next, c.requires.number, ap (λ (h : Holding). h.next) c.begin.ensures))
