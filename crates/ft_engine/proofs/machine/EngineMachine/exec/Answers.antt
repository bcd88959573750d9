use Rattle.ft_engine.proofs.PictureLaws.{good-moves}
use Rattle.ft_engine.proofs.machine.EngineMachine.exec.Goals as goal

pub returns-clause-keeps : goal.returns-clause-keeps
returns-clause-keeps c = λ picture good. good-moves c.args.self.now c.exec.new.self picture c.exec.ensures.moves good
