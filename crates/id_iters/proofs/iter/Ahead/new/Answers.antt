use Rattle.id_iters.proofs.SeekLaws.{fresh_ahead}
use Rattle.id_iters.proofs.iter.Ahead.new.Goals as goal

pub returns-clause-ready : goal.returns-clause-ready
returns-clause-ready c = λ held from ready. fresh_ahead held c.args.iter from ready
