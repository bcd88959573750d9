use Rattle.id_iters.proofs.SeekLaws.{all_ready}
use Rattle.id_iters.proofs.iter.Iter.of_all.Goals as goal

pub returns-clause-ready : goal.returns-clause-ready
returns-clause-ready c = λ held from. all_ready held from
