use Rattle.id_iters.proofs.SeekLaws.{empty_ready}
use Rattle.id_iters.proofs.iter.Iter.of_none.Goals as goal

pub returns-clause-ready : goal.returns-clause-ready
returns-clause-ready c = λ held from. empty_ready held from
