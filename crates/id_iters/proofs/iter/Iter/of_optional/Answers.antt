use Rattle.id_iters.proofs.SeekLaws.{optional_ready}
use Rattle.id_iters.proofs.iter.Iter.of_optional.Goals as goal

pub returns-clause-ready : goal.returns-clause-ready
returns-clause-ready c = λ held from. optional_ready held _ from
