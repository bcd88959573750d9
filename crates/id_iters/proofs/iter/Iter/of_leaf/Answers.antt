use Rattle.id_iters.proofs.SeekLaws.{leaf_ready}
use Rattle.id_iters.proofs.iter.Iter.of_leaf.Goals as goal

pub returns-clause-ready : goal.returns-clause-ready
returns-clause-ready c = λ held from ready. leaf_ready held c.args.leaf from ready
