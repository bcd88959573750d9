use Rattle.id_iters.proofs.Layers.{leaves_and}
use Rattle.id_iters.proofs.SeekLaws.{and_ready}
use Rattle.id_iters.proofs.iter.Iter.of_every.Goals as goal

pub returns-clause-ready : goal.returns-clause-ready
returns-clause-ready c = λ held from ready. and_ready held c.args.parts from ready

pub returns-clause-leaves : goal.returns-clause-leaves
returns-clause-leaves c = leaves_and c.args.parts
