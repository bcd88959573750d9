use Rattle.id_iters.proofs.SeekLaws.{phrase_ready}
use Rattle.id_iters.proofs.iter.Iter.of_phrase.Goals as goal

pub returns-clause-ready : goal.returns-clause-ready
returns-clause-ready c = λ held from ready. phrase_ready held c.args.phrase from ready
