use Rattle.id_iters.proofs.Layers.{leaves_or}
use Rattle.id_iters.proofs.SeekLaws.{fresh_union, or_ready}
use Rattle.id_iters.proofs.iter.Iter.of_some.Goals as goal

pub returns-clause-ready : goal.returns-clause-ready
returns-clause-ready c = λ held from ready. or_ready held c.args.parts c.new-stretch.result from (fresh_union held c.args.parts c.new-stretch.result from c.new-stretch.ensures.base c.new-stretch.ensures.limit ready)

pub returns-clause-leaves : goal.returns-clause-leaves
returns-clause-leaves c = leaves_or c.args.parts c.new-stretch.result
