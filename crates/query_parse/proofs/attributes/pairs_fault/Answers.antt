use Rattle.std.proofs.Common.{sym, ◌∙◌, arith}
use Rattle.std.proofs.lemmas.Grind.{common_steps}
use Rattle.query_parse.proofs.FaultLemmas.{fault-found}
use Rattle.query_parse.proofs.attributes.pairs_fault.Goals as goal

pub returns-in-Some : goal.returns-in-Some
returns-in-Some c = sym (fault-found c.args.params.now c.args.pairs.now c.loop-pair.pair-index c.pair-item.result c.in-Some.fault (omega arith) c.pair-item.is (sym c.pair_fault.ensures ∙ c.in-Some.is)) ∙ c.loop-pair.invariant

pub loop-pair-preserved : goal.loop-pair-preserved
loop-pair-preserved c = grind (arith, common_steps)

pub returns : goal.returns
returns c = grind (arith, common_steps)
