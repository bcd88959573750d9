use Rattle.std.proofs.Common.{arith}
use Rattle.std.proofs.lemmas.Grind.{common_steps}
use Rattle.std.proofs.lemmas.List.Elements.{filter_map-append}
use Rattle.search_exec.proofs.candidates.look_up.Goals as goal

pub keys-preserved : goal.keys-preserved
keys-preserved c = grind (arith, common_steps, filter_map-append)

pub returns : goal.returns
returns c = grind (arith, common_steps)
