use Rattle.std.proofs.Common.{arith}
use Rattle.query_parse.proofs.Naming.{begins}
use Rattle.query_parse.proofs.fields.names.Goals as goal

pub naming-init : goal.naming-init
naming-init c = record { reads = rw c.new-numbers.ensures.items (begins _ _ _); within = omega arith }
