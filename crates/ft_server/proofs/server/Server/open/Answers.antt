use Rattle.std.proofs.Common.{List, refl, sym, subst}
use Rattle.ft_engine.specs.Entries.{Entry, IsHistory}
use Rattle.ft_machine.specs.Clean.{empty_marked}
use Rattle.ft_server.proofs.server.Server.open.Goals as goal

pub returns-clause-of : goal.returns-clause-of
returns-clause-of c =
    let made = c.in_ok-gate.ensures in
    (made.gate.1, (empty_marked, subst (λ (seen : List Entry). IsHistory c.in_ok-gate.gate.first seen empty_marked) (sym made.pass.0) refl))
