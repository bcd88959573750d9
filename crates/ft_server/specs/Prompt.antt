-- When a link is read.
use Rattle.fs_ports.specs.declared.clock.Clock as Clock
use Rattle.fs_ports.specs.declared.link.Link as Link
use Rattle.ft_engine.specs.Entries.{Entry}
use Rattle.turn_gate.specs.Known.{GateName, Known}
use Rattle.ft_server.specs.Callers.{Called}
use Rattle.ft_server.specs.Passes.{IsOf}
use Rattle.ft_server.specs.Session.{AllAnswered, told}

-- From here on the link may be read where all that came whole was answered: as the caller of this pass, whatever the pass
-- has seen by then.
abbrev pub MayBeRead : {L C : Type 0} → Link.Ghosts L → Clock.Ghosts C → GateName → Known Entry → L → C → Type 0
MayBeRead {L} {C} port watch server pass link clock = (later : Known Entry) (now : L) (moment : C) → IsOf server later
    → AllAnswered (Called pass later) (told port watch link clock) (told port watch now moment) → port.readable now
