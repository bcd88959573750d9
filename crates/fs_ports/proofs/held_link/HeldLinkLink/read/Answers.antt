use Rattle.std.proofs.Common.{sym, subst}
use Rattle.fs_ports.specs.Held.{IsReadableBelow}
use Rattle.fs_ports.proofs.held_link.HeldLinkLink.read.Goals as goal

pub read_behind-requires : goal.read_behind-requires
read_behind-requires g c = record { turn = subst (IsReadableBelow g.L.Link) (sym c.self.view_is) c.requires.turn }
