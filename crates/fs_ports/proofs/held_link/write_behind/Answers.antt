use Rattle.std.proofs.Common.{Ok, ◌∙◌, sym, ap}
use Rattle.std.proofs.KnownBytes.{Keeps-trans, append_known-moved}
use Rattle.fs_ports.proofs.HeldLaws.{took-none, written-behind}
use Rattle.fs_ports.proofs.held_link.write_behind.Goals as goal

pub returns-in-None-clause-bytes : goal.returns-in-None-clause-bytes
returns-in-None-clause-bytes g c =
    let same = c.hold_first.ensures.left c.if-hold_first.false in
    let hands = c.try_hand_on.ensures.hands in
    let moved = append_known-moved _ _ hands.front _ _ hands.bytes (sym same ∙ hands.whole) in
    let none = took-none _ _ _ _ (c.in_ok-count.was ∙ ap Ok c.in-None.is) c.take_behind.ensures.bytes in
    written-behind _ _ _ _ _ (Keeps-trans _ _ _ moved none) c.write_waiting.ensures.bytes
