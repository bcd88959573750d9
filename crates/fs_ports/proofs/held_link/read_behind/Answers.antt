use Rattle.std.proofs.Common.{Ok, ◌∙◌, ap, arith}
use Rattle.fs_ports.proofs.HeldLaws.{gave-none, hands-again, hands-still}
use Rattle.fs_ports.proofs.held_link.read_behind.Goals as goal

pub read-requires : goal.read-requires
read-requires g c = record { turn = c.requires.turn _ _ (hands-again g.L.Link _ _ _ _ _ _ c.trying.invariant.hands c.try_hand_on.ensures.hands) }

pub try_read-requires : goal.try_read-requires
try_read-requires g c = record { turn = c.requires.turn _ _ (hands-again g.L.Link _ _ _ _ _ _ c.trying.invariant.hands c.try_hand_on.ensures.hands) }

pub trying-preserved : goal.trying-preserved
trying-preserved g c =
    let none = c.in_default.is in
    let told = c.in_ok-count.ensures in
    record {
      hands = hands-still g.L.Link _ _ _ _ _ (hands-again g.L.Link _ _ _ _ _ _ c.trying.invariant.hands c.try_hand_on.ensures.hands)
          (gave-none _ _ _ _ (c.in_ok-count.was ∙ ap Ok none) c.try_read.ensures.bytes) told.written told.other (told.none none);
      stalled = omega (arith, c.trying.invariant.stalled, c.try_hand_on.ensures.stalled, told.stalled);
    }

pub read-requires-2 : goal.read-requires-2
read-requires-2 g c = record { turn = c.requires.turn _ _ (hands-again g.L.Link _ _ _ _ _ _ c.trying.invariant.hands c.hand_on.ensures.hands) }
