use Rattle.std.proofs.Common.{◌≡◌, ◌≤◌, ◌+◌, false, length, vec_capacity}
use Rattle.std.specs.List.{All}
use Rattle.fs_ports.specs.Doors.{AtDoor}
use Rattle.system_ports.specs.Faults.{Faults}
use Rattle.system_ports.proofs.making.other_doors.Given as goal

abbrev pub invariant-loop : goal.invariant-loop
invariant-loop l =
    (length l.doors.items + 1 ≡ l.counter)
    × (l.fn.workers ≤ vec_capacity l.doors)
    × All (λ (door : AtDoor Faults). door.out ≡ false) l.doors.items
