use Rattle.std.proofs.Common.{[]}
use Rattle.turn_gate.proofs.gate.Gate.split.Given as goal

abbrev pub ghosts-count_passes : goal.ghosts-count_passes
ghosts-count_passes g a = record { caller = a.seat.now.id; added = [] }

abbrev pub ghosts-compare_number : goal.ghosts-compare_number
ghosts-compare_number g a = record { caller = a.seat.now.id; added = [] }
