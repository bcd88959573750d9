use Rattle.std.proofs.Common.{◌≡◌, ◌≤◌, length}
use Rattle.std.specs.Arc.{arc_value}
use Rattle.std.specs.Vec.{vec_capacity}
use Rattle.ft_engine.specs.Pictures.{shown_first}
use Rattle.ft_engine.proofs.machine.lists_of.Given as goal

-- the pictures so far
abbrev pub invariant-loop-at : goal.invariant-loop-at
invariant-loop-at l = (l.lists.items ≡ shown_first (arc_value l.shared) l.at) × (length l.lists.items ≡ l.at) × (l.count ≤ vec_capacity l.lists)
