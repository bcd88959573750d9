use Rattle.std.proofs.Common.{◌≡◌, ◌≤◌, length}
use Rattle.std.specs.Vec.{vec_capacity}
use Rattle.ft_server.proofs.outs.Outs.open.Given as goal

-- there is room for all that are left
abbrev pub invariant-loop : goal.invariant-loop
invariant-loop l = (length l.items.items ≡ l.counter) × (l.count ≤ vec_capacity l.items)
