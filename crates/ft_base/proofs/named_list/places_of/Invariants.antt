use Rattle.std.proofs.Common.{take}
use Rattle.ft_base.specs.Named.{FindsFirst}
use Rattle.ft_base.proofs.named_list.places_of.Given as goal

-- the places of the items so far
abbrev pub invariant-loop-i : goal.invariant-loop-i
invariant-loop-i g l = FindsFirst g.T.HasName.name_of (take l.i l.items) l.places
