use Rattle.std.proofs.Common.{◌≡◌, take}
use Rattle.ft_schema.proofs.extension.byte_copies.Given as goal

-- the items so far are copied
abbrev pub invariant-loop-item : goal.invariant-loop-item
invariant-loop-item l = l.copies.items ≡ take l.item-index l.items
