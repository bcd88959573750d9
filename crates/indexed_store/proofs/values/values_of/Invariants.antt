use Rattle.std.specs.Prelude.{◌≡◌, map, take}
use Rattle.ft_base.specs.Hash.{get_field}
use Rattle.ft_machine.specs.Reads.{value_reply}
use Rattle.indexed_store.proofs.values.values_of.Given as goal

-- the replies so far
abbrev pub invariant-loop-i : goal.invariant-loop-i
invariant-loop-i l = l.replies.items ≡ map (λ field. value_reply (get_field l.hash field)) (take l.i l.fields)
