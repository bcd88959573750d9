use Rattle.std.specs.Prelude.{◌≡◌, ◌++◌, length}
use Rattle.ft_machine.specs.Reads.{values}
use Rattle.indexed_store.proofs.listings.all_values.Given as goal

-- the replies so far and those of the fields that are left are the whole
abbrev pub invariant-loop-value : goal.invariant-loop-value
invariant-loop-value l = l.replies.items ++ values l.walk ≡ values l.hash

abbrev pub decreases-loop-value : goal.decreases-loop-value
decreases-loop-value l = length l.walk
