use Rattle.std.specs.Prelude.{◌≡◌, ◌++◌, length}
use Rattle.ft_machine.specs.Reads.{names}
use Rattle.indexed_store.proofs.listings.names_of.Given as goal

-- the replies so far and those of the fields that are left are the whole
abbrev pub invariant-loop-field : goal.invariant-loop-field
invariant-loop-field l = l.replies.items ++ names l.walk ≡ names l.hash

abbrev pub decreases-loop-field : goal.decreases-loop-field
decreases-loop-field l = length l.walk
