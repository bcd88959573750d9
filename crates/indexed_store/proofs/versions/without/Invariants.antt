use Rattle.std.proofs.Common.{List, ℕ, length}
use Rattle.std.specs.Prelude.{is_some, not}
use Rattle.ft_base.specs.Hash.{get_field}
use Rattle.indexed_store.proofs.VersionsLaws.{Copies}
use Rattle.indexed_store.proofs.versions.without.Given as goal

-- the fields so far are copied but for those of the other hash
abbrev pub invariant-loop-field : goal.invariant-loop-field
invariant-loop-field l = Copies (λ (field : List ℕ × List ℕ). not (is_some (get_field l.gone field.0))) l.hash l.left l.walk

abbrev pub decreases-loop-field : goal.decreases-loop-field
decreases-loop-field l = length l.walk
