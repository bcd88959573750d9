use Rattle.std.specs.Prelude.{◌≡◌, length}
use Rattle.ft_meaning.specs.Member.{members}
use Rattle.field_text.specs.Seen.{seen}
use Rattle.ft_machine.specs.TagValues.{all_tags, tag_values, with_tags}
use Rattle.ft_engine.proofs.indexes.tag_walk.tag_values.Given as goal

-- the tags so far, with those of the members that are left, are all
abbrev pub invariant-walking : goal.invariant-walking
invariant-walking l = with_tags (seen l.found.keys) (all_tags l.field (members l.def l.docs)) ≡ tag_values l.def l.field l.fn.store.space

abbrev pub decreases-walking : goal.decreases-walking
decreases-walking l = length l.docs
