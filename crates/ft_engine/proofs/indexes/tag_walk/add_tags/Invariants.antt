use Rattle.std.specs.Prelude.{◌≡◌}
use Rattle.field_text.specs.Seen.{seen}
use Rattle.ft_machine.specs.TagValues.{with_tags}
use Rattle.ft_engine.proofs.indexes.tag_walk.add_tags.Given as goal

abbrev pub invariant-adding : goal.invariant-adding
invariant-adding l = seen l.found.keys ≡ with_tags (seen l.fn.found.keys) l.yielded
