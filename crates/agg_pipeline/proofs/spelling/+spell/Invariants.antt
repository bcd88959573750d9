use Rattle.std.proofs.Common.{◌≡◌, ◌++◌, map, drop}
use Rattle.ft_base.specs.Reply.{joined}
use Rattle.agg_pipeline.specs.Equal.{spelled}
use Rattle.agg_pipeline.proofs.spelling.+spell.Given as goal

-- what is written and what is left are the whole
abbrev pub invariant-spell_list-loop-value : goal.invariant-spell_list-loop-value
invariant-spell_list-loop-value l = l.out.items ++ joined (map spelled (drop l.value-index l.values)) ≡ l.initial.out.items ++ joined (map spelled l.values)
