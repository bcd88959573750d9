use Rattle.std.proofs.Common.{length}
use Rattle.ft_schema.specs.Options.{is_at_schema, option_at, options_at}
use Rattle.ft_base.proofs.PartsLaws.{Reads}
use Rattle.ft_schema.proofs.index_options.options.Given as goal

-- what is read from here is what is read of all words
abbrev pub invariant-reading : goal.invariant-reading
invariant-reading l = Reads is_at_schema option_at l.given l.rest (options_at l.words)

abbrev pub decreases-reading : goal.decreases-reading
decreases-reading l = length l.rest
