use Rattle.std.proofs.Common.{◌≤◌, length}
use Rattle.ft_base.proofs.PartsLaws.{Reads}
use Rattle.ft_schema.specs.Fields.{is_past_options, field_option_at, field_options_at}
use Rattle.ft_schema.proofs.field_options.options.Given as goal

-- what is read from here is what is read of all words
abbrev pub invariant-reading : goal.invariant-reading
invariant-reading l = record {
  reads : Reads (is_past_options l.kind) (field_option_at l.kind) l.given l.rest (field_options_at l.kind l.words);
  within : length l.rest ≤ length l.words;
}

abbrev pub decreases-reading : goal.decreases-reading
decreases-reading l = length l.rest
