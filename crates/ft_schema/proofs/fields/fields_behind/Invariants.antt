use Rattle.std.proofs.Common.{[], length}
use Rattle.ft_base.specs.Reading.{parts_at}
use Rattle.ft_schema.specs.Fields.{is_at_end, next_field_at}
use Rattle.ft_base.proofs.PartsLaws.{Reads}
use Rattle.ft_schema.proofs.fields.fields_behind.Given as goal

-- what is read from here is what is read of all words
abbrev pub invariant-reading : goal.invariant-reading
invariant-reading l = Reads is_at_end next_field_at l.before l.rest (parts_at is_at_end next_field_at [] l.words)

abbrev pub decreases-reading : goal.decreases-reading
decreases-reading l = length l.rest
