use Rattle.std.proofs.Common.{◌≡◌, ◌++◌}
use Rattle.std.specs.Map.{keys_of}
use Rattle.term_dict.proofs.tags.fields_of.Given as goal

-- what was taken and what is left are all fields
abbrev pub invariant-loop-field : goal.invariant-loop-field
invariant-loop-field l = record {
  can_next : (goal.iterator-loop-field).can_next l.field-iterator;
  is_finite : (goal.iterator-loop-field).is_finite l.field-iterator;
  taken : l.numbers.items ++ keys_of l.field-iterator ≡ keys_of l.fields.entries;
}
