use Rattle.std.proofs.Common.{◌≡◌, ◌++◌, take}
use Rattle.ft_schema.proofs.extension.push_copies.Given as goal

-- the fields so far are copied
abbrev pub invariant-loop-field : goal.invariant-loop-field
invariant-loop-field l = l.out.items ≡ l.initial.out.items ++ take l.field-index l.fields
