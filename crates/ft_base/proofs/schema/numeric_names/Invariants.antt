use Rattle.std.proofs.Common.{◌≡◌, take}
use Rattle.ft_base.specs.Numerics.{numeric_names}
use Rattle.ft_base.proofs.schema.numeric_names.Given as goal

-- those of the fields so far
abbrev pub invariant-loop-field : goal.invariant-loop-field
invariant-loop-field l = l.names ≡ numeric_names (take l.field-index l.fields)
