-- The kind of field that a target needs.
use Rattle.std.specs.Prelude.{Bool}
use Rattle.ft_base.specs.Kinds.{is_numeric, is_tag, is_text}
use Rattle.ft_base.specs.declared.definition.FieldKind.{FieldKind}
use Rattle.query_parse.specs.declared.fields.Needed.{Needed}
use Rattle.query_parse.specs.declared.fields.Needed.TheVariants.{Text, Tag, Numeric}

-- whether a field of this kind is one that is needed
abbrev pub passes : Needed → FieldKind → Bool
passes Text = is_text
passes Tag = is_tag
passes Numeric = is_numeric
