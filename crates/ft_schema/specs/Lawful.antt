-- What holds of the fields of every index.
use Rattle.std.specs.Prelude.{◌<◌, ◌≤◌, List, length}
use Rattle.std.specs.List.{IsDistinct}
use Rattle.std.specs.Str.{bytes_eq}
use Rattle.ft_base.specs.declared.definition.Field.{Field}
use Rattle.ft_schema.specs.Limits.{most_fields, most_texts}
use Rattle.ft_schema.specs.FieldAliases.{field_aliases}
use Rattle.ft_schema.specs.Fields.{text_count}

-- there is one at least, they keep the limits, and no two have one alias
pub record IsLawful (fields : List Field) : Type 0 where
  pub some : 0 < length fields
  pub number : length fields ≤ most_fields
  pub texts : text_count fields ≤ most_texts
  pub distinct : IsDistinct bytes_eq (field_aliases fields)
