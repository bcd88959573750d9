use Rattle.std.proofs.Common.{◌∙◌, ap}
use Rattle.std.specs.List.{list_any}
use Rattle.std.specs.Str.{bytes_eq}
use Rattle.ft_schema.specs.Fields.{has_alias}
use Rattle.ft_schema.proofs.AliasLemmas.{has-field_aliases}
use Rattle.ft_schema.proofs.field_list.FieldList.has.Goals as goal

pub returns : goal.returns
returns c =
    c.has.ensures
    ∙ (ap (λ names. list_any (bytes_eq c.args.alias.now) names) c.self.inside.known
    ∙ (has-field_aliases c.args.alias.now c.self.inside.fields.items ∙ ap (λ fields. has_alias fields c.args.alias.now) c.self.view_is))
