use Rattle.std.proofs.Common.{◌∙◌, ap, arith}
use Rattle.std.proofs.lemmas.Grind.{common_steps}
use Rattle.std.specs.List.{list_any}
use Rattle.std.specs.Str.{bytes_eq}
use Rattle.ft_schema.specs.Fields.{has_alias}
use Rattle.ft_schema.proofs.AliasLemmas.{has-field_aliases}
use Rattle.ft_schema.proofs.field_list.FieldList.with.Goals as goal

pub push-requires : goal.push-requires
push-requires c = record {
  new =
      ap (λ names. list_any (bytes_eq c.args.field.alias) names) c.self.inside.known
      ∙ (has-field_aliases c.args.field.alias c.self.inside.fields.items
      ∙ (ap (λ fields. has_alias fields c.args.field.alias) c.self.view_is ∙ c.requires.new));
}

pub overflow_add-texts : goal.overflow_add-texts
overflow_add-texts c = grind (arith, common_steps)

pub invariant_of-result : goal.invariant_of-result
invariant_of-result c = grind (arith, common_steps)
