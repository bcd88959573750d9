use Rattle.std.proofs.Common.{◌∙◌, sym, ap}
use Rattle.term_dict.specs.Tags.{FieldTags, first_field}
use Rattle.term_dict.proofs.TagLaws.{first_from, head_field}
use Rattle.term_dict.proofs.tags.TagLists.next_field.Goals as goal

pub returns-in_err-field : goal.returns-in_err-field
returns-in_err-field c =
    c.from_residual.ensures
    ∙ sym (ap (λ (rows : FieldTags). first_field c.args.from rows) (sym c.self.view_is)
    ∙ (first_from c.args.from c.self.inside.fields.entries ∙ ap head_field (sym (c.range.ensures.between tt) ∙ c.in_err-field.ensures.steps.0)))

pub returns : goal.returns
returns c =
    sym (ap (λ (rows : FieldTags). first_field c.args.from rows) (sym c.self.view_is)
    ∙ (first_from c.args.from c.self.inside.fields.entries ∙ ap head_field (sym (c.range.ensures.between tt) ∙ c.in_ok-field.ensures.steps)))
