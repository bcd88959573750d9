use Rattle.std.proofs.Common.{◌+◌, ◌++◌, ◌∙◌, ap, arith, drop, map, slice_index_or, sym}
use Rattle.std.proofs.lemmas.List.{drop_more}
use Rattle.term_dict.specs.Tags.{tags_of}
use Rattle.ft_index.specs.Picturing.{field_named, fields_named, shown}
use Rattle.ft_index.proofs.CollectLaws.{left-none}
use Rattle.ft_index.proofs.PictureLaws.{shown-end, shown-more}
use Rattle.ft_index.proofs.scanning.picture_tags.Goals as goal

pub loop-field-init : goal.loop-field-init
loop-field-init c = ap (λ fields. map shown c.args.all.now ++ fields_named c.args.tags.now fields) (c.as_slice-field-items.ensures.value ∙ c.in_ok-fields.ensures)

pub loop-field-preserved : goal.loop-field-preserved
loop-field-preserved c =
    let tags = c.args.tags.now in
    let fields = c.as_slice-field-items.result.now in
    let k = c.loop-field.field-index in
    let field = slice_index_or fields k 0 in
    shown-more c.loop-field.all c.picture_field.new.all (field_named field (tags_of tags field)) (fields_named tags (drop (k + 1) fields)) c.in_ok-picture_field.ensures
    ∙ (ap (λ left. map shown c.loop-field.all ++ fields_named tags left) (sym (drop_more fields k 0 c.loop-field-test.true)) ∙ c.loop-field.invariant)

pub returns-clause-named : goal.returns-clause-named
returns-clause-named c =
    let fields = c.as_slice-field-items.result.now in
    shown-end c.loop-field.all (fields_named c.args.tags.now (drop c.loop-field.field-index fields)) _
    (ap (fields_named c.args.tags.now) (left-none fields c.loop-field.field-index (omega (arith, c.loop-field-test.false)))) c.loop-field.invariant
