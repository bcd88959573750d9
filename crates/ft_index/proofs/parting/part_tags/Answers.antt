use Rattle.std.proofs.Common.{◌+◌, ◌++◌, ◌∙◌, ap, arith, drop, slice_index_or, sym}
use Rattle.std.proofs.lemmas.List.{drop_more}
use Rattle.std.specs.Map.{keys_of}
use Rattle.std.specs.Option.{option_copied}
use Rattle.term_dict.specs.Tags.{tags_of}
use Rattle.ft_index.specs.Parting.{ahead, behind}
use Rattle.ft_index.specs.Picturing.{field_named, fields_named}
use Rattle.ft_index.proofs.CollectLaws.{left-none}
use Rattle.ft_index.proofs.PartLaws.{takes-end, takes-front}
use Rattle.ft_index.proofs.parting.part_tags.Goals as goal

pub loop-field-init : goal.loop-field-init
loop-field-init g c rest =
    ap (λ fields. ahead c.args.part.now (behind (option_copied c.args.hand) (fields_named c.args.tags.now fields) ++ rest)) (c.as_slice-field-items.ensures.value ∙ c.in_ok-fields.ensures)

pub loop-field-preserved : goal.loop-field-preserved
loop-field-preserved g c rest =
    let tags = c.args.tags.now in
    let fields = c.as_slice-field-items.result.now in
    let k = c.loop-field.field-index in
    let field = slice_index_or fields k 0 in
    let hand = option_copied c.args.hand in
    takes-front hand (field_named field (tags_of tags field)) (fields_named tags (drop (k + 1) fields)) c.loop-field.part c.part_field.new.part c.in_ok-part_field.ensures rest
    ∙ (ap (λ left. ahead c.loop-field.part (behind hand (fields_named tags left) ++ rest)) (sym (drop_more fields k 0 c.loop-field-test.true)) ∙ c.loop-field.invariant rest)

pub returns-clause-takes : goal.returns-clause-takes
returns-clause-takes g c =
    let tags = c.args.tags.now in
    let fields = c.as_slice-field-items.result.now in
    let hand = option_copied c.args.hand in
    takes-end hand (fields_named tags (drop c.loop-field.field-index fields)) (behind hand (fields_named tags (keys_of tags))) c.args.part.now c.loop-field.part
    (ap (fields_named tags) (left-none fields c.loop-field.field-index (omega (arith, c.loop-field-test.false)))) c.loop-field.invariant
