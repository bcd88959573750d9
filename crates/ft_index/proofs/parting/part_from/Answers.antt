use Rattle.std.proofs.Common.{◌<◌, ◌∙◌, Some, ap, arith, sym}
use Rattle.id_iters.specs.declared.list_name.ListName.TheVariants as names
use Rattle.term_dict.specs.Tags.{tags_of}
use Rattle.ft_index.specs.Parting.{behind}
use Rattle.ft_index.specs.Picturing.{field_named}
use Rattle.ft_index.proofs.CollectLaws.{rows-all}
use Rattle.ft_index.proofs.PartLaws.{tags-ahead, tags-here, tags-passed, takes-none, takes-ok}
use Rattle.ft_index.proofs.parting.part_from.Goals as goal

pub returns-then-field-from : goal.returns-then-field-from
returns-then-field-from g c =
    let tags = tags_of c.args.tags.now c.args.field in
    takes-none c.args.part.now (behind (Some (names.Tag c.args.from c.args.text.now)) (field_named c.args.field tags)) (tags-passed c.args.field c.args.from c.args.text.now tags c.if-field-from.true)

pub returns-then-field-from-2 : goal.returns-then-field-from-2
returns-then-field-from-2 g c =
    let field = c.args.field in
    let tags = tags_of c.args.tags.now field in
    takes-ok c.part_rows.result (field_named field c.in_ok-walk.field-0) (behind (Some (names.Tag c.args.from c.args.text.now)) (field_named field tags)) c.args.part.now c.part_rows.new.part
    (ap (λ n. behind (Some (names.Tag n c.args.text.now)) (field_named field tags)) (sym c.if-field-from-2.true)
    ∙ (tags-here field c.args.text.now tags ∙ ap (field_named field) (sym c.in_ok-walk.ensures))) c.part_rows.ensures

pub returns : goal.returns
returns g c =
    let field = c.args.field in
    let tags = tags_of c.args.tags.now field in
    let above : c.args.from < field = omega (arith, c.if-field-from.false, c.if-field-from-2.false) in
    takes-ok c.part_rows-2.result (field_named field c.in_ok-walk-2.field-0) (behind (Some (names.Tag c.args.from c.args.text.now)) (field_named field tags)) c.args.part.now c.part_rows-2.new.part
    (tags-ahead field c.args.from c.args.text.now tags above ∙ ap (field_named field) (sym (c.in_ok-walk-2.ensures ∙ rows-all tags))) c.part_rows-2.ensures
