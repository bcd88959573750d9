use Rattle.std.proofs.Common.{◌≡◌, ◌∙◌, Some, ap, rules, sym}
use Rattle.std.specs.Option.{option_copied}
use Rattle.id_iters.specs.declared.list_name.ListName.TheVariants as names
use Rattle.term_dict.specs.Tags.{tags_of}
use Rattle.ft_index.specs.Parting.{behind}
use Rattle.ft_index.specs.Picturing.{field_named}
use Rattle.ft_index.proofs.CollectLaws.{rows-all}
use Rattle.ft_index.proofs.PartLaws.{behind-none, takes-none, takes-ok, tags-passed_range, tags-past_words}
use Rattle.ft_index.proofs.parting.part_field.Goals as goal

pub returns-in_ok-walk-in-None : goal.returns-in_ok-walk-in-None
returns-in_ok-walk-in-None g c =
    let field = c.args.field in
    let tags = tags_of c.args.tags.now field in
    let all = field_named field tags in
    takes-ok c.part_rows.result (field_named field c.in_ok-walk-in-None.field-0) (behind (option_copied c.args.hand) all) c.args.part.now c.part_rows.new.part
    (ap (λ hand. behind (option_copied hand) all) c.in-None.is ∙ (behind-none all ∙ ap (field_named field) (sym (c.in_ok-walk-in-None.ensures ∙ rows-all tags)))) c.part_rows.ensures

pub returns-in_ok-walk-in-Some-Word : goal.returns-in_ok-walk-in-Some-Word
returns-in_ok-walk-in-Some-Word g c =
    let field = c.args.field in
    let tags = tags_of c.args.tags.now field in
    let all = field_named field tags in
    let hand : option_copied c.args.hand ≡ Some (names.Word c.in-Some-Word.field-0-0) = search rules in
    takes-ok c.part_rows-in-Some-Word.result (field_named field c.in_ok-walk-in-Some-Word.field-0) (behind (option_copied c.args.hand) all) c.args.part.now c.part_rows-in-Some-Word.new.part
    (ap (λ after. behind after all) hand ∙ (tags-past_words field c.in-Some-Word.field-0-0 tags ∙ ap (field_named field) (sym (c.in_ok-walk-in-Some-Word.ensures ∙ rows-all tags))))
    c.part_rows-in-Some-Word.ensures

pub returns-in-Some-Range : goal.returns-in-Some-Range
returns-in-Some-Range g c =
    let tags = tags_of c.args.tags.now c.args.field in
    let all = field_named c.args.field tags in
    let hand : option_copied c.args.hand ≡ Some (names.Range c.in-Some-Range.field-0-0 c.in-Some-Range.field-0-1) = search rules in
    takes-none c.args.part.now (behind (option_copied c.args.hand) all)
    (ap (λ after. behind after all) hand ∙ tags-passed_range c.args.field c.in-Some-Range.field-0-0 c.in-Some-Range.field-0-1 tags)
