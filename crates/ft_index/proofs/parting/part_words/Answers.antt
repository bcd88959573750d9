use Rattle.std.proofs.Common.{◌≡◌, ◌∙◌, Some, ap, rules, sym}
use Rattle.std.specs.Option.{option_copied}
use Rattle.id_iters.specs.declared.list_name.ListName.TheVariants as names
use Rattle.ft_index.specs.Parting.{behind}
use Rattle.ft_index.specs.Picturing.{words_named}
use Rattle.ft_index.proofs.CollectLaws.{rows-all}
use Rattle.ft_index.proofs.PartLaws.{behind-none, takes-none, takes-ok, words-after, words-passed_range, words-passed_tag}
use Rattle.ft_index.proofs.parting.part_words.Goals as goal

pub returns-in_ok-walk-in-None-clause-takes : goal.returns-in_ok-walk-in-None-clause-takes
returns-in_ok-walk-in-None-clause-takes g c =
    let all = words_named c.args.terms.now in
    takes-ok c.part_walk.result (words_named c.in_ok-walk-in-None.field-0) (behind (option_copied c.args.hand) all) c.args.part.now c.part_walk.new.part
    (ap (λ hand. behind (option_copied hand) all) c.in-None.is ∙ (behind-none all ∙ ap words_named (sym (c.in_ok-walk-in-None.ensures ∙ rows-all c.args.terms.now)))) c.part_walk.ensures

pub returns-in_ok-walk-in-Some-Word-clause-takes : goal.returns-in_ok-walk-in-Some-Word-clause-takes
returns-in_ok-walk-in-Some-Word-clause-takes g c =
    let all = words_named c.args.terms.now in
    let hand : option_copied c.args.hand ≡ Some (names.Word c.as_slice.result.now) = search rules in
    takes-ok c.part_walk-in-Some-Word.result (words_named c.in_ok-walk-in-Some-Word.field-0) (behind (option_copied c.args.hand) all) c.args.part.now c.part_walk-in-Some-Word.new.part
    (ap (λ after. behind after all) hand ∙ (words-after c.as_slice.result.now c.args.terms.now ∙ ap words_named (sym c.in_ok-walk-in-Some-Word.ensures))) c.part_walk-in-Some-Word.ensures

pub returns-in-Some-Tag-clause-takes : goal.returns-in-Some-Tag-clause-takes
returns-in-Some-Tag-clause-takes g c =
    let all = words_named c.args.terms.now in
    let hand : option_copied c.args.hand ≡ Some (names.Tag c.in-Some-Tag.field-0-0 c.in-Some-Tag.field-0-1) = search rules in
    takes-none c.args.part.now (behind (option_copied c.args.hand) all) (ap (λ after. behind after all) hand ∙ words-passed_tag c.in-Some-Tag.field-0-0 c.in-Some-Tag.field-0-1 c.args.terms.now)

pub returns-in-Some-Range-clause-takes : goal.returns-in-Some-Range-clause-takes
returns-in-Some-Range-clause-takes g c =
    let all = words_named c.args.terms.now in
    let hand : option_copied c.args.hand ≡ Some (names.Range c.in-Some-Range.field-0-0 c.in-Some-Range.field-0-1) = search rules in
    takes-none c.args.part.now (behind (option_copied c.args.hand) all) (ap (λ after. behind after all) hand ∙ words-passed_range c.in-Some-Range.field-0-0 c.in-Some-Range.field-0-1 c.args.terms.now)
