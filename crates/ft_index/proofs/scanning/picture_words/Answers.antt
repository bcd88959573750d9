use Rattle.std.proofs.Common.{◌++◌, ◌∙◌, ap, map, sym}
use Rattle.ft_index.specs.Picturing.{shown, words_named}
use Rattle.ft_index.proofs.CollectLaws.{rows-all}
use Rattle.ft_index.proofs.PictureLaws.{shown-end, shown-push}
use Rattle.ft_index.proofs.scanning.picture_words.Goals as goal

pub rows-init : goal.rows-init
rows-init c = ap (λ left. map shown c.args.all.now ++ words_named left) (c.in_ok-walk.ensures ∙ rows-all c.args.terms.now)

pub rows-preserved : goal.rows-preserved
rows-preserved c =
    shown-push c.rows.all c.push.new.self c.in_ok-word_picture.field-0 _ (words_named c.next.new.self) c.in_ok-push.ensures.ok c.in_ok-word_picture.ensures
    ∙ (ap (λ left. map shown c.rows.all ++ words_named left) (sym c.in-Some.ensures) ∙ c.rows.invariant)

pub returns-clause-named : goal.returns-clause-named
returns-clause-named c = shown-end c.rows.all (words_named c.rows.walk) _ (ap words_named c.in_default.ensures.0) c.rows.invariant
