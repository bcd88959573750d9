use Rattle.std.proofs.Common.{◌++◌, ◌∙◌, ap, map, sym}
use Rattle.term_dict.specs.Tags.{tags_of}
use Rattle.ft_index.specs.Picturing.{field_named, shown}
use Rattle.ft_index.proofs.CollectLaws.{rows-all}
use Rattle.ft_index.proofs.PictureLaws.{shown-end, shown-push}
use Rattle.ft_index.proofs.scanning.picture_field.Goals as goal

pub rows-init : goal.rows-init
rows-init c = ap (λ left. map shown c.args.all.now ++ field_named c.args.field left) (c.in_ok-walk.ensures ∙ rows-all (tags_of c.args.tags.now c.args.field))

pub rows-preserved : goal.rows-preserved
rows-preserved c =
    shown-push c.rows.all c.push.new.self c.in_ok-tag_picture.field-0 _ (field_named c.args.field c.next.new.self) c.in_ok-push.ensures.ok c.in_ok-tag_picture.ensures
    ∙ (ap (λ left. map shown c.rows.all ++ field_named c.args.field left) (sym c.in-Some.ensures) ∙ c.rows.invariant)

pub returns : goal.returns
returns c = shown-end c.rows.all (field_named c.args.field c.rows.walk) _ (ap (field_named c.args.field) c.in_default.ensures.0) c.rows.invariant
