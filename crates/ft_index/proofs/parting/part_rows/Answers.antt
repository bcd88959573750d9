use Rattle.std.proofs.Common.{◌++◌, ◌∙◌, ap, sym}
use Rattle.ft_index.specs.Parting.{ahead}
use Rattle.ft_index.specs.Picturing.{field_named}
use Rattle.ft_index.proofs.PartLaws.{takes-spent}
use Rattle.ft_index.proofs.parting.part_rows.Goals as goal

pub rows-preserved : goal.rows-preserved
rows-preserved g c rest =
    c.in_ok-part_tag.ensures (field_named c.args.field c.next.new.self ++ rest)
    ∙ (ap (λ left. ahead c.rows.part (field_named c.args.field left ++ rest)) (sym c.in-Some.ensures) ∙ c.rows.invariant rest)

pub returns-then-is_spent : goal.returns-then-is_spent
returns-then-is_spent g c rest = takes-spent c.rows.part (field_named c.args.field c.rows.walk) (sym c.is_spent.ensures ∙ c.if-is_spent.true) rest ∙ c.rows.invariant rest

pub returns : goal.returns
returns g c rest = ap (λ left. ahead c.rows.part (field_named c.args.field left ++ rest)) (sym c.in_default.ensures.0) ∙ c.rows.invariant rest
