use Rattle.std.proofs.Common.{◌++◌, ◌∙◌, ap, sym}
use Rattle.ft_index.specs.Parting.{ahead}
use Rattle.ft_index.specs.Picturing.{words_named}
use Rattle.ft_index.proofs.PartLaws.{takes-spent}
use Rattle.ft_index.proofs.parting.part_walk.Goals as goal

pub rows-preserved : goal.rows-preserved
rows-preserved g c rest =
    c.in_ok-part_word.ensures (words_named c.next.new.self ++ rest)
    ∙ (ap (λ left. ahead c.rows.part (words_named left ++ rest)) (sym c.in-Some.ensures) ∙ c.rows.invariant rest)

pub returns-then-is_spent : goal.returns-then-is_spent
returns-then-is_spent g c rest = takes-spent c.rows.part (words_named c.rows.walk) (sym c.is_spent.ensures ∙ c.if-is_spent.true) rest ∙ c.rows.invariant rest

pub returns : goal.returns
returns g c rest = ap (λ left. ahead c.rows.part (words_named left ++ rest)) (sym c.in_default.ensures.0) ∙ c.rows.invariant rest
