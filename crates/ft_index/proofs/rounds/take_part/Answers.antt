use Rattle.std.proofs.Common.{◌∙◌, ap, map}
use Rattle.ft_index.specs.Parting.{Behind}
use Rattle.ft_index.specs.Picturing.{shown}
use Rattle.ft_index.proofs.PartLaws.{empty-part, no-pictures, part-pictures}
use Rattle.ft_index.proofs.rounds.take_part.Goals as goal

pub returns-then-is_idle-clause-pictures : goal.returns-then-is_idle-clause-pictures
returns-then-is_idle-clause-pictures c = no-pictures c.args.lists.now c.new.result c.new.ensures

pub returns-then-is_idle-clause-part : goal.returns-then-is_idle-clause-part
returns-then-is_idle-clause-part c = empty-part c.args.lists.now c.new.result c.new.ensures

pub returns-clause-pictures : goal.returns-clause-pictures
returns-clause-pictures c =
    part-pictures c.args.lists.now _ c.go_on.result (ap (map shown) c.go_on.ensures ∙ c.in_ok-part.ensures.named) c.in_ok-part.ensures.ordered

pub returns-clause-part : goal.returns-clause-part
returns-clause-part c = Behind _ c.go_on.result (ap (map shown) c.go_on.ensures ∙ c.in_ok-part.ensures.named)
