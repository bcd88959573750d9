use Rattle.std.proofs.Common.{ap, ◌∙◌}
use Rattle.std.specs.Option.{is_some}
use Rattle.ft_base.proofs.NamedLaws.{has-place}
use Rattle.ft_base.proofs.named_list.NamedList.has.Goals as goal

pub returns : goal.returns
returns g c = c.is_some.ensures ∙ ap is_some c.place.ensures ∙ has-place g.T.HasName.name_of c.args.self.now c.args.name.now
