use Rattle.std.proofs.Common.{ap, sym, ◌∙◌}
use Rattle.ft_base.specs.Named.{noted_at}
use Rattle.ft_base.proofs.NamedLaws.{noted-lookup}
use Rattle.ft_base.proofs.places.Places.get.Goals as goal

pub returns : goal.returns
returns c = c.copied.ensures ∙ c.get.ensures.value ∙ sym (noted-lookup c.self.inside.first.entries c.args.name.now) ∙ ap (λ places. noted_at places c.args.name.now) c.self.view_is
