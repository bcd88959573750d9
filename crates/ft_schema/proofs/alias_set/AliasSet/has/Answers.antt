use Rattle.std.proofs.Common.{◌∙◌, ap}
use Rattle.std.specs.List.{list_any}
use Rattle.std.specs.Str.{bytes_eq}
use Rattle.ft_schema.proofs.AliasLemmas.{has-aliases_of}
use Rattle.ft_schema.proofs.alias_set.AliasSet.has.Goals as goal

pub returns : goal.returns
returns c =
    c.contains.ensures ∙ (has-aliases_of c.args.alias.now c.self.inside.known.keys ∙ ap (λ names. list_any (bytes_eq c.args.alias.now) names) c.self.view_is)
