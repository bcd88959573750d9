use Rattle.std.proofs.Common.{◌∙◌, ◌++◌, ◌∷◌, [], List, ap, map}
use Rattle.cmd_parse.specs.Seen.{filter_of}
use Rattle.ft_base.specs.declared.query.Query.{Query}
use Rattle.ft_engine.proofs.FilterLaws.{joined-holds}
use Rattle.ft_engine.proofs.indexes.filters.joined.Goals as goal

pub returns : goal.returns
returns c doc =
    joined-holds c.args.def.now doc c.args.query c.push.new.self.items c.add_ranges.new.parts.items c.from_vec.result _ _ c.from_vec.ensures
    (c.in_ok-push.ensures.items ∙ ap (λ (parts : List Query). parts ++ c.args.query ∷ []) c.new-parts.ensures.items)
    (ap (map filter_of) c.as_slice-filters.ensures) (c.in_ok-add_ranges.ensures doc)
