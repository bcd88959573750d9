use Rattle.std.proofs.Common.{List, subst}
use Rattle.ft_base.specs.declared.definition.Field.{Field}
use Rattle.ft_index.specs.Tagging.{TagsGain}
use Rattle.std.proofs.lemmas.Result.{on_ok_weaker}
use Rattle.ft_index.proofs.TagLaws.{tags-seen}
use Rattle.ft_index.proofs.tags.add_tags.Goals as goal

pub returns-clause-seen : goal.returns-clause-seen
returns-clause-seen c =
    on_ok_weaker c.add_all.result (λ added. tags-seen c.args.def.now c.args.doc.now c.args.lists.now c.add_all.new.lists c.requires.up_to c.requires.later
    (subst (λ (fields : List Field). TagsGain fields c.args.doc.now c.args.lists.now c.add_all.new.lists) c.as_slice.ensures added))
    c.add_all.ensures.ok
