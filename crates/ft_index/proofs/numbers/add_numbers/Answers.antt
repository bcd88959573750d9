use Rattle.std.proofs.Common.{List, subst}
use Rattle.std.proofs.lemmas.Result.{on_ok_weaker}
use Rattle.ft_base.specs.declared.definition.Field.{Field}
use Rattle.ft_index.specs.Numbering.{RangesGain}
use Rattle.ft_index.proofs.NumberLaws.{numbers-seen}
use Rattle.ft_index.proofs.numbers.add_numbers.Goals as goal

pub returns-clause-unseen : goal.returns-clause-unseen
returns-clause-unseen c = c.add_all.ensures.unseen c.args.def.now

pub returns-clause-seen : goal.returns-clause-seen
returns-clause-seen c =
    on_ok_weaker c.add_all.result (λ gains. numbers-seen c.args.def.now c.args.doc.now c.args.ranges.now c.add_all.new.ranges c.requires.later
    (subst (λ (fields : List Field). RangesGain fields c.args.doc.now c.args.ranges.now c.add_all.new.ranges) c.as_slice.ensures gains))
    c.add_all.ensures.ok
