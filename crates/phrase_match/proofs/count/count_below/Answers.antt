use Rattle.std.proofs.Common.{ap, ◌∙◌}
use Rattle.std.proofs.lemmas.List.{take_rest}
use Rattle.phrase_match.specs.Phrase.{rises}
use Rattle.phrase_match.proofs.SearchLaws.{rises_drop, behind_passed}
use Rattle.phrase_match.proofs.count.count_below.Goals as goal

pub count_near-requires : goal.count_near-requires
count_near-requires c = ap rises (take_rest c.args.list.now c.passed-start.result) ∙ rises_drop c.passed-start.result c.args.list.now c.requires

pub returns-clause-is : goal.returns-clause-is
returns-clause-is c = behind_passed c.args.low c.passed-start.result c.count_near.result c.args.list.now c.requires c.passed-start.ensures.bound c.passed-start.ensures.below c.count_near.ensures.is
