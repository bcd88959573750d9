use Rattle.std.proofs.Common.{refl}
use Rattle.agg_pipeline.proofs.EqualLaws.{all_equal_from, all_equal_to, equal_from, equal_to}
use Rattle.agg_pipeline.proofs.laws.equal_values.Goals as goal

pub returns-clause-one : goal.returns-clause-one
returns-clause-one c = equal_from

pub returns-clause-itself : goal.returns-clause-itself
returns-clause-itself c = λ v. equal_to v v refl

pub returns-clause-several : goal.returns-clause-several
returns-clause-several c = all_equal_from

pub returns-clause-themselves : goal.returns-clause-themselves
returns-clause-themselves c = λ vs. all_equal_to vs vs refl
