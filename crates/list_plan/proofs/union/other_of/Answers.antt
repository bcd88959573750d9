use Rattle.std.proofs.Common.{ℕ, Bool, ap}
use Rattle.list_plan.proofs.union.other_of.Goals as goal

pub returns-clause-set : goal.returns-clause-set
returns-clause-set c = λ held id. ap (λ (has : ℕ → Bool). has id) (c.in_ok-of_other.ensures.set held)
