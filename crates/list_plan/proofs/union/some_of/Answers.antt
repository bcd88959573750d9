use Rattle.std.proofs.Common.{◌≡◌, [], subst, List, arith}
use Rattle.std.proofs.lemmas.Grind.{common_steps}
use Rattle.list_plan.specs.Plans.{Joins}
use Rattle.list_plan.specs.declared.size.Planned.{Planned}
use Rattle.list_plan.proofs.UnionLaws.{joins_again, joins_none, nil}
use Rattle.list_plan.proofs.union.some_of.Goals as goal

pub rounds-preserved : goal.rounds-preserved
rounds-preserved c = joins_again _ _ _ c.rounds.invariant c.in_ok-left.ensures.joins

pub returns : goal.returns
returns c =
    let none : c.rounds.left.items ≡ [] = nil c.rounds.left.items (omega (arith, c.in-None.ensures.cases.0)) in
    joins_again _ [] _ (subst (λ (xs : List Planned). Joins c.args.plans.items xs) none c.rounds.invariant) (joins_none c.none.result c.none.ensures.set c.none.ensures.ready c.none.ensures.leaves)

pub returns-in-Some : goal.returns-in-Some
returns-in-Some c = grind (arith, common_steps)
