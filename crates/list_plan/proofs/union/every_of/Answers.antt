use Rattle.std.proofs.Common.{◌≡◌, ◌∷◌, [], arith}
use Rattle.id_iters.specs.Fitting.{leaves_of}
use Rattle.id_iters.specs.Ready.{Ready}
use Rattle.list_plan.specs.Plans.{AllKnown, AllOpen}
use Rattle.list_plan.specs.declared.size.Planned.{Planned}
use Rattle.list_plan.proofs.AloneLaws.{alone, alone_has, each_alone, of_alone}
use Rattle.list_plan.proofs.union.every_of.Goals as goal

pub returns-clause-set : goal.returns-clause-set
returns-clause-set c = λ held id.
    let is : c.args.plans.items ≡ c.in-Some.planned ∷ [] = alone c.args.plans.items c.pop.new.self.items c.in-Some.planned c.in-Some.ensures.items (omega (arith, c.in-Some.ensures.cases)) in
    alone_has c.args.plans.items c.in-Some.planned is held id

pub returns-clause-ready : goal.returns-clause-ready
returns-clause-ready c = λ held from all.
    let is : c.args.plans.items ≡ c.in-Some.planned ∷ [] = alone c.args.plans.items c.pop.new.self.items c.in-Some.planned c.in-Some.ensures.items (omega (arith, c.in-Some.ensures.cases)) in
    of_alone (λ (planned : Planned). Ready held planned.iter from) c.args.plans.items c.in-Some.planned is all

pub returns-clause-placed : goal.returns-clause-placed
returns-clause-placed c = λ held after all.
    let is : c.args.plans.items ≡ c.in-Some.planned ∷ [] = alone c.args.plans.items c.pop.new.self.items c.in-Some.planned c.in-Some.ensures.items (omega (arith, c.in-Some.ensures.cases)) in
    of_alone (λ (planned : Planned). AllOpen held after (leaves_of planned.iter)) c.args.plans.items c.in-Some.planned is all

pub returns-clause-known : goal.returns-clause-known
returns-clause-known c = λ known all.
    let is : c.args.plans.items ≡ c.in-Some.planned ∷ [] = alone c.args.plans.items c.pop.new.self.items c.in-Some.planned c.in-Some.ensures.items (omega (arith, c.in-Some.ensures.cases)) in
    each_alone (λ (planned : Planned). AllKnown known (leaves_of planned.iter)) c.args.plans.items c.in-Some.planned is all
