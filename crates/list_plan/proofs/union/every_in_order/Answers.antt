use Rattle.std.proofs.Common.{◌≡◌, ◌∙◌, map, ap, rules, ℕ, Bool}
use Rattle.list_plan.specs.declared.size.Planned.{Planned}
use Rattle.list_plan.proofs.UnionLaws.{every_known, every_placed, every_ready, every_set}
use Rattle.list_plan.proofs.union.every_in_order.Goals as goal

pub returns-clause-set : goal.returns-clause-set
returns-clause-set c = λ held id.
    let parts : c.in_ok-parts.parts.items ≡ map (λ (planned : Planned). planned.iter) c.sort_by_key.new.self.items = search rules in
    ap (λ (has : ℕ → Bool). has id) (c.of_every.ensures.set held)
    ∙ every_set c.args.plans.items c.sort_by_key.new.self.items c.in_ok-sort_by_key.ensures.permutation c.from_vec.result (c.from_vec.ensures ∙ parts) held id

pub returns-clause-ready : goal.returns-clause-ready
returns-clause-ready c = λ held from all.
    let parts : c.in_ok-parts.parts.items ≡ map (λ (planned : Planned). planned.iter) c.sort_by_key.new.self.items = search rules in
    c.of_every.ensures.ready held from
    (every_ready c.args.plans.items c.sort_by_key.new.self.items c.in_ok-sort_by_key.ensures.permutation c.from_vec.result (c.from_vec.ensures ∙ parts) held from all)

pub returns-clause-placed : goal.returns-clause-placed
returns-clause-placed c = λ held after all.
    let parts : c.in_ok-parts.parts.items ≡ map (λ (planned : Planned). planned.iter) c.sort_by_key.new.self.items = search rules in
    every_placed c.args.plans.items c.sort_by_key.new.self.items c.in_ok-sort_by_key.ensures.permutation c.from_vec.result (c.from_vec.ensures ∙ parts)
    c.of_every.result c.of_every.ensures.leaves held after all

pub returns-clause-known : goal.returns-clause-known
returns-clause-known c = λ known all.
    let parts : c.in_ok-parts.parts.items ≡ map (λ (planned : Planned). planned.iter) c.sort_by_key.new.self.items = search rules in
    every_known c.args.plans.items c.sort_by_key.new.self.items c.in_ok-sort_by_key.ensures.permutation c.from_vec.result (c.from_vec.ensures ∙ parts)
    c.of_every.result c.of_every.ensures.leaves known all
