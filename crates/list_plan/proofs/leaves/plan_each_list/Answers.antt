use Rattle.std.proofs.Common.{rules, ◌+◌, ◌≡◌, [], ◌∷◌, List, ℕ, Bool, map, sym, ap, ◌∙◌}
use Rattle.std.proofs.lemmas.List.{map-append}
use Rattle.std.proofs.lemmas.Iterator.Adapters.{YieldsList-from_vec}
use Rattle.std.proofs.lemmas.Iterator.Consumers.{YieldsList-end}
use Rattle.id_iters.specs.Fitting.{leaves_of}
use Rattle.id_iters.specs.Ready.{Ready}
use Rattle.id_iters.specs.Leaves.{list_has}
use Rattle.id_iters.specs.declared.list_name.ListName.{ListName}
use Rattle.list_plan.specs.Known.{place_of}
use Rattle.list_plan.specs.Plans.{AllKnown, AllOpen, ids_of}
use Rattle.list_plan.specs.declared.size.Planned.{Planned}
use Rattle.list_plan.proofs.GainLaws.{all_more, map_more, same_more}
use Rattle.list_plan.proofs.UnionLaws.{map_same}
use Rattle.list_plan.proofs.leaves.plan_each_list.Goals as goal

pub returns-clause-set : goal.returns-clause-set
returns-clause-set g c =
    let gives = c.into_iter-list-iterator.ensures.into_iter_gives in
    let ended = YieldsList-end (YieldsList-from_vec {s = c.into_iter-list-iterator.result} c.args.lists.items gives.0 (gives.1 ∙ c.args.lists.ok.0))
    c.lists.yielded c.lists.list-iterator c.lists.yielded_by c.next.result c.next.new.self c.in-None.is c.next.ensures.steps in
    let all : c.lists.yielded ≡ c.args.lists.items = sym (map_same c.lists.yielded) ∙ ended.0 in
    let has : ListName → ℕ → Bool = λ name. list_has (g.T.Lists.held c.args.sources.now.lists.now) name c.args.wanted.now.fields.now c.args.wanted.now.low c.args.wanted.now.high in
    c.lists.invariant.set ∙ ap (λ (names : List ListName). map has names) all

pub lists-preserved : goal.lists-preserved
lists-preserved g c =
    let held = g.T.Lists.held c.args.sources.now.lists.now in
    let known = place_of c.args.sources.now.known.now in
    let has : ListName → ℕ → Bool = λ name. list_has held name c.args.wanted.now.fields.now c.args.wanted.now.low c.args.wanted.now.high in
    record {
      set =
          map_more c.plan_list.result c.lists.plans.items c.add_planned.new.plans.items c.in_ok-add_planned.ensures (λ (p : Planned). ids_of held p)
          (has c.in-Some.list) (map has c.lists.yielded) c.lists.invariant.set c.plan_list.ensures.set ∙ sym (map-append has c.lists.yielded (c.in-Some.list ∷ []));
      ready =
          all_more c.plan_list.result c.lists.plans.items c.add_planned.new.plans.items c.in_ok-add_planned.ensures
          (λ (p : Planned). Ready held p.iter (c.args.sources.now.after + 1)) c.lists.invariant.ready c.plan_list.ensures.ready;
      placed =
          all_more c.plan_list.result c.lists.plans.items c.add_planned.new.plans.items c.in_ok-add_planned.ensures
          (λ (p : Planned). AllOpen held c.args.sources.now.after (leaves_of p.iter)) c.lists.invariant.placed c.plan_list.ensures.placed;
      free =
          same_more c.plan_list.result c.lists.plans.items c.add_planned.new.plans.items c.in_ok-add_planned.ensures
          (λ (p : Planned). AllKnown known (leaves_of p.iter)) _ c.lists.steps _ c.lists.invariant.free c.plan_list.ensures.free;
      counts = search rules;
    }
