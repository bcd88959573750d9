use Rattle.std.proofs.lemmas.Grind.{common_steps}
use mir.Syntax.{w64}
use mir.Val.{SFits, of_z, to_z}
use Rattle.std.proofs.Common.{rules, ◌≡◌, ◌+◌, ◌++◌, [], ◌∷◌, ℤ, sym, ap, ◌∙◌, arith}
use Rattle.std.proofs.lemmas.Int.{to_z-of_z}
use Rattle.id_iters.specs.Fitting.{leaves_of}
use Rattle.id_iters.specs.Held.{entries_of}
use Rattle.id_iters.specs.Ready.{Ready}
use Rattle.query_plan.specs.Asked.{asked_of, asked_of_each}
use Rattle.list_plan.specs.Known.{place_of}
use Rattle.list_plan.specs.Plans.{AllKnown, AllOpen, ids_of}
use Rattle.query_plan.specs.Sought.{section_of}
use Rattle.list_plan.specs.declared.size.Planned.{Planned}
use Rattle.query_plan.proofs.AskedLaws.{asked_ended, asked_more, section_as}
use Rattle.list_plan.proofs.GainLaws.{all_more, map_more, same_more}
use Rattle.query_plan.proofs.ranges.plan_each_range.Goals as goal

pub returns-clause-set : goal.returns-clause-set
returns-clause-set g c =
    let held = g.T.Lists.held c.args.sources.now.lists.now in
    let lows = (g.T.Lists.named c.args.sources.now.lists.now).lows c.args.field in
    let end : c.places.place ≡ c.args.span.to = omega (arith, c.places-test.false, c.places.auto.place-end) in
    c.places.invariant.set
    ∙ ap (section_of (asked_of_each held c.args.field (to_z w64 (of_z w64 c.args.low)) (to_z w64 (of_z w64 c.args.high)) lows) c.args.span.from) end
    ∙ section_as held c.args.field c.args.low c.args.high lows c.args.span.from c.args.span.to (to_z w64 (of_z w64 c.args.low)) (to_z w64 (of_z w64 c.args.high))
    (to_z-of_z w64 c.args.low c.ranges.low) (to_z-of_z w64 c.args.high c.ranges.high)

pub places-preserved : goal.places-preserved
places-preserved g c =
    let held = g.T.Lists.held c.args.sources.now.lists.now in
    let known = place_of c.args.sources.now.known.now in
    let lows = (g.T.Lists.named c.args.sources.now.lists.now).lows c.args.field in
    let low : ℤ = to_z w64 (of_z w64 c.args.low) in
    let high : ℤ = to_z w64 (of_z w64 c.args.high) in
    let fits : SFits w64 c.in-Some.least = search rules in
    let sets = section_of (asked_of_each held c.args.field low high lows) c.args.span.from c.places.place in
    record {
      set =
          map_more c.plan_one_range.result c.places.plans.items c.add_planned.new.plans.items c.in_ok-add_planned.ensures (λ (p : Planned). ids_of held p)
          _ sets c.places.invariant.set c.plan_one_range.ensures.set
          ∙ ap (λ (n : ℤ). sets ++ asked_of low high n c.low_at-next.result (entries_of (held.ranges c.args.field n)) ∷ []) (to_z-of_z w64 c.in-Some.least fits)
          ∙ sym (asked_more held c.args.field low high lows c.args.span.from c.places.place c.in-Some.least c.low_at-next.result c.places.auto.place
          (sym c.low_at.ensures ∙ c.in-Some.is) c.low_at-next.ensures);
      ready =
          all_more c.plan_one_range.result c.places.plans.items c.add_planned.new.plans.items c.in_ok-add_planned.ensures
          (λ (p : Planned). Ready held p.iter (c.args.sources.now.after + 1)) c.places.invariant.ready c.plan_one_range.ensures.ready;
      placed =
          all_more c.plan_one_range.result c.places.plans.items c.add_planned.new.plans.items c.in_ok-add_planned.ensures
          (λ (p : Planned). AllOpen held c.args.sources.now.after (leaves_of p.iter)) c.places.invariant.placed c.plan_one_range.ensures.placed;
      free =
          same_more c.plan_one_range.result c.places.plans.items c.add_planned.new.plans.items c.in_ok-add_planned.ensures
          (λ (p : Planned). AllKnown known (leaves_of p.iter)) _ c.places.steps _ c.places.invariant.free c.plan_one_range.ensures.free;
      counts = search rules;
    }

pub places-preserved-in_default : goal.places-preserved-in_default
places-preserved-in_default g c =
    let held = g.T.Lists.held c.args.sources.now.lists.now in
    let lows = (g.T.Lists.named c.args.sources.now.lists.now).lows c.args.field in
    let low : ℤ = to_z w64 (of_z w64 c.args.low) in
    let high : ℤ = to_z w64 (of_z w64 c.args.high) in
    record {
      set = c.places.invariant.set ∙ sym (asked_ended held c.args.field low high lows c.args.span.from c.places.place (sym c.low_at.ensures ∙ c.in_default.is));
      ready = c.places.invariant.ready;
      placed = c.places.invariant.placed;
      free = c.places.invariant.free;
      counts = c.places.invariant.counts;
    }

pub places-init : goal.places-init
places-init g c = grind (arith, common_steps)
