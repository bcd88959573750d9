use Rattle.std.proofs.Common.{rules, ◌+◌, take, Bool, List, refl, sym, ap, ◌∙◌, subst, arith}
use Rattle.std.proofs.lemmas.Grind.{common_steps}
use Rattle.ft_base.specs.declared.query.Query.{Query}
use Rattle.ft_base.specs.declared.query.Query.TheVariants as query
use Rattle.ft_meaning.specs.Holds.{holds}
use Rattle.id_iters.specs.Fitting.{leaves_of}
use Rattle.id_iters.specs.Ready.{Ready}
use Rattle.list_plan.specs.Known.{place_of}
use Rattle.list_plan.specs.declared.parts.Part.{Part}
use Rattle.list_plan.specs.Parts.{part_has}
use Rattle.list_plan.specs.Plans.{AllKnown, AllOpen}
use Rattle.list_plan.proofs.GainLaws.{all_more, of_item, same_more}
use Rattle.list_plan.proofs.PartLaws.{other_has}
use Rattle.query_merge.specs.Merged.{AreParts, marked}
use Rattle.query_merge.proofs.MarkLaws.{marked_more, marked_same}
use Rattle.query_plan.specs.Plans.{AllTell, Tells}
use Rattle.query_plan.proofs.OtherLaws.{single}
use Rattle.query_plan.proofs.PlanLaws.{every_tells, one_more_tells, other_tells, some_tells, tells_same, together}
use Rattle.query_plan.proofs.query_tree.+part.Goals as goal

pub plan_part-returns-in-And-clause-set : goal.plan_part-returns-in-And-clause-set
plan_part-returns-in-And-clause-set g t c =
    tells_same c.args.sources.now.def.now (g.T.Lists.held c.args.sources.now.lists.now) (g.T.Lists.named c.args.sources.now.lists.now) c.args.query.now _ c.plan_every.result
    (c.in-And.is ∙ ap (λ (parts : List Query). query.And parts) (sym c.as_slice.ensures)) c.plan_every.ensures.set

pub plan_part-returns-in-Or-clause-set : goal.plan_part-returns-in-Or-clause-set
plan_part-returns-in-Or-clause-set g t c =
    tells_same c.args.sources.now.def.now (g.T.Lists.held c.args.sources.now.lists.now) (g.T.Lists.named c.args.sources.now.lists.now) c.args.query.now _ c.plan_some.result
    (c.in-Or.is ∙ ap (λ (parts : List Query). query.Or parts) (sym c.as_slice-in-Or.ensures)) c.plan_some.ensures.set

pub plan_part-returns-in-Not-clause-set : goal.plan_part-returns-in-Not-clause-set
plan_part-returns-in-Not-clause-set g t c =
    tells_same c.args.sources.now.def.now (g.T.Lists.held c.args.sources.now.lists.now) (g.T.Lists.named c.args.sources.now.lists.now) c.args.query.now _ c.plan_other.result
    (c.in-Not.is ∙ ap (λ (part : Query). query.Not part) (sym c.get.ensures)) c.plan_other.ensures.set

pub plan_part-plan_single-requires : goal.plan_part-plan_single-requires
plan_part-plan_single-requires g t c = record { known = c.requires; single = single c.args.query.now c.in_default.not-And c.in_default.not-Or c.in_default.not-Not }

pub plan_every-returns-clause-set : goal.plan_every-returns-clause-set
plan_every-returns-clause-set g t c =
    every_tells c.args.sources.now.def.now (g.T.Lists.held c.args.sources.now.lists.now) (g.T.Lists.named c.args.sources.now.lists.now) c.args.queries.now _
    c.in_ok-parts.parts.items c.in_ok-every_part.field-0 refl c.in_ok-parts.ensures.set c.in_ok-every_part.ensures

pub plan_every-returns-clause-ready : goal.plan_every-returns-clause-ready
plan_every-returns-clause-ready g t c =
    c.in_ok-every_part.ensures.of.ready (g.T.Lists.held c.args.sources.now.lists.now) (c.args.sources.now.after + 1) c.in_ok-parts.ensures.ready

pub plan_every-returns-clause-placed : goal.plan_every-returns-clause-placed
plan_every-returns-clause-placed g t c =
    c.in_ok-every_part.ensures.of.placed (g.T.Lists.held c.args.sources.now.lists.now) c.args.sources.now.after c.in_ok-parts.ensures.placed

pub plan_every-returns-clause-free : goal.plan_every-returns-clause-free
plan_every-returns-clause-free g t c = λ known. c.in_ok-parts.ensures.free (c.in_ok-every_part.ensures.of.known (place_of c.args.sources.now.known.now) known)

pub plan_some-returns-clause-set : goal.plan_some-returns-clause-set
plan_some-returns-clause-set g t c =
    some_tells c.args.sources.now.def.now (g.T.Lists.held c.args.sources.now.lists.now) (g.T.Lists.named c.args.sources.now.lists.now) c.args.queries.now _
    c.in_ok-parts.parts.items c.in_ok-some_part.field-0 refl c.in_ok-parts.ensures.set c.in_ok-some_part.ensures

pub plan_some-returns-clause-ready : goal.plan_some-returns-clause-ready
plan_some-returns-clause-ready g t c =
    c.in_ok-some_part.ensures.of.ready (g.T.Lists.held c.args.sources.now.lists.now) (c.args.sources.now.after + 1) c.in_ok-parts.ensures.ready

pub plan_some-returns-clause-placed : goal.plan_some-returns-clause-placed
plan_some-returns-clause-placed g t c =
    c.in_ok-some_part.ensures.of.placed (g.T.Lists.held c.args.sources.now.lists.now) c.args.sources.now.after c.in_ok-parts.ensures.placed

pub plan_some-returns-clause-free : goal.plan_some-returns-clause-free
plan_some-returns-clause-free g t c = λ known. c.in_ok-parts.ensures.free (c.in_ok-some_part.ensures.of.known (place_of c.args.sources.now.known.now) known)

pub plan_other-returns-clause-set : goal.plan_other-returns-clause-set
plan_other-returns-clause-set g t c =
    let held = g.T.Lists.held c.args.sources.now.lists.now in
    other_tells c.args.sources.now.def.now held (g.T.Lists.named c.args.sources.now.lists.now) c.args.query.now _
    (part_has held c.in_ok-part.part) (part_has held c.other.result) refl c.in_ok-part.ensures.set
    (λ id. other_has held c.in_ok-part.part c.other.result id c.other.ensures.planned c.other.ensures.negated)

pub plan_other-returns-clause-ready : goal.plan_other-returns-clause-ready
plan_other-returns-clause-ready g t c =
    subst (λ p. Ready (g.T.Lists.held c.args.sources.now.lists.now) p.iter (c.args.sources.now.after + 1)) (sym c.other.ensures.planned) c.in_ok-part.ensures.ready

pub plan_other-returns-clause-placed : goal.plan_other-returns-clause-placed
plan_other-returns-clause-placed g t c =
    subst (λ p. AllOpen (g.T.Lists.held c.args.sources.now.lists.now) c.args.sources.now.after (leaves_of p.iter)) (sym c.other.ensures.planned) c.in_ok-part.ensures.placed

pub plan_other-returns-clause-free : goal.plan_other-returns-clause-free
plan_other-returns-clause-free g t c = λ known.
    c.in_ok-part.ensures.free (subst (λ p. AllKnown (place_of c.args.sources.now.known.now) (leaves_of p.iter)) c.other.ensures.planned known)

pub plan_parts-returns-clause-set : goal.plan_parts-returns-clause-set
plan_parts-returns-clause-set g t c =
    together c.args.sources.now.def.now (g.T.Lists.held c.args.sources.now.lists.now) (g.T.Lists.named c.args.sources.now.lists.now) c.args.queries.now _ c.plan_each.new.parts.items
    (subst (λ (marks : List Bool). AreParts c.args.queries.now (marked c.args.queries.now marks)) (sym c.as_slice.ensures.value) c.in_ok-marks.ensures)
    c.in_ok-plan_each.ensures.set

pub plan_each-queries-preserved : goal.plan_each-queries-preserved
plan_each-queries-preserved g t c =
    let held = g.T.Lists.held c.args.sources.now.lists.now in
    let known = place_of c.args.sources.now.known.now in
    let def = c.args.sources.now.def.now in
    let named = g.T.Lists.named c.args.sources.now.lists.now in
    let query = c.index-queries-at.result in
    let tells = of_item c.plan_part.result c.queries.parts.items c.add_part.new.parts.items c.in_ok-add_part.ensures
    (λ (p : Part). Tells def held named (λ doc. holds query def doc) (part_has held p)) c.plan_part.ensures.set in
    record {
      set =
          one_more_tells def held named (marked (take c.queries.at c.args.queries.now) c.args.marks.now) (marked (take (c.queries.at + 1) c.args.queries.now) c.args.marks.now) query
          c.queries.parts.items _ c.in_ok-add_part.ensures.item
          (marked_more c.args.queries.now c.args.marks.now c.queries.at query c.queries-test.true c.index-queries-at.is (sym c.is_set.ensures ∙ c.if-not-is_set.false))
          c.in_ok-add_part.ensures.items c.queries.invariant.set tells;
      ready =
          all_more c.plan_part.result c.queries.parts.items c.add_part.new.parts.items c.in_ok-add_part.ensures
          (λ (p : Part). Ready held p.planned.iter (c.args.sources.now.after + 1)) c.queries.invariant.ready c.plan_part.ensures.ready;
      placed =
          all_more c.plan_part.result c.queries.parts.items c.add_part.new.parts.items c.in_ok-add_part.ensures
          (λ (p : Part). AllOpen held c.args.sources.now.after (leaves_of p.planned.iter)) c.queries.invariant.placed c.plan_part.ensures.placed;
      free =
          same_more c.plan_part.result c.queries.parts.items c.add_part.new.parts.items c.in_ok-add_part.ensures
          (λ (p : Part). AllKnown known (leaves_of p.planned.iter)) _ c.queries.steps _ c.queries.invariant.free c.plan_part.ensures.free;
      counts = search rules;
    }

pub plan_each-queries-preserved-then-not-is_set : goal.plan_each-queries-preserved-then-not-is_set
plan_each-queries-preserved-then-not-is_set g t c =
    let held = g.T.Lists.held c.args.sources.now.lists.now in
    let named = g.T.Lists.named c.args.sources.now.lists.now in
    record {
      set =
          subst (λ (queries : List Query). AllTell c.args.sources.now.def.now held named queries c.queries.parts.items)
          (sym (marked_same c.args.queries.now c.args.marks.now c.queries.at (sym c.is_set.ensures ∙ c.if-not-is_set.true))) c.queries.invariant.set;
      ready = c.queries.invariant.ready;
      placed = c.queries.invariant.placed;
      free = c.queries.invariant.free;
      counts = c.queries.invariant.counts;
    }

pub plan_each-returns-clause-set : goal.plan_each-returns-clause-set
plan_each-returns-clause-set g t c = grind (arith, common_steps)
