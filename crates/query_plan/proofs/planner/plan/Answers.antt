use Rattle.std.proofs.Common.{◌+◌, List, sym, subst}
use Rattle.ft_meaning.specs.Holds.{holds}
use Rattle.id_iters.specs.declared.hint.Hint.{Hint}
use Rattle.list_plan.specs.Known.{KnowsAll, place_of}
use Rattle.list_plan.specs.Parts.{part_has}
use Rattle.list_plan.specs.Plans.{AllKnown, AllOpen, ids_of}
use Rattle.query_plan.proofs.HintLaws.{all_known, all_placed}
use Rattle.query_plan.proofs.MeetLaws.{are_lists, found_at}
use Rattle.query_plan.proofs.PlanLaws.{tells_as}
use Rattle.query_plan.proofs.planner.plan.Goals as goal

pub returns-in_err-part-clause-lists : goal.returns-in_err-part-clause-lists
returns-in_err-part-clause-lists g c = λ docs are. are_lists c.args.def.now (g.T.Lists.held c.args.lists.now) (g.T.Lists.named c.args.lists.now) docs are

pub returns-in_err-planned-clause-lists : goal.returns-in_err-planned-clause-lists
returns-in_err-planned-clause-lists g c = λ docs are. are_lists c.args.def.now (g.T.Lists.held c.args.lists.now) (g.T.Lists.named c.args.lists.now) docs are

pub returns-clause-set : goal.returns-clause-set
returns-clause-set g c = λ docs are id.
    let held = g.T.Lists.held c.args.lists.now in
    let named = g.T.Lists.named c.args.lists.now in
    let tells = tells_as c.args.def.now held named (λ doc. holds c.args.query.now c.args.def.now doc) (part_has held c.in_ok-part.part) (ids_of held c.in_ok-planned.planned)
    (c.in_ok-planned.ensures.set held) c.in_ok-part.ensures.set in
    found_at c.args.def.now held named docs are c.args.query.now (ids_of held c.in_ok-planned.planned) tells id

pub returns-clause-ready : goal.returns-clause-ready
returns-clause-ready g c = c.in_ok-planned.ensures.ready (g.T.Lists.held c.args.lists.now) (c.args.after + 1) c.in_ok-part.ensures.ready

pub returns-clause-lists : goal.returns-clause-lists
returns-clause-lists g c = λ docs are. are_lists c.args.def.now (g.T.Lists.held c.args.lists.now) (g.T.Lists.named c.args.lists.now) docs are

pub returns-in_err-known-clause-lists : goal.returns-in_err-known-clause-lists
returns-in_err-known-clause-lists g c = λ docs are. are_lists c.args.def.now (g.T.Lists.held c.args.lists.now) (g.T.Lists.named c.args.lists.now) docs are

pub returns-clause-placed : goal.returns-clause-placed
returns-clause-placed g c =
    let held = g.T.Lists.held c.args.lists.now in
    all_placed held c.args.after c.args.hints.now.0 _ (subst (AllOpen held c.args.after) (sym c.in_ok-planned.ensures.leaves) c.in_ok-part.ensures.placed)

pub returns-clause-free : goal.returns-clause-free
returns-clause-free g c = λ fitting.
    c.in_ok-part.ensures.free
    (subst (AllKnown (place_of c.in_ok-known.known)) c.in_ok-planned.ensures.leaves
    (all_known (g.T.Lists.held c.args.lists.now) c.args.after c.args.hints.now.0 (place_of c.in_ok-known.known)
    (subst (λ (hints : List Hint). KnowsAll (g.T.Lists.held c.args.lists.now) c.args.after (place_of c.in_ok-known.known) hints) c.as_slice.ensures c.in_ok-known.ensures.all) _ fitting))
