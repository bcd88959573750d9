use Rattle.std.proofs.Common.{rules}
use Rattle.list_plan.proofs.KnownLaws.{now_known, still_fit, still_known}
use Rattle.list_plan.proofs.known.add_hint.Goals as goal

pub returns-clause-fit : goal.returns-clause-fit
returns-clause-fit g c =
    still_fit _ _ c.args.hint.now.list c.args.hint.now.place c.in_ok-add_place.ensures (g.T.Lists.held c.args.lists.now) c.args.after (search rules)

pub returns-clause-here : goal.returns-clause-here
returns-clause-here g c = λ opened. now_known _ _ c.args.hint.now.list c.args.hint.now.place c.in_ok-add_place.ensures

pub returns-clause-kept : goal.returns-clause-kept
returns-clause-kept g c = still_known _ _ c.args.hint.now.list c.args.hint.now.place c.in_ok-add_place.ensures
