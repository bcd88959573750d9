use Rattle.std.proofs.Common.{rules, arith}
use Rattle.std.proofs.lemmas.Grind.{common_steps}
use Rattle.list_plan.proofs.KnownLaws.{knows_more}
use Rattle.list_plan.proofs.known.known_places.Goals as goal

pub hints-preserved : goal.hints-preserved
hints-preserved g c = record {
  fit = c.in_ok-add_hint.ensures.fit c.hints.invariant.fit;
  all = knows_more (g.T.Lists.held c.args.lists.now) c.args.after _ _ c.args.hints.now c.hints.hint-index c.hint-item.result (search rules) c.hint-item.is c.in_ok-add_hint.ensures.kept
      c.in_ok-add_hint.ensures.here c.hints.invariant.all;
}

pub returns-clause-all : goal.returns-clause-all
returns-clause-all g c = grind (arith, common_steps)
