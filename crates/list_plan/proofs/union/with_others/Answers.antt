use Rattle.std.proofs.Common.{◌∙◌, ◌++◌, ◌∷◌, [], List, ap}
use Rattle.id_iters.specs.declared.iter.Ahead.{Ahead}
use Rattle.list_plan.proofs.UnionLaws.{gathers_joined}
use Rattle.list_plan.proofs.union.with_others.Goals as goal

pub returns-clause-joins : goal.returns-clause-joins
returns-clause-joins c =
    gathers_joined _ _ c.in_ok-parts.parts c.gather.new.parts c.args.last _ c.new-2.result (c.in_ok-parts.ensures ∙ ap (λ (xs : List Ahead). xs ++ c.new-2.result ∷ []) c.new.ensures)
    c.in_ok-size.ensures.gathers c.new-2.ensures.set c.new-2.ensures.ready c.new-2.ensures.leaves c.of_some.ensures.set c.of_some.ensures.ready c.of_some.ensures.leaves
