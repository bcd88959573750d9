use Rattle.std.proofs.Common.{◌∙◌, ap, sym, subst, arith, List, ◌^◌}
use Rattle.doc_table.specs.declared.page.Page.{Page}
use Rattle.doc_table.specs.Pages.{has_id, Rises}
use Rattle.doc_table.proofs.PagesLaws.{rises_used, has_used}
use Rattle.doc_table.proofs.pages.IdPages.sweep.Goals as goal

pub invariant_of-self : goal.invariant_of-self
invariant_of-self c = record {
  rises = subst (Rises 0 (2 ^ 58)) (sym c.drop_spent.ensures) (rises_used 0 (2 ^ 58) c.self.inside.pages.items c.self.invariant.rises);
  within = omega arith;
  spent = λ k before. absurd (omega (arith, before));
}

pub returns-clause-ids : goal.returns-clause-ids
returns-clause-ids c =
    λ other. ap (λ ps. has_id ps other) c.drop_spent.ensures
    ∙ (has_used 0 (2 ^ 58) c.self.inside.pages.items c.self.invariant.rises other
    ∙ ap (λ (ps : List Page). has_id ps other) c.self.view_is)

pub returns-clause-bound : goal.returns-clause-bound
returns-clause-bound c =
    λ high rises. subst (Rises 0 high) (sym c.drop_spent.ensures) (rises_used 0 high c.self.inside.pages.items (subst (Rises 0 high) (sym c.self.view_is) rises))
