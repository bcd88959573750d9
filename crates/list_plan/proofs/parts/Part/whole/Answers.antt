use Rattle.std.proofs.Common.{ℕ, Bool, sym, ap, ◌∙◌}
use Rattle.list_plan.proofs.PartLaws.{as_other, denies_none}
use Rattle.list_plan.proofs.parts.Part.whole.Goals as goal

pub returns-then-is_none-clause-set : goal.returns-then-is_none-clause-set
returns-then-is_none-clause-set c = λ held id.
    ap (λ (has : ℕ → Bool). has id) (c.all.ensures.set held)
    ∙ sym (denies_none held c.args.self id c.if-not-self.false (c.is_none.ensures c.if-is_none.true))

pub returns-clause-set : goal.returns-clause-set
returns-clause-set c = λ held id. c.in_ok-other_of.ensures.set held id ∙ sym (as_other held c.args.self id c.if-not-self.false)
