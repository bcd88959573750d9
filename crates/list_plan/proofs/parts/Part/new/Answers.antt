use Rattle.std.proofs.Common.{ℕ, Bool, not, sym, ap, ◌∙◌}
use Rattle.list_plan.proofs.PartLaws.{all_has}
use Rattle.list_plan.proofs.parts.Part.new.Goals as goal

pub returns-then-is_all-clause-set : goal.returns-then-is_all-clause-set
returns-then-is_all-clause-set c = λ held id.
    ap (λ (has : ℕ → Bool). not (has id)) (c.none.ensures.set held) ∙ sym (all_has held c.args.planned.iter id (c.is_all.ensures c.if-is_all.true))
