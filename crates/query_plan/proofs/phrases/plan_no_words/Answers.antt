use Rattle.std.proofs.Common.{ℕ, Bool, sym, ap, ◌∙◌}
use Rattle.query_plan.proofs.phrases.plan_no_words.Goals as goal

pub returns-then-is_searched-clause-set : goal.returns-then-is_searched-clause-set
returns-then-is_searched-clause-set c = λ held.
    let same : Bool → ℕ → Bool = λ b id. b in
    c.all.ensures.set held ∙ ap same (sym c.if-is_searched.true ∙ c.is_searched.ensures)

pub returns-else-is_searched-clause-set : goal.returns-else-is_searched-clause-set
returns-else-is_searched-clause-set c = λ held.
    let same : Bool → ℕ → Bool = λ b id. b in
    c.none.ensures.set held ∙ ap same (sym c.if-is_searched.false ∙ c.is_searched.ensures)
