-- Of no rows nothing is made; and the next of steps that take a row at a time is such a step.
use Rattle.std.proofs.Common.{◌≡◌, ℕ, zero, suc, ◌+◌, ◌<◌, List, [], ◌∷◌, length, get_or, drop, take, Option, Some, None, option_to_list, true, refl, sym, ap, ◌∙◌, arith}
use Rattle.ft_base.specs.declared.definition.IndexDef.{IndexDef}
use Rattle.ft_base.specs.declared.row.Row.{Row}
use Rattle.agg_pipeline.specs.declared.step.Step.{Step}
use Rattle.agg_pipeline.specs.declared.step.Step.TheVariants.{Apply, Group, Keep, Limit, Sort}
use Rattle.agg_pipeline.specs.Steps.{piped, step_rows}
use Rattle.agg_pipeline.specs.Stream.{AreOfRows, is_of_rows}
use Rattle.agg_pipeline.proofs.LoadingLaws.{fold-next}

abbrev none : List Row
none = []

take-none : (n : ℕ) → take n none ≡ []
take-none zero = refl
take-none (suc n) = refl

drop-none : (n : ℕ) → drop n none ≡ []
drop-none zero = refl
drop-none (suc n) = refl

step-none : (def : IndexDef) (step : Step) → step_rows def step [] ≡ []
step-none def (Group by reduce) = refl
step-none def (Sort keys None) = refl
step-none def (Sort keys (Some most)) = take-none most
step-none def (Apply expr name) = refl
step-none def (Keep expr) = refl
step-none def (Limit offset num) = ap (take num) (drop-none offset) ∙ take-none num

pub piped-none : (def : IndexDef) (steps : List Step) → piped def steps [] ≡ []
piped-none def [] = refl
piped-none def (step ∷ steps) = ap (piped def steps) (step-none def step) ∙ piped-none def steps

-- a step that drops the row is the last that counts
pub dropped : (def : IndexDef) (steps : List Step) (i : ℕ) (step : Step) (row : Row) (made : Option Row) → i < length steps → step ≡ get_or steps i step
    → option_to_list made ≡ step_rows def step (row ∷ []) → made ≡ None → [] ≡ piped def (drop i steps) (row ∷ [])
dropped def steps i step row made within is makes none =
    sym (piped-none def (drop (i + 1) steps))
    ∙ ap (piped def (drop (i + 1) steps)) (sym (ap option_to_list none) ∙ makes)
    ∙ fold-next (λ rows step. step_rows def step rows) (row ∷ []) steps i step within is

head-of-rows : (step : Step) (steps : List Step) → AreOfRows (step ∷ steps) → is_of_rows step ≡ true
head-of-rows (Apply expr name) steps all = refl
head-of-rows (Keep expr) steps all = refl
head-of-rows (Group by reduce) steps all = all
head-of-rows (Sort keys max) steps all = all
head-of-rows (Limit offset num) steps all = all

pub next-of-rows : (steps : List Step) (i : ℕ) (step : Step) → i < length steps → step ≡ get_or steps i step → AreOfRows (drop i steps) → is_of_rows step ≡ true
next-of-rows [] i step within is all = absurd (omega (arith, within))
next-of-rows (s ∷ steps) zero step within is all = ap is_of_rows is ∙ head-of-rows s steps all
next-of-rows (s ∷ steps) (suc i) step within is all = next-of-rows steps i step (omega (arith, within)) is all
