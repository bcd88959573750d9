-- The states of reducers one after another, as they take a row in, and the cells of what they give.
use Rattle.std.proofs.Common.{◌≡◌, ◌≤◌, ◌++◌, ℕ, zero, suc, List, [], ◌∷◌, length, min, drop, take, refl, ap, arith}
use Rattle.std.proofs.lemmas.List.{take-append-drop}
use Rattle.ft_base.specs.declared.definition.IndexDef.{IndexDef}
use Rattle.ft_base.specs.declared.row.Cell.{Cell}
use Rattle.ft_base.specs.declared.row.Row.{Row}
use Rattle.agg_pipeline.specs.declared.state.State.{State}
use Rattle.agg_pipeline.specs.declared.step.Reducer.{Reducer}
use Rattle.agg_pipeline.specs.Made.{finished_cells, set_finished, states_step}
use Rattle.agg_pipeline.specs.Rows.{set_cells}

-- the first state, and then the others
pub set-next : (cells : List Cell) (reduce : List Reducer) (state : State) (states : List State)
    → set_cells (set_finished cells reduce state) (finished_cells (drop 1 reduce) states) ≡ set_cells cells (finished_cells reduce (state ∷ states))
set-next cells [] state [] = refl
set-next cells [] state (s ∷ states) = refl
set-next cells (r ∷ rs) state states = refl

-- without a state nothing is made
no-states : (def : IndexDef) (reduce : List Reducer) (row : Row) → states_step def reduce [] row ≡ []
no-states def [] row = refl
no-states def (r ∷ rs) row = refl

-- behind the last reducer or the last state, the states are what they are
pub all-stepped : (def : IndexDef) (reduce : List Reducer) (states : List State) (row : Row) (n : ℕ) → min (length reduce) (length states) ≤ n
    → take n states ++ states_step def (drop n reduce) (drop n states) row ≡ states
all-stepped def [] states row zero past = refl
all-stepped def (r ∷ rs) [] row zero past = refl
all-stepped def (r ∷ rs) (state ∷ states) row zero past = absurd (omega arith)
all-stepped def [] [] row (suc n) past = refl
all-stepped def [] (state ∷ states) row (suc n) past = take-append-drop (suc n) (state ∷ states)
all-stepped def (r ∷ rs) [] row (suc n) past = no-states def (drop n rs) row
all-stepped def (r ∷ rs) (state ∷ states) row (suc n) past = ap (λ (l : List State). state ∷ l) (all-stepped def rs states row n (omega arith))
