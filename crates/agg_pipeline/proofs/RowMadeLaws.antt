-- Steps that take a row at a time make at most one row of a document, and of documents the rows of each.
use Rattle.std.proofs.Common.{◌≡◌, List, [], ◌∷◌, ◌++◌, map, Option, None, Some, option_to_list, refl, sym, ap, ◌∙◌, inl, inr, true≢false}
use Rattle.std.specs.List.{cons_option}
use Rattle.std.proofs.lemmas.Bool.{cases_Bool}
use Rattle.ft_base.specs.declared.definition.IndexDef.{IndexDef}
use Rattle.ft_base.specs.declared.row.Row.{Row}
use Rattle.agg_pipeline.specs.declared.step.Step.{Step}
use Rattle.agg_pipeline.specs.declared.step.Step.TheVariants.{Apply, Group, Keep, Limit, Sort}
use Rattle.agg_pipeline.specs.OneByOne.{MakeEachRow, MakeOneRow, rows_of}
use Rattle.agg_pipeline.specs.RowMade.{first_row, row_made}
use Rattle.agg_pipeline.specs.Rows.{loaded}
use Rattle.agg_pipeline.specs.Steps.{applied, is_kept, piped}
use Rattle.agg_pipeline.specs.Stream.{AreOfRows}
use Rattle.agg_pipeline.proofs.FeedLaws.{piped-append}
use Rattle.agg_pipeline.proofs.StreamLaws.{piped-none}

-- of a row they make at most one
at-most-one : (def : IndexDef) (steps : List Step) (row : Row) → AreOfRows steps
    → option_to_list (first_row (piped def steps (row ∷ []))) ≡ piped def steps (row ∷ [])
at-most-one def [] row all = refl
at-most-one def (Apply expr name ∷ steps) row all = at-most-one def steps (applied def expr name row) all
at-most-one def (Keep expr ∷ steps) row all =
    elim (cases_Bool (is_kept def expr row)) [
      | inl kept ↦ rw kept (at-most-one def steps row all)
      | inr dropped ↦ rw (dropped, piped-none def steps) refl
    ]
at-most-one def (Group by reduce ∷ steps) row all = absurd (true≢false (sym all))
at-most-one def (Sort keys max ∷ steps) row all = absurd (true≢false (sym all))
at-most-one def (Limit offset num ∷ steps) row all = absurd (true≢false (sym all))

pub row-made : (steps : List Step) → AreOfRows steps → MakeOneRow steps
row-made steps all def load doc = at-most-one def steps (loaded load def doc) all

cons-append : (made : Option Row) (rows : List Row) → option_to_list made ++ rows ≡ cons_option made rows
cons-append None rows = refl
cons-append (Some row) rows = refl

pub rows-made : (steps : List Step) → AreOfRows steps → MakeEachRow steps
rows-made steps all def load [] = piped-none def steps
rows-made steps all def load (doc ∷ docs) =
    piped-append def steps all (loaded load def doc ∷ []) (map (loaded load def) docs)
    ∙ ap (λ (rows : List Row). rows ++ rows_of def load steps docs) (sym (row-made steps all def load doc))
    ∙ cons-append (row_made load steps def doc) (rows_of def load steps docs)
    ∙ ap (cons_option (row_made load steps def doc)) (rows-made steps all def load docs)

-- a row is the first of the rows that it alone makes
pub first-is : (made : Option Row) (rows : List Row) → option_to_list made ≡ rows → made ≡ first_row rows
first-is None rows is = ap first_row is
first-is (Some row) rows is = ap first_row is
