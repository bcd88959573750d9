-- The row that a stream makes of a document: LOAD, and steps that take a row at a time.
use Rattle.std.specs.Prelude.{List, [], ◌∷◌, Option, None, Some}
use Rattle.ft_base.specs.declared.definition.IndexDef.{IndexDef}
use Rattle.ft_base.specs.Docs.{Doc}
use Rattle.ft_base.specs.declared.row.Row.{Row}
use Rattle.agg_pipeline.specs.Rows.{loaded}
use Rattle.agg_pipeline.specs.Steps.{piped}
use Rattle.agg_pipeline.specs.declared.step.Load.{Load}
use Rattle.agg_pipeline.specs.declared.step.Step.{Step}

-- the first of some rows
abbrev pub first_row : List Row → Option Row
first_row [] = None
first_row (row ∷ rows) = Some row

-- the row that the steps make of a document, and none where a FILTER drops it
abbrev pub row_made : Load → List Step → IndexDef → Doc → Option Row
row_made load steps def doc = first_row (piped def steps (loaded load def doc ∷ []))
