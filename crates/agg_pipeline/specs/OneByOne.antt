-- Documents that come one by one: what LOAD and steps make of them.
use Rattle.std.specs.Prelude.{◌≡◌, List, [], ◌∷◌, map, option_to_list}
use Rattle.std.specs.List.{filter_map}
use Rattle.ft_base.specs.declared.definition.IndexDef.{IndexDef}
use Rattle.ft_base.specs.Docs.{Doc}
use Rattle.ft_base.specs.declared.row.Row.{Row}
use Rattle.agg_pipeline.specs.RowMade.{row_made}
use Rattle.agg_pipeline.specs.Rows.{loaded}
use Rattle.agg_pipeline.specs.Steps.{piped}
use Rattle.agg_pipeline.specs.declared.step.Load.{Load}
use Rattle.agg_pipeline.specs.declared.step.Step.{Step}

-- the rows that they make of documents
abbrev pub rows_of : IndexDef → Load → List Step → List Doc → List Row
rows_of def load steps docs = piped def steps (map (loaded load def) docs)

-- of a document the steps make one row at most
abbrev pub MakeOneRow : List Step → Type 0
MakeOneRow steps = (def : IndexDef) (load : Load) (doc : Doc) → option_to_list (row_made load steps def doc) ≡ rows_of def load steps (doc ∷ [])

-- of documents they make the rows of each, one after another
abbrev pub MakeEachRow : List Step → Type 0
MakeEachRow steps = (def : IndexDef) (load : Load) (docs : List Doc) → rows_of def load steps docs ≡ filter_map (row_made load steps def) docs
