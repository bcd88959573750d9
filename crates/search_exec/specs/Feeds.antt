-- What a feed takes in, whatever definition and steps it was made of.
use Rattle.std.specs.Prelude.{◌≡◌, List, [], ◌∷◌, ◌++◌}
use Rattle.agg_pipeline.specs.Feeding.{Holds}
use Rattle.agg_pipeline.specs.declared.feed.Feed.{Feed}
use Rattle.agg_pipeline.specs.declared.step.Load.{Load}
use Rattle.agg_pipeline.specs.declared.step.Step.{Step}
use Rattle.ft_base.specs.declared.definition.IndexDef.{IndexDef}
use Rattle.ft_base.specs.Docs.{Doc}
use Rattle.ft_base.specs.declared.row.Row.{Row}
use Rattle.ft_machine.specs.Aggregating.{aggregate_rows}

-- a feed has taken in a document more
abbrev pub Takes : Doc → Feed → Feed → Type 0
Takes doc old new =
    (def : IndexDef) (load : Load) (steps : List Step) (docs : List Doc) → Holds def load steps docs old → Holds def load steps (docs ++ doc ∷ []) new

-- a feed that held no document holds these
abbrev pub Gathers : List Doc → Feed → Feed → Type 0
Gathers docs old new = (def : IndexDef) (load : Load) (steps : List Step) → Holds def load steps [] old → Holds def load steps docs new

-- rows are what the steps of a feed make of the documents that it holds
abbrev pub AreMadeBy : Feed → List Row → Type 0
AreMadeBy feed rows = (def : IndexDef) (load : Load) (steps : List Step) (docs : List Doc) → Holds def load steps docs feed → rows ≡ aggregate_rows load steps def docs
