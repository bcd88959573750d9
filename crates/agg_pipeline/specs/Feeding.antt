-- What is held of the documents of an aggregate while they come: of each its row, once the first steps are done that take a
-- row at a time. Where a GROUPBY comes next, its groups are held and no row, and where a SORTBY with MAX does, its first rows.
use Rattle.std.specs.Prelude.{◌≡◌, ℕ, not, List, [], ◌∷◌, ◌++◌, length, map, fold, take, drop, position, unwrap_or, Option, Some}
use Rattle.ft_base.specs.declared.definition.IndexDef.{IndexDef}
use Rattle.ft_base.specs.Docs.{Doc}
use Rattle.ft_base.specs.declared.row.Row.{Row}
use Rattle.row_sort.specs.First.{First as FirstRows}
use Rattle.agg_pipeline.specs.declared.feed.Feed.{Feed}
use Rattle.agg_pipeline.specs.declared.feed.Made.{Made}
use Rattle.agg_pipeline.specs.declared.feed.Made.TheVariants.{Rows, Groups, First}
use Rattle.agg_pipeline.specs.OneByOne.{rows_of}
use Rattle.agg_pipeline.specs.Ranking.{AreFirst, rows_held}
use Rattle.agg_pipeline.specs.Steps.{piped}
use Rattle.agg_pipeline.specs.Stream.{is_of_rows}
use Rattle.agg_pipeline.specs.declared.step.Load.{Load}
use Rattle.agg_pipeline.specs.declared.step.Reducer.{Reducer}
use Rattle.agg_pipeline.specs.declared.step.Step.{Step}
use Rattle.agg_pipeline.specs.declared.step.Step.TheVariants.{Group, Sort}
use Rattle.agg_pipeline.specs.Table.{Table, finished_row, note_row}

-- the place of the first step that takes all rows at once
abbrev pub first_other : List Step → Option ℕ
first_other steps = position (λ (step : Step). not (is_of_rows step)) steps

-- how many of the first steps take a row at a time
abbrev pub first_count : List Step → ℕ
first_count steps = unwrap_or (first_other steps) (length steps)

-- the first steps, which take a row at a time
abbrev pub first_steps : List Step → List Step
first_steps steps = take (first_count steps) steps

-- the steps behind them
abbrev pub later_steps : List Step → List Step
later_steps steps = drop (first_count steps) steps

-- the rows of documents behind the first steps
abbrev pub first_made : IndexDef → Load → List Step → List Doc → List Row
first_made def load steps docs = rows_of def load (first_steps steps) docs

-- Rows are held as they are, or as the groups of a GROUPBY or the first rows of a SORTBY with MAX that comes first among the
-- later steps.
abbrev pub IsMade : IndexDef → List Step → List Row → Made → Type 0
IsMade def later rows (Rows held) = held.items ≡ rows
IsMade def (Group by reduce ∷ later) rows (Groups table) = table ≡ fold (note_row def by reduce) [] rows
IsMade def _ rows (Groups table) = ⊥
IsMade def (Sort keys (Some most) ∷ later) rows (First held) = AreFirst def keys most rows held
IsMade def _ rows (First held) = ⊥

-- nothing is held yet
abbrev pub IsBegun : List Step → Made → Type 0
IsBegun later held = (def : IndexDef) → IsMade def later [] held

-- more rows came to those that were held
abbrev pub Gains : IndexDef → List Step → List Row → Made → Made → Type 0
Gains def later more old new = (rows : List Row) → IsMade def later rows old → IsMade def later (rows ++ more) new

-- the later steps end with these rows
abbrev pub EndsWith : IndexDef → List Step → Made → List Row → Type 0
EndsWith def later held ends = (rows : List Row) → IsMade def later rows held → ends ≡ piped def later rows

-- the reducers of a GROUPBY that comes first among the later steps, and the steps behind it
abbrev pub AreBehindGroup : List Step → List Reducer → List Step → Type 0
AreBehindGroup later reduce behind =
    (def : IndexDef) (table : Table) → EndsWith def later (Groups table) (piped def behind (map (finished_row reduce) table))

-- the steps behind a SORTBY with MAX that comes first among them
abbrev pub AreBehindSort : List Step → List Step → Type 0
AreBehindSort later behind = (def : IndexDef) (held : Option (FirstRows Row)) → EndsWith def later (First held) (piped def behind (rows_held held))

-- A feed of this definition, LOAD and steps holds what was made of documents.
pub record Holds (def : IndexDef) (load : Load) (steps : List Step) (docs : List Doc) (feed : Feed) : Type 0 where
  pub def_same : feed.def.now ≡ def
  pub load_same : feed.load.now ≡ load
  pub first : feed.first.now ≡ first_steps steps
  pub later : feed.later.now ≡ later_steps steps
  pub made : IsMade def (later_steps steps) (first_made def load steps docs) feed.made

-- a document more came, whatever came before
abbrev pub TakesIn : Doc → Feed → Feed → Type 0
TakesIn doc old new = (def : IndexDef) (load : Load) (steps : List Step) (docs : List Doc)
    → Holds def load steps docs old → Holds def load steps (docs ++ doc ∷ []) new

-- all the steps make these rows of the documents that came
abbrev pub Gives : Feed → List Row → Type 0
Gives feed rows = (def : IndexDef) (load : Load) (steps : List Step) (docs : List Doc) → Holds def load steps docs feed → rows ≡ rows_of def load steps docs
