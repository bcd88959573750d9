-- Rows and their cells (RediSearch, FT.AGGREGATE), and the row that a document begins as.
use Rattle.std.specs.Prelude.{ℕ, List, [], ◌∷◌, map, fold, Option, None, Some, if◌then◌else◌}
use Rattle.std.specs.Option.{option_or}
use Rattle.std.specs.Str.{bytes_eq}
use Rattle.ft_base.specs.declared.definition.IndexDef.{IndexDef}
use Rattle.ft_base.specs.Cells.{cell}
use Rattle.ft_base.specs.Docs.{Doc}
use Rattle.ft_base.specs.declared.row.Cell.{Cell}
use Rattle.ft_base.specs.declared.row.Row.{Row}
use Rattle.ft_base.specs.declared.row.Value.{Value}
use Rattle.agg_pipeline.specs.declared.step.Load.{Load}
use Rattle.agg_pipeline.specs.declared.step.Load.TheVariants.{Nothing, Fields, All}
use Rattle.expr_eval.specs.Properties.{by_alias, by_name, has_number, seen_as}

-- A cell takes the place of the one of its name, and goes last where there is none.
abbrev pub set_cell : List Cell → Cell → List Cell
set_cell [] new = new ∷ []
set_cell (old ∷ cells) new = if bytes_eq old.name new.name then cell old.name new.value ∷ cells else old ∷ set_cell cells new

-- cells, one after another
abbrev pub set_cells : List Cell → List Cell → List Cell
set_cells cells new = fold set_cell cells new

-- ---- LOAD

-- the value of a property of a document, where it is there
abbrev pub value_there : IndexDef → Doc → List ℕ → Option Value
value_there def doc name = option_or (by_alias name doc.hash def.fields) (by_name name doc.hash def.fields)

-- the cell of a name, where it has a value
abbrev pub set_there : List Cell → List ℕ → Option Value → List Cell
set_there cells name None = cells
set_there cells name (Some value) = set_cell cells (cell name value)

-- the cell of a property, where it is there
abbrev pub load_cell : IndexDef → Doc → List Cell → List ℕ → List Cell
load_cell def doc cells name = set_there cells name (value_there def doc name)

-- the cell of a hash's field, under its own name
abbrev pub own_cell : IndexDef → List ℕ × List ℕ → Cell
own_cell def field = cell field.0 (seen_as (has_number def.fields field.0) field.1)

-- the cells that a row has from the start
abbrev pub loaded_cells : Load → IndexDef → Doc → List Cell
loaded_cells Nothing def doc = []
loaded_cells (Fields names) def doc = fold (load_cell def doc) [] names
loaded_cells All def doc = map (own_cell def) doc.hash

-- the row of a document and these cells
abbrev pub row_with : Doc → List Cell → Row
row_with doc cells = record { doc = Some doc; cells = cells }

-- the row that a document begins as
abbrev pub loaded : Load → IndexDef → Doc → Row
loaded load def doc = record { doc = Some doc; cells = loaded_cells load def doc }
