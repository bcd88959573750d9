-- The parts of FT.AGGREGATE behind the index and the query (RediSearch): options anywhere, each once; LOAD once, before the
-- first step; and steps in order.
use Rattle.std.specs.Prelude.{List, [], ◌∷◌, ◌++◌, Bool, true, false, ◌||◌, None, Some, is_some, Result, Ok, if◌then◌else◌}
use Rattle.ft_base.specs.Reading.{◌>>=◌, parts_at}
use Rattle.agg_pipeline.specs.declared.step.Step.{Step}
use Rattle.cmd_parse.specs.AggregateNames.{part_of}
use Rattle.cmd_parse.specs.AggregateSteps.{load_at, step_at}
use Rattle.cmd_parse.specs.AggregateWords.{cursor_at}
use Rattle.cmd_parse.specs.Options.{dialect_at}
use Rattle.cmd_parse.specs.Params.{params_at}
use Rattle.cmd_parse.specs.Search.{is_at_end}
use Rattle.cmd_parse.specs.Words.{Word, Read, fault, number_at}
use Rattle.cmd_parse.specs.declared.aggregate_names.PartName.{PartName}
use Rattle.cmd_parse.specs.declared.aggregate_names.PartName.TheVariants as part
use Rattle.cmd_parse.specs.declared.aggregate_names.StepName.{StepName}
use Rattle.cmd_parse.specs.declared.aggregate_parts.Parts.{Parts}
use Rattle.cmd_parse.specs.declared.stop.Cause.TheVariants.{Syntax, OutOfScope}
use Rattle.cmd_parse.specs.declared.stop.Stop.{Stop}

abbrev pub no_parts : Parts
no_parts = record { verbatim = false; timeout = false; dialect = false; params = None; cursor = None; load = None; steps = [] }

abbrev pub has_steps : List Step → Bool
has_steps [] = false
has_steps (step ∷ steps) = true

-- whether a part may not come any more
abbrev pub is_past : Parts → PartName → Bool
is_past parts part.Verbatim = parts.verbatim
is_past parts part.Timeout = parts.timeout
is_past parts part.Dialect = parts.dialect
is_past parts part.Params = is_some parts.params
is_past parts part.Cursor = is_some parts.cursor
is_past parts part.Load = is_some parts.load || has_steps parts.steps
is_past parts (part.Step name) = false
is_past parts part.LeftOut = false
is_past parts part.Other = false

-- TIMEOUT, DIALECT and VERBATIM have no effect.
abbrev pub with_timeout_at : Parts → List Word → Read Parts
with_timeout_at parts words = number_at words >>= λ n. Ok (record parts { timeout = true }, n.1)

abbrev pub with_dialect_at : Parts → List Word → Read Parts
with_dialect_at parts words = dialect_at words >>= λ n. Ok (record parts { dialect = true }, n.1)

abbrev pub with_params_at : Parts → List Word → Read Parts
with_params_at parts words = params_at words >>= λ params. Ok (record parts { params = Some params.0 }, params.1)

abbrev pub with_cursor_at : Parts → List Word → Read Parts
with_cursor_at parts words = cursor_at words >>= λ cursor. Ok (record parts { cursor = Some cursor.0 }, cursor.1)

abbrev pub with_load_at : Parts → List Word → Read Parts
with_load_at parts words = load_at words >>= λ load. Ok (record parts { load = Some load.0 }, load.1)

-- a step goes behind those before
abbrev pub with_step_at : StepName → Parts → List Word → Read Parts
with_step_at name parts words = step_at name words >>= λ step. Ok (record parts { steps = parts.steps ++ step.0 ∷ [] }, step.1)

-- A part's words, behind its name. `from` are the words from the name on.
unfoldable pub part_with : PartName → Parts → List Word → List Word → Read Parts
part_with part.Verbatim parts from words = Ok (record parts { verbatim = true }, words)
part_with part.Timeout parts from words = with_timeout_at parts words
part_with part.Dialect parts from words = with_dialect_at parts words
part_with part.Params parts from words = with_params_at parts words
part_with part.Cursor parts from words = with_cursor_at parts words
part_with part.Load parts from words = with_load_at parts words
part_with (part.Step name) parts from words = with_step_at name parts words
part_with part.LeftOut parts from words = fault OutOfScope from
part_with part.Other parts from words = fault Syntax from

-- one part behind others
unfoldable pub part_at : Parts → List Word → Read Parts
part_at parts [] = fault Syntax []
part_at parts (word ∷ words) =
    if is_past parts (part_of word) then fault Syntax (word ∷ words) else part_with (part_of word) parts (word ∷ words) words

-- parts up to the end of a command
abbrev pub all_parts_at : List Word → Result Parts Stop
all_parts_at words = parts_at is_at_end part_at no_parts words >>= λ read. Ok read.0
