-- How contracts see attributes in their braces, and one step of reading them.
use Rattle.std.specs.Prelude.{◌≡◌, ◌<◌, ◌≤◌, ℕ, List, [], ◌∷◌, ◌++◌, Bool, Option, Some, None, length}
use Rattle.ft_base.specs.declared.definition.IndexDef.{IndexDef}
use Rattle.ft_base.specs.declared.query.Param.{Param}
use Rattle.ft_base.specs.declared.query.Query.{Query}
use Rattle.query_lex.specs.declared.lexeme.Lexeme.{Lexeme}
use Rattle.query_grammar.specs.Form as form
use Rattle.query_grammar.specs.Reading as reading
use Rattle.query_grammar.specs.Reading.{behind_arrow, behind_name, names_of, next_sign, pair_with, with_block}
use Rattle.query_parse.specs.declared.blocks.Block.{Block}
use Rattle.query_parse.specs.declared.blocks.Block.TheVariants as blocks
use Rattle.query_parse.specs.declared.blocks.Pair.{Pair}
use Rattle.query_parse.specs.declared.blocks.Step.{Step}
use Rattle.query_parse.specs.declared.blocks.Step.TheVariants as steps
use Rattle.query_parse.specs.declared.name_set.NameSet.{NameSet}
use Rattle.query_parse.specs.declared.stop.Stop.{Stop}
use Rattle.query_parse.specs.Gives.{Stops}
use Rattle.query_parse.specs.NameKeys.{HasNames}
use Rattle.query_parse.specs.Seen.{pair_of, pairs_of}

-- attributes as reading gives them, with the lexemes behind
abbrev pub block_of : (def : IndexDef) (params : List Param) → Block → reading.Block def params
block_of def params (blocks.Closed pairs rest) = reading.Closed (pairs_of pairs.items) rest.now
block_of def params (blocks.Open pairs rest) = reading.Open (pairs_of pairs.items) rest.now

-- the lexemes behind them
abbrev pub rest_of : Block → List Lexeme
rest_of (blocks.Closed pairs rest) = rest.now
rest_of (blocks.Open pairs rest) = rest.now

-- attributes and one more, if there is one
abbrev pub and_one : List form.Pair → Option Pair → List form.Pair
and_one before None = before
and_one before (Some pair) = before ++ pair_of pair ∷ []

-- these attributes and this one more, which are closed, and the lexemes behind; or which break off there
abbrev pub IsClosed : List Pair → Option Pair → List Lexeme → Block → Type 0
IsClosed pairs last rest block = (def : IndexDef) (params : List Param)
    → block_of def params block ≡ reading.Closed (and_one (pairs_of pairs) last) rest

abbrev pub IsOpen : List Pair → Option Pair → List Lexeme → Block → Type 0
IsOpen pairs last rest block = (def : IndexDef) (params : List Param)
    → block_of def params block ≡ reading.Open (and_one (pairs_of pairs) last) rest

-- Behind an arrow stand these attributes, whatever stands before it; or the code stops there as reading does.
abbrev pub IsBehindArrow : IndexDef → List Param → List Lexeme → Block → Type 0
IsBehindArrow def params ts block = (at : ℕ) (is_quote : Bool) (parts : List Query)
    → behind_arrow def params at is_quote parts (next_sign ts) ts ≡ with_block def params at is_quote parts (block_of def params block)

abbrev pub StopsBehindArrow : IndexDef → List Param → List Lexeme → Stop → Type 0
StopsBehindArrow def params ts stop = (at : ℕ) (is_quote : Bool) (parts : List Query)
    → Stops stop (behind_arrow def params at is_quote parts (next_sign ts) ts)

-- what is read behind some attributes, where this step comes next and others are read so
abbrev pub stepped : (def : IndexDef) (params : List Param) → (List form.Pair → List Lexeme → reading.Block def params) → List form.Pair → Step → reading.Block def params
stepped def params others before (steps.More pair rest) = others (before ++ pair_of pair ∷ []) rest.now
stepped def params others before (steps.Closed pair rest) = reading.Closed (and_one before pair) rest.now
stepped def params others before (steps.Open pair rest) = reading.Open (and_one before pair) rest.now

-- The step is what comes next behind attributes of these names, however others are read.
abbrev pub IsNext : List Param → NameSet → List Lexeme → Step → Type 0
IsNext params names ts step = (def : IndexDef) (others : List form.Pair → List Lexeme → reading.Block def params) (before : List form.Pair)
    → HasNames names (names_of def params before)
    → stepped def params others before step ≡ pair_with def params others before (next_sign ts) ts

-- The same of what comes behind the name of an attribute at an offset.
abbrev pub IsBehindName : List Param → ℕ → List ℕ → List Lexeme → Step → Type 0
IsBehindName params at name ts step = (def : IndexDef) (others : List form.Pair → List Lexeme → reading.Block def params) (before : List form.Pair)
    → stepped def params others before step ≡ behind_name def params others before at name (next_sign ts) ts

-- the lexemes behind a step, of which a step that goes on takes one at least
abbrev pub IsShorter : Step → List Lexeme → Type 0
IsShorter (steps.More pair rest) ts = length rest.now < length ts
IsShorter (steps.Closed pair rest) ts = length rest.now ≤ length ts
IsShorter (steps.Open pair rest) ts = length rest.now ≤ length ts

-- a step leaves no more lexemes than there were
abbrev pub IsWithin : Step → List Lexeme → Type 0
IsWithin (steps.More pair rest) ts = length rest.now ≤ length ts
IsWithin (steps.Closed pair rest) ts = length rest.now ≤ length ts
IsWithin (steps.Open pair rest) ts = length rest.now ≤ length ts
