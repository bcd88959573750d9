-- What an aggregate asks is made of its words, and the numbers of its cursor are within their limits.
use Rattle.std.proofs.Common.{◌≡◌, Bool, true, false, cond, List, [], ◌∷◌, Option, Some, None, Result, Ok, Err, refl, subst, IfSome}
use Rattle.std.specs.Prelude.{unwrap_or}
use Rattle.ft_base.proofs.PartsLaws.{all_keep}
use Rattle.ft_base.proofs.ReadingLaws.{both}
use Rattle.ft_base.specs.Reading.{◌>>=◌, parts_at}
use Rattle.ft_base.specs.declared.query.Param.{Param}
use Rattle.ft_schema.proofs.LawfulLaws.{is_ok_of}
use Rattle.cmd_parse.specs.Aggregate.{all_parts_at, is_past, no_parts, part_at, part_with, with_cursor_at, with_params_at}
use Rattle.cmd_parse.specs.AggregateNames.{part_of}
use Rattle.cmd_parse.specs.AggregateSteps.{load_at, step_at}
use Rattle.cmd_parse.specs.AggregateWords.{cursor_at}
use Rattle.cmd_parse.specs.Aggregating.{Aggregating, aggregate, aggregate_with, aggregating_of}
use Rattle.cmd_parse.specs.LawfulAggregate.{IsLawfulAggregate}
use Rattle.cmd_parse.specs.LawfulCursor.{IsLawfulCursor}
use Rattle.cmd_parse.specs.LawfulSearch.{AreParams}
use Rattle.cmd_parse.specs.Options.{dialect_at}
use Rattle.cmd_parse.specs.Params.{params_at}
use Rattle.cmd_parse.specs.Search.{is_at_end}
use Rattle.cmd_parse.specs.Words.{Word, Read, fault, number_at}
use Rattle.cmd_parse.specs.declared.aggregate_names.PartName.{PartName}
use Rattle.cmd_parse.specs.declared.aggregate_names.PartName.TheVariants as part
use Rattle.cmd_parse.specs.declared.aggregate_parts.Parts.{Parts}
use Rattle.cmd_parse.specs.declared.aggregate_words.CursorSpec.{CursorSpec}
use Rattle.cmd_parse.specs.declared.stop.Cause.TheVariants.{Syntax}
use Rattle.cmd_parse.specs.declared.stop.Stop.{Stop}
use Rattle.cmd_parse.proofs.AggregateBehind.{Leaves, cursor-keeps, leaves-read, load-keeps, number-keeps, of-read, step-keeps}
use Rattle.cmd_parse.proofs.BehindLaws.{Behind, behind-next}
use Rattle.cmd_parse.proofs.CursorLaws.{cursor_at-Ok}
use Rattle.cmd_parse.proofs.OptionLaws.{dialect_at-Ok}
use Rattle.cmd_parse.proofs.ParamLaws.{are-no-params, params_at-Ok}

-- the parameters are made of the command's words, and the cursor's numbers are lawful
record AreMade (all : List Word) (params : Option (List Param)) (cursor : Option CursorSpec) : Type 0 where
  pub params_are : IfSome params (λ ps. AreParams all ps)
  pub cursor_is : IfSome cursor IsLawfulCursor

abbrev IsMade : List Word → Parts → Type 0
IsMade all parts = AreMade all parts.params parts.cursor

-- and the words left are the last of the command's
abbrev Holds : List Word → Parts → List Word → Type 0
Holds all parts words = IsMade all parts × Behind all words

abbrev Holding : List Word → Read Parts → Type 0
Holding all (Ok read) = Holds all read.0 read.1
Holding all (Err stop) = Unit {0}

goes-on : {A : Type 0} (all : List Word) (first : Read A) (next : A × List Word → Read Parts) → Leaves all first
    → ((x : A) (words : List Word) → Behind all words → Holding all (next (x, words))) → Holding all (first >>= next)
goes-on all (Ok read) next leaves after = after read.0 read.1 leaves
goes-on all (Err stop) next leaves after = tt

params-hold : (all : List Word) (parts : Parts) (words : List Word) → Holds all parts words → Holding all (with_params_at parts words)
params-hold all parts words holds = by_read (params_at words) (λ read e. params_at-Ok all words read holds.1 e)
  where
    by_read : (r : Read (List Param)) → ((read : List Param × List Word) → r ≡ Ok read → Behind all read.1 × AreParams all read.0)
        → Holding all (r >>= λ params. Ok (record parts { params = Some params.0 }, params.1))
    by_read (Ok read) says =
        let are = says read refl in
        (record { params_are = are.1; cursor_is = holds.0.cursor_is }, are.0)
    by_read (Err stop) says = tt

cursor-holds : (all : List Word) (parts : Parts) (words : List Word) → Holds all parts words → Holding all (with_cursor_at parts words)
cursor-holds all parts words holds = by_read (cursor_at words) (λ read e. (cursor_at-Ok words read e, of-read all (cursor_at words) read (cursor-keeps all words holds.1) e))
  where
    by_read : (r : Read CursorSpec) → ((read : CursorSpec × List Word) → r ≡ Ok read → IsLawfulCursor read.0 × Behind all read.1)
        → Holding all (r >>= λ cursor. Ok (record parts { cursor = Some cursor.0 }, cursor.1))
    by_read (Ok read) says =
        let are = says read refl in
        (record { params_are = holds.0.params_are; cursor_is = are.0 }, are.1)
    by_read (Err stop) says = tt

-- each part keeps it
part_with-holds : (all : List Word) (name : PartName) (parts : Parts) (from words : List Word) → Holds all parts words → Holding all (part_with name parts from words)
unfolding part_with
part_with-holds all part.Verbatim parts from words holds = holds
part_with-holds all part.Timeout parts from words holds = goes-on all (number_at words) _ (number-keeps all words holds.1) (λ n rest b. (holds.0, b))
part_with-holds all part.Dialect parts from words holds =
    goes-on all (dialect_at words) _ (leaves-read all words (dialect_at words) holds.1 (λ read e. dialect_at-Ok all words read holds.1 e)) (λ n rest b. (holds.0, b))
part_with-holds all part.Params parts from words holds = params-hold all parts words holds
part_with-holds all part.Cursor parts from words holds = cursor-holds all parts words holds
part_with-holds all part.Load parts from words holds = goes-on all (load_at words) _ (load-keeps all words holds.1) (λ load rest b. (holds.0, b))
part_with-holds all (part.Step name) parts from words holds = goes-on all (step_at name words) _ (step-keeps all name words holds.1) (λ step rest b. (holds.0, b))
part_with-holds all part.LeftOut parts from words holds = tt
part_with-holds all part.Other parts from words holds = tt

part_at-holds : (all : List Word) (parts : Parts) (words : List Word) → Holds all parts words → Holding all (part_at parts words)
unfolding part_at
part_at-holds all parts [] holds = tt
part_at-holds all parts (word ∷ words) holds = by_test (is_past parts (part_of word))
  where
    by_test : (past : Bool) → Holding all (cond {A = Read Parts} past (fault Syntax (word ∷ words)) (part_with (part_of word) parts (word ∷ words) words))
    by_test true = tt
    by_test false = part_with-holds all (part_of word) parts (word ∷ words) words (holds.0, behind-next all word words holds.1)

of-holding : (all : List Word) (r : Read Parts) (read : Parts × List Word) → Holding all r → r ≡ Ok read → Holds all read.0 read.1
of-holding all (Ok other) read holds e =
    let same : other ≡ read = is_ok_of e in
    subst (λ (x : Parts × List Word). Holds all x.0 x.1) same holds
of-holding all (Err stop) read holds e = absurd (cc)

none-made : (all : List Word) → IsMade all no_parts
none-made all = record { params_are = tt; cursor_is = tt }

parts-are : (all words : List Word) (parts : Parts) → Behind all words → all_parts_at words ≡ Ok parts → IsMade all parts
parts-are all words parts behind e =
    let read = both (parts_at is_at_end part_at no_parts words) _ _ e in
    let holds = all_keep (Holds all) is_at_end part_at (λ before rest next h is. of-holding all (part_at before rest) next (part_at-holds all before rest h) is) no_parts words read.read (none-made all, behind) read.first_is in
    let same : read.read.0 ≡ parts = is_ok_of read.next_is in
    subst (IsMade all) same holds.0

params-or-none : (all : List Word) (params : Option (List Param)) → IfSome params (λ ps. AreParams all ps) → AreParams all (unwrap_or params [])
params-or-none all None are = are-no-params all
params-or-none all (Some params) are = are

with-lawful : (name index query : Word) (words : List Word) (read : Result Parts Stop) (what : Aggregating)
    → ((parts : Parts) → read ≡ Ok parts → IsMade (name ∷ index ∷ query ∷ words) parts)
    → aggregate_with index query (name ∷ index ∷ query ∷ words) read ≡ Ok what → IsLawfulAggregate (name ∷ index ∷ query ∷ words) what
with-lawful name index query words (Err stop) what made e = absurd (cc)
with-lawful name index query words (Ok parts) what made e =
    let all : List Word = name ∷ index ∷ query ∷ words in
    let is = made parts refl in
    let same : aggregating_of index query parts ≡ what = is_ok_of e in
    subst (IsLawfulAggregate all) same (record { index = refl; query = refl; params = params-or-none all parts.params is.params_are; cursor = is.cursor_is })

-- what an aggregate asks is lawful
pub aggregate-lawful : (words : List Word) (what : Aggregating) → aggregate words ≡ Ok what → IsLawfulAggregate words what
aggregate-lawful [] what e = absurd (cc)
aggregate-lawful (name ∷ []) what e = absurd (cc)
aggregate-lawful (name ∷ index ∷ []) what e = absurd (cc)
aggregate-lawful (name ∷ index ∷ query ∷ words) what e =
    let all : List Word = name ∷ index ∷ query ∷ words in
    let behind : Behind all words = record { before = name ∷ index ∷ query ∷ []; whole = refl } in
    with-lawful name index query words (all_parts_at words) what (λ parts read. parts-are all words parts behind read) e
