-- The words of the examples, and what they ask.
use Rattle.std.proofs.Common.{◌≡◌, ℕ, Bool, true, false, pos, List, [], ◌∷◌, codes, Some, None, Result, Ok, refl, sym, subst, lit<}
use denote.Hole.Carrier.{out}
use Rattle.std.proofs.lemmas.Fmt.{decimal_digit}
use Rattle.agg_pipeline.specs.declared.step.Load.TheVariants.{Nothing}
use Rattle.cmd_parse.specs.Aggregate.{part_at, part_with}
use Rattle.cmd_parse.specs.AggregateNames.{part_of}
use Rattle.cmd_parse.specs.Aggregating.{Aggregating}
use Rattle.cmd_parse.specs.Asked.{Plain, CreateIndex, Aggregate, CursorRead}
use Rattle.cmd_parse.specs.Read.{read}
use Rattle.cmd_parse.specs.Words.{number_at}
use Rattle.cmd_parse.specs.declared.aggregate_words.CursorSpec.{CursorSpec}
use Rattle.cmd_parse.specs.declared.command.Verb.TheVariants.{Hset, Del}
use Rattle.ft_base.specs.Number.{int_of}
use Rattle.ft_base.specs.Reading.{parts_at}
use Rattle.ft_base.specs.declared.definition.FieldKind.TheVariants.{Text}
use Rattle.ft_base.specs.declared.definition.IndexDef.{IndexDef}
use Rattle.ft_base.specs.declared.query.Query.TheFolds.{fold_out-Query}
use Rattle.ft_base.specs.declared.query.Query.TheVariants as tree
use Rattle.ft_base.specs.declared.query.Query.TheViews.{out-Query}
use Rattle.ft_meaning.specs.Holds.{Has, holds_by, holds_step}
use Rattle.ft_schema.specs.Fields.{kind_at, field_option_at, field_option_with, field_options_at, is_past_options, field_at, fields_at}
use Rattle.ft_schema.specs.Names.{index_option_of, kind_of, field_option_of}
use Rattle.ft_schema.specs.Options.{option_at, option_with}
use Rattle.ft_schema.specs.Reading.{weight_at}
use Rattle.ft_schema.specs.Schema.{index_at, create, default_stops}
use Rattle.query_grammar.specs.Answer.{IsAnswer, IsMeaning}
use Rattle.query_grammar.specs.Form.{Side, Single}
use Rattle.query_grammar.specs.Grammar.{bare, one_part, one_side, part, single, something}
use Rattle.query_lex.specs.Lexemes.{lexemes, lexed, lexeme_at}
use Rattle.query_lex.specs.Roles.{text_role}
use Rattle.query_lex.specs.declared.fault.LexFault.{LexFault}
use Rattle.query_lex.specs.declared.lexeme.LexKind.TheVariants as kinds
use Rattle.query_lex.specs.declared.lexeme.Lexeme.{Lexeme}
use Rattle.query_lex.specs.declared.lexeme.Sign.TheVariants as signs
use Rattle.ft_machine.specs.History.{Gone, Readings}
use Rattle.history_core.specs.Entries.{Entry}

-- the entries of a history that has commands alone, of which nothing else is read
abbrev pub Command : Type 0
Command = Entry (Unit {0}) (Unit {0}) (Unit {0})

abbrev pub commands_alone : Readings (Unit {0}) (Unit {0}) (Unit {0})
commands_alone = record { serial = λ snapshot. 0; live = λ snapshot id. false; pictures = λ snapshot name marker. false; became = λ answer. Gone }

-- an index of a TEXT field
abbrev pub create_words : List (List ℕ)
create_words = codes "FT.CREATE" ∷ codes "ix" ∷ codes "SCHEMA" ∷ codes "t" ∷ codes "TEXT" ∷ []

abbrev pub index : IndexDef
index = record {
  name = codes "ix";
  serial = 1;
  prefixes = [];
  stops = record { words = default_stops };
  fields = record { name = codes "t"; alias = codes "t"; kind = Text; sortable = false; unf = false; noindex = false } ∷ [];
}

pub create_asks : read 1 create_words ≡ Ok (CreateIndex index)
unfolding index_option_of kind_of field_option_of weight_at parts_at option_at option_with kind_at field_option_at field_option_with field_options_at is_past_options field_at fields_at index_at create
create_asks = refl

-- a document
abbrev pub set_words : List ℕ → List (List ℕ)
set_words key = codes "HSET" ∷ key ∷ codes "t" ∷ codes "red" ∷ []

pub set_asks : (number : ℕ) (key : List ℕ) → read number (set_words key) ≡ Ok (Plain Hset (key ∷ codes "t" ∷ codes "red" ∷ []))
set_asks number key = refl

abbrev pub delete_words : List ℕ → List (List ℕ)
delete_words key = codes "DEL" ∷ key ∷ []

pub delete_asks : (number : ℕ) (key : List ℕ) → read number (delete_words key) ≡ Ok (Plain Del (key ∷ []))
delete_asks number key = refl

-- a cursor over all documents, of one row a read
abbrev pub open_words : List (List ℕ)
open_words = codes "FT.AGGREGATE" ∷ codes "ix" ∷ codes "*" ∷ codes "WITHCURSOR" ∷ codes "COUNT" ∷ codes "1" ∷ []

abbrev pub spec : CursorSpec
spec = record { count = 1; max_idle = 300000 }

abbrev pub what : Aggregating
what = record { index = codes "ix"; query = codes "*"; load = Nothing; steps = []; params = []; cursor = Some spec }

is_1 : int_of (codes "1") ≡ Some (pos 1)
unfolding int_of
is_1 = rw (decimal_digit 1 (lit< tt)) refl

pub open_asks : (number : ℕ) → read number open_words ≡ Ok (Aggregate what)
unfolding part_of part_with part_at parts_at number_at
open_asks number = rw (is_1) refl

-- the same, of five rows a read
abbrev pub wide_words : List (List ℕ)
wide_words = codes "FT.AGGREGATE" ∷ codes "ix" ∷ codes "*" ∷ codes "WITHCURSOR" ∷ codes "COUNT" ∷ codes "5" ∷ []

abbrev pub wide_spec : CursorSpec
wide_spec = record { count = 5; max_idle = 300000 }

abbrev pub wide_what : Aggregating
wide_what = record { index = codes "ix"; query = codes "*"; load = Nothing; steps = []; params = []; cursor = Some wide_spec }

is_5 : int_of (codes "5") ≡ Some (pos 5)
unfolding int_of
is_5 = rw (decimal_digit 5 (lit< tt)) refl

pub wide_asks : (number : ℕ) → read number wide_words ≡ Ok (Aggregate wide_what)
unfolding part_of part_with part_at parts_at number_at
wide_asks number = rw (is_5) refl

-- a read of the cursor of the event 4
abbrev pub read_words : List (List ℕ)
read_words = codes "FT.CURSOR" ∷ codes "READ" ∷ codes "ix" ∷ codes "4" ∷ []

is_4 : int_of (codes "4") ≡ Some (pos 4)
unfolding int_of
is_4 = rw (decimal_digit 4 (lit< tt)) refl

pub read_asks : (number : ℕ) → read number read_words ≡ Ok (CursorRead (codes "ix") 4 None)
unfolding number_at
read_asks number = rw (is_4) refl

-- the query
star : Lexeme
star = record { at = 0; kind = kinds.Sign signs.Star }

star_lexed : lexemes (codes "*") ≡ Ok (star ∷ [])
unfolding star lexemes lexed lexeme_at text_role
star_lexed = refl

star_means : IsMeaning index [] (star ∷ []) tree.All
unfolding star
star_means = record { form = Some (Side (Single star)); spelled = something (one_side (one_part (part (bare (single star refl))))); clean = refl; tree = refl }

pub star_answers : IsAnswer index [] (codes "*") (Ok tree.All)
star_answers = subst (λ (l : Result (List Lexeme) LexFault). Rattle.query_grammar.specs.Answer.Answers index [] 1 l (Ok tree.All)) (sym star_lexed) star_means

-- it holds of every document
pub all-hold : (has : Has) → holds_by has tree.All ≡ true
unfolding out-Query out
all-hold has = fold_out-Query Bool (holds_step has) tree.All
