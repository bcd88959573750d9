-- The tree that a form gives, once stop words are cut. A part gives the list of what is left of it: nothing where it is
-- cut, several where it is parts side by side, or sides of a union.
use Rattle.std.specs.Prelude.{ℕ, ℤ, List, [], ◌∷◌, ◌++◌, map, Bool, true, false, ◌||◌, int_le, Option, Some, None, position, slice_get, if◌then◌else◌, codes}
use Rattle.std.specs.List.{list_any, filter_map}
use Rattle.std.specs.Option.{option_and_then, unwrap_or}
use Rattle.std.specs.Str.{bytes_eq}
use Rattle.ft_base.specs.declared.definition.Field.{Field}
use Rattle.ft_base.specs.declared.definition.FieldKind.{FieldKind}
use Rattle.ft_base.specs.declared.definition.FieldKind.TheVariants as field_kind
use Rattle.ft_base.specs.declared.definition.IndexDef.{IndexDef}
use Rattle.ft_base.specs.declared.query.Fields.{Fields}
use Rattle.ft_base.specs.declared.query.Fields.TheVariants as asked
use Rattle.ft_base.specs.declared.query.Param.{Param}
use Rattle.ft_base.specs.declared.query.Query.{Query}
use Rattle.ft_base.specs.declared.query.Query.TheVariants as tree
use Rattle.ft_base.specs.declared.query.TagPart.{TagPart}
use Rattle.query_lex.specs.declared.lexeme.Lexeme.{Lexeme}
use Rattle.query_lex.specs.declared.lexeme.LexKind.{LexKind}
use Rattle.query_lex.specs.declared.lexeme.LexKind.TheVariants as kinds
use Rattle.query_lex.specs.declared.lexeme.Sign.TheVariants as signs
use Rattle.token_text.specs.Tokens.{is_stop, lowered, tokens}
use Rattle.token_text.specs.declared.token.Token.{Token}
use Rattle.field_text.specs.Bounds.{bound_of, greatest_number, high_of, least_number, low_of}
use Rattle.field_text.specs.declared.bounds.Bound.{Bound}
use Rattle.query_grammar.specs.Form.{Form, Edge, Pair, Single, EmptyGroup, Group, Denied, Optional, Named, Range, Tags, With, Both, Side, Either}
use Rattle.query_grammar.specs.Shape.{Shape, One, Several, Else, shape_of}
use Rattle.query_grammar.specs.Values.{flag_of, param_of, slop_of, value_of}

-- What is left of parts side by side, and of the sides of a union. One that is alone stands for itself.
abbrev pub all_of : List Query → List Query
all_of [] = []
all_of (q ∷ []) = q ∷ []
all_of (q ∷ r ∷ qs) = tree.And (q ∷ r ∷ qs) ∷ []

abbrev pub any_of : List Query → List Query
any_of [] = []
any_of (q ∷ []) = q ∷ []
any_of (q ∷ r ∷ qs) = tree.Or (q ∷ r ∷ qs) ∷ []

abbrev pub denied : List Query → List Query
denied [] = []
denied (q ∷ qs) = tree.Not q ∷ []

abbrev pub optional : List Query → List Query
optional [] = []
optional (q ∷ qs) = tree.Optional q ∷ []

-- the bytes of a name
abbrev pub name_of : LexKind → List ℕ
name_of (kinds.Word text) = text
name_of (kinds.Foreign text) = text
name_of other = []

-- the number of the field with an alias
abbrev pub number_of_alias : List Field → List ℕ → Option ℕ
number_of_alias fields alias = position (λ (field : Field). bytes_eq alias field.alias) fields

-- the fields of these names, in their order
abbrev pub fields_of : List Field → List Lexeme → Fields
fields_of fields names = asked.Named (filter_map (λ (name : Lexeme). number_of_alias fields (name_of name.kind)) names)

-- the one field of a range or of tags
abbrev pub first_of : Fields → ℕ
first_of asked.All = 0
first_of (asked.Named []) = 0
first_of (asked.Named (number ∷ numbers)) = number

-- a word, which is lowered, where it is no stop word
abbrev pub word_parts : List (List ℕ) → Fields → List ℕ → List Query
word_parts stops fields word = if is_stop stops (lowered word) then [] else tree.Word fields (lowered word) ∷ []

-- the words of a quote: a phrase where there are two at least
abbrev pub quoted : Fields → List (List ℕ) → List Query
quoted fields [] = []
quoted fields (word ∷ []) = tree.Word fields word ∷ []
quoted fields (word ∷ next ∷ words) = tree.Phrase fields (word ∷ next ∷ words) (Some 0) true ∷ []

abbrev pub quote_parts : List (List ℕ) → Fields → List ℕ → List Query
quote_parts stops fields text = quoted fields (map (λ (token : Token). token.word) (tokens text stops))

-- a part by itself; a parameter's value is one word, as it is
abbrev pub atom_parts : List (List ℕ) → List Param → Fields → LexKind → List Query
atom_parts stops params fields (kinds.Word word) = word_parts stops fields word
atom_parts stops params fields (kinds.Param name) = word_parts stops fields (unwrap_or (param_of params name) [])
atom_parts stops params fields (kinds.Prefix word) = tree.Prefix fields (lowered word) ∷ []
atom_parts stops params fields (kinds.ParamPrefix name) = tree.Prefix fields (lowered (unwrap_or (param_of params name) [])) ∷ []
atom_parts stops params fields (kinds.Quote text) = quote_parts stops fields text
atom_parts stops params fields (kinds.Sign signs.Star) = tree.All ∷ []
atom_parts stops params fields other = []

-- The ends of a range. One without a value, which has a fault of its own, is open.
abbrev pub range_low : Bool → Option Bound → ℤ
range_low excluded None = least_number
range_low excluded (Some bound) = low_of excluded bound

abbrev pub range_high : Bool → Option Bound → ℤ
range_high excluded None = greatest_number
range_high excluded (Some bound) = high_of excluded bound

abbrev pub edge_bound : List Param → Edge → Option Bound
edge_bound params edge = option_and_then bound_of (value_of params edge.value.kind)

-- A range without a number finds nothing.
abbrev pub range_of : ℕ → ℤ → ℤ → Query
range_of field low high = if int_le low high then tree.Range field low high else tree.Empty

-- whether case matters for the tags of a field
abbrev pub case_of : Option Field → Bool
case_of None = false
case_of (Some field) = case_with field.kind
  where
    case_with : FieldKind → Bool
    case_with field_kind.Text = false
    case_with (field_kind.Tag separator case) = case
    case_with field_kind.Numeric = false

abbrev pub tag_text : Bool → List ℕ → List ℕ
tag_text case text = if case then text else lowered text

abbrev pub tag_part : List Param → Bool → LexKind → TagPart
tag_part params case (kinds.Tag text prefix) = record { text = tag_text case text; prefix = prefix }
tag_part params case (kinds.Param name) = record { text = tag_text case (unwrap_or (param_of params name) []); prefix = false }
tag_part params case other = record { text = []; prefix = false }

-- the value of the attribute of this name, where it is there
abbrev pub attribute_of : List Param → List ℕ → List Pair → Option (List ℕ)
attribute_of params name [] = None
attribute_of params name (pair ∷ pairs) =
    if bytes_eq name pair.name then option_and_then (λ (value : Lexeme). value_of params value.kind) pair.value else attribute_of params name pairs

-- whether attributes ask how words stand: $slop or $inorder is among them
abbrev pub asks_order : List Pair → Bool
asks_order pairs = list_any (λ (pair : Pair). bytes_eq pair.name (codes "slop") || bytes_eq pair.name (codes "inorder")) pairs

abbrev pub is_quote : Form → Bool
is_quote (Single t) = is_quote_kind t.kind
  where
    is_quote_kind : LexKind → Bool
    is_quote_kind (kinds.Quote text) = true
    is_quote_kind other = false
is_quote other = false

-- The slop and the order of a phrase: those given, else those of a quote, exact and in order, or of a group, neither.
abbrev pub slop_in : List Param → Bool → List Pair → Option ℕ
slop_in params quote pairs = slop_or (attribute_of params (codes "slop") pairs)
  where
    slop_or : Option (List ℕ) → Option ℕ
    slop_or None = if quote then Some 0 else None
    slop_or (Some value) = slop_of value

abbrev pub order_in : List Param → Bool → List Pair → Bool
order_in params quote pairs = order_or (attribute_of params (codes "inorder") pairs)
  where
    order_or : Option (List ℕ) → Bool
    order_or None = quote
    order_or (Some value) = unwrap_or (flag_of value) quote

-- words that stand as is asked; one word stays as it is
abbrev pub arranged : Option ℕ → Bool → Query → Shape → Query
arranged slop in_order q (One fields word) = q
arranged slop in_order q (Several fields words) = tree.Phrase fields words slop in_order
arranged slop in_order q Else = q

abbrev pub attributed : List Param → Bool → List Pair → List Query → List Query
attributed params quote pairs [] = []
attributed params quote pairs (q ∷ qs) =
    if asks_order pairs then arranged (slop_in params quote pairs) (order_in params quote pairs) q (shape_of q) ∷ [] else q ∷ []

-- What is left of a form of an index, within these fields. The innermost names of fields decide.
abbrev pub parts_of : IndexDef → List Param → Fields → Form → List Query
parts_of def params fields (Single t) = atom_parts def.stops.words params fields t.kind
parts_of def params fields (EmptyGroup p) = []
parts_of def params fields (Group p a) = any_of (parts_of def params fields a)
parts_of def params fields (Denied p a) = denied (parts_of def params fields a)
parts_of def params fields (Optional p a) = optional (parts_of def params fields a)
parts_of def params fields (Named p names a) = parts_of def params (fields_of def.fields names) a
parts_of def params fields (Range p low high) =
    range_of (first_of fields) (range_low low.excluded (edge_bound params low)) (range_high high.excluded (edge_bound params high)) ∷ []
parts_of def params fields (Tags p ts) =
    tree.Tags (first_of fields) (map (λ (t : Lexeme). tag_part params (case_of (slice_get def.fields (first_of fields))) t.kind) ts) ∷ []
parts_of def params fields (With a p pairs) = attributed params (is_quote a) pairs (parts_of def params fields a)
parts_of def params fields (Both a b) = parts_of def params fields a ++ parts_of def params fields b
parts_of def params fields (Side a) = all_of (parts_of def params fields a)
parts_of def params fields (Either a b) = parts_of def params fields a ++ all_of (parts_of def params fields b)

-- a union, of which one side may be left, or none
abbrev pub union_of : List Query → Query
union_of [] = tree.Empty
union_of (q ∷ []) = q
union_of (q ∷ r ∷ qs) = tree.Or (q ∷ r ∷ qs)

-- the tree of a whole text
abbrev pub query_of : IndexDef → List Param → Option Form → Query
query_of def params None = tree.Empty
query_of def params (Some a) = union_of (parts_of def params asked.All a)
