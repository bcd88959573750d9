-- The faults of a form other than those of its grammar: those of its lexemes from the left, and at one lexeme in the order
-- of their numbers. Only that a part cannot have its attributes is told at the arrow before them.
use Rattle.std.specs.Prelude.{ℕ, zero, suc, List, [], ◌∷◌, ◌++◌, Bool, true, false, not, ◌&&◌, ◌||◌, Option, Some, None, is_none, slice_get, if◌then◌else◌, codes}
use Rattle.std.specs.List.{list_any, flat_map}
use Rattle.std.specs.Str.{bytes_eq}
use Rattle.ft_base.specs.Kinds.{is_numeric, is_tag, is_text}
use Rattle.ft_base.specs.declared.definition.Field.{Field}
use Rattle.ft_base.specs.declared.definition.FieldKind.{FieldKind}
use Rattle.ft_base.specs.declared.definition.IndexDef.{IndexDef}
use Rattle.ft_base.specs.declared.query.Fields.{Fields}
use Rattle.ft_base.specs.declared.query.Fields.TheVariants as asked
use Rattle.ft_base.specs.declared.query.Param.{Param}
use Rattle.ft_base.specs.declared.query.Query.{Query}
use Rattle.query_lex.specs.declared.lexeme.Lexeme.{Lexeme}
use Rattle.query_lex.specs.declared.lexeme.LexKind.{LexKind}
use Rattle.query_lex.specs.declared.lexeme.LexKind.TheVariants as kinds
use Rattle.query_grammar.specs.declared.fault.QueryFault.{QueryFault}
use Rattle.query_grammar.specs.declared.fault.QueryFault.TheVariants.{UnknownField, WrongKind, NoParam, TooDeep, OutOfScope}
use Rattle.query_grammar.specs.Form.{Form, Pair, Single, EmptyGroup, Group, Denied, Optional, Named, Range, Tags, With, Both, Side, Either}
use Rattle.query_grammar.specs.Meaning.{asks_order, fields_of, name_of, number_of_alias, parts_of}
use Rattle.query_grammar.specs.Shape.{Shape, One, Several, Else, shape_of}
use Rattle.query_grammar.specs.Values.{param_of}

abbrev pub one_if : Bool → QueryFault → List QueryFault
one_if holds fault = if holds then fault ∷ [] else []

-- with so many levels left, a sign that opens one
abbrev pub opened : ℕ → ℕ → List QueryFault
opened zero at = TooDeep at ∷ []
opened (suc levels) at = []

abbrev pub lower : ℕ → ℕ
lower zero = zero
lower (suc levels) = levels

-- a parameter without a value
abbrev pub param_faults : List Param → ℕ → List ℕ → List QueryFault
param_faults params at name = one_if (is_none (param_of params name)) (NoParam at)

-- a lexeme that stands for a value, a tag or a part
abbrev pub lexeme_faults : List Param → ℕ → LexKind → List QueryFault
lexeme_faults params at (kinds.Param name) = param_faults params at name
lexeme_faults params at (kinds.ParamPrefix name) = param_faults params at name
lexeme_faults params at (kinds.Foreign text) = OutOfScope at ∷ []
lexeme_faults params at other = []

abbrev pub faults_at : List Param → Lexeme → List QueryFault
faults_at params t = lexeme_faults params t.at t.kind

abbrev pub is_foreign : LexKind → Bool
is_foreign (kinds.Foreign text) = true
is_foreign other = false

-- a name of a field
abbrev pub name_faults : List Field → Lexeme → List QueryFault
name_faults fields t = one_if (is_none (number_of_alias fields (name_of t.kind))) (UnknownField t.at) ++ one_if (is_foreign t.kind) (OutOfScope t.at)

-- whether some of these fields is of another kind than passes the test
abbrev pub is_of : (FieldKind → Bool) → Option Field → Bool
is_of test None = true
is_of test (Some field) = test field.kind

abbrev pub has_other : (FieldKind → Bool) → List Field → Fields → Bool
has_other test fields asked.All = false
has_other test fields (asked.Named numbers) = list_any (λ number. not (is_of test (slice_get fields number))) numbers

-- Where the target of a field begins, and the kind that it needs: NUMERIC for a range, TAG for tags, else TEXT.
abbrev pub start_of : Form → ℕ
start_of (Single t) = t.at
start_of (EmptyGroup p) = p
start_of (Group p a) = p
start_of (Range p low high) = p
start_of (Tags p ts) = p
start_of (With a p pairs) = start_of a
start_of other = 0

abbrev pub needs : Form → FieldKind → Bool
needs (Range p low high) kind = is_numeric kind
needs (Tags p ts) kind = is_tag kind
needs other kind = is_text kind

abbrev pub kind_faults : List Field → Fields → Form → List QueryFault
kind_faults fields names target = one_if (has_other (needs target) fields names) (WrongKind (start_of target))

-- an attribute: its name is known, and its value has one
abbrev pub is_known : List ℕ → Bool
is_known name = bytes_eq name (codes "slop") || (bytes_eq name (codes "inorder") || bytes_eq name (codes "weight"))

abbrev pub value_faults : List Param → Option Lexeme → List QueryFault
value_faults params None = []
value_faults params (Some t) = faults_at params t

abbrev pub pair_faults : List Param → Pair → List QueryFault
pair_faults params pair = one_if (not (is_known pair.name)) (OutOfScope pair.at) ++ value_faults params pair.value

-- $slop and $inorder are of words alone; a part that is cut may have them.
abbrev pub is_else : Shape → Bool
is_else (One fields word) = false
is_else (Several fields words) = false
is_else Else = true

abbrev pub has_no_order : List Query → Bool
has_no_order [] = false
has_no_order (q ∷ qs) = is_else (shape_of q)

abbrev pub arrow_faults : ℕ → List Pair → List Query → List QueryFault
arrow_faults at pairs left = one_if (asks_order pairs && has_no_order left) (OutOfScope at)

abbrev pub attribute_faults : List Param → ℕ → List Pair → List Query → List QueryFault
attribute_faults params at pairs left = arrow_faults at pairs left ++ flat_map (pair_faults params) pairs

-- The faults of a form of an index, within these fields and with so many levels left.
abbrev pub faults_of : IndexDef → List Param → Fields → ℕ → Form → List QueryFault
faults_of def params fields levels (Single t) = faults_at params t
faults_of def params fields levels (EmptyGroup p) = opened levels p
faults_of def params fields levels (Group p a) = opened levels p ++ faults_of def params fields (lower levels) a
faults_of def params fields levels (Denied p a) = opened levels p ++ faults_of def params fields (lower levels) a
faults_of def params fields levels (Optional p a) = opened levels p ++ faults_of def params fields (lower levels) a
faults_of def params fields levels (Named p names a) =
    opened levels p ++ (flat_map (name_faults def.fields) names
    ++ (kind_faults def.fields (fields_of def.fields names) a ++ faults_of def params (fields_of def.fields names) (lower levels) a))
faults_of def params fields levels (Range p low high) = faults_at params low.value ++ faults_at params high.value
faults_of def params fields levels (Tags p ts) = flat_map (faults_at params) ts
faults_of def params fields levels (With a p pairs) = faults_of def params fields levels a ++ attribute_faults params p pairs (parts_of def params fields a)
faults_of def params fields levels (Both a b) = faults_of def params fields levels a ++ faults_of def params fields levels b
faults_of def params fields levels (Side a) = faults_of def params fields levels a
faults_of def params fields levels (Either a b) = faults_of def params fields levels a ++ faults_of def params fields levels b

-- how many levels a query may have within one another
abbrev pub most_levels : ℕ
most_levels = 32

-- the faults of a whole text
abbrev pub faults : IndexDef → List Param → Option Form → List QueryFault
faults def params None = []
faults def params (Some a) = faults_of def params asked.All most_levels a
