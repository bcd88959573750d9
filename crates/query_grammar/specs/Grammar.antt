-- The grammar of queries (RediSearch, query dialect 2), as a relation from lexemes to what they say.
--
--   query := union?          union := inter (| inter)*          inter := unary+
--   unary := (- | ~) unary  |  @ name (| name)* : target  |  part
--   target := part  |  [ bound bound ]  |  { (tag | param)* }          of one name alone where it is in brackets or braces
--   part := atom (=> { (pair (; pair)* ;?)? })?          atom := word | param | prefix | quote | *  |  ( union? )
--   bound := (? value          pair := param : value          value := raw | param
use Rattle.std.specs.Prelude.{ℕ, List, [], ◌∷◌, ◌++◌, Bool, true, false, ◌&&◌, not, IsTrue, Option, Some, None}
use Rattle.std.specs.List.{list_all, list_any}
use Rattle.std.specs.Str.{bytes_eq}
use Rattle.ft_base.specs.declared.query.Param.{Param}
use Rattle.field_text.specs.Bounds.{bound_of}
use Rattle.query_lex.specs.declared.lexeme.Lexeme.{Lexeme}
use Rattle.query_lex.specs.declared.lexeme.LexKind.{LexKind}
use Rattle.query_lex.specs.declared.lexeme.LexKind.TheVariants as kinds
use Rattle.query_lex.specs.declared.lexeme.Sign.{Sign}
use Rattle.query_lex.specs.declared.lexeme.Sign.TheVariants as signs
use Rattle.query_grammar.specs.Form.{Form, Edge, Pair, Single, EmptyGroup, Group, Denied, Optional, Named, Range, Tags, With, Both, Side, Either}
use Rattle.query_grammar.specs.Values.{fits_attribute, is_value, passes, value_of}
use Rattle.std.specs.Option.{is_some}

-- a sign, and a parameter, at an offset
abbrev pub sign : ℕ → Sign → Lexeme
sign at s = record { at = at; kind = kinds.Sign s }

abbrev pub param : ℕ → List ℕ → Lexeme
param at name = record { at = at; kind = kinds.Param name }

-- a part by itself; a lexeme of what is left out counts as a word
abbrev pub is_atom : LexKind → Bool
is_atom (kinds.Word text) = true
is_atom (kinds.Foreign text) = true
is_atom (kinds.Prefix text) = true
is_atom (kinds.Param name) = true
is_atom (kinds.ParamPrefix name) = true
is_atom (kinds.Quote text) = true
is_atom (kinds.Sign signs.Star) = true
is_atom other = false

-- a name of a field
abbrev pub is_field_name : LexKind → Bool
is_field_name (kinds.Word text) = true
is_field_name (kinds.Foreign text) = true
is_field_name other = false

-- a piece in the braces of tags
abbrev pub is_tag : LexKind → Bool
is_tag (kinds.Tag text prefix) = true
is_tag (kinds.Param name) = true
is_tag other = false

abbrev pub is_bound : List ℕ → Bool
is_bound text = is_some (bound_of text)

-- a value that may end a range, and one that an attribute may have
abbrev pub is_edge : List Param → LexKind → Bool
is_edge params kind = is_value kind && passes is_bound (value_of params kind)

abbrev pub is_attribute : List Param → List ℕ → LexKind → Bool
is_attribute params name kind = is_value kind && passes (fits_attribute name) (value_of params kind)

abbrev pub has_name : List (List ℕ) → List ℕ → Bool
has_name names name = list_any (bytes_eq name) names

-- the names of a field
pub data Names : List Lexeme → List Lexeme → Type 0 where
  last : (t : Lexeme) → IsTrue (is_field_name t.kind) → Names (t ∷ []) (t ∷ [])
  more : (t : Lexeme) (p : ℕ) {ts names : List Lexeme} → IsTrue (is_field_name t.kind) → Names ts names → Names (t ∷ sign p signs.Pipe ∷ ts) (t ∷ names)

-- an end of a range
pub data IsEdge (params : List Param) : List Lexeme → Edge → Type 0 where
  included : (t : Lexeme) → IsTrue (is_edge params t.kind) → IsEdge params (t ∷ []) (record { excluded = false; value = t })
  excluded : (p : ℕ) (t : Lexeme) → IsTrue (is_edge params t.kind) → IsEdge params (sign p signs.Open ∷ t ∷ []) (record { excluded = true; value = t })

-- the attributes behind those of some names, of which none comes again
pub data Pairs (params : List Param) : List (List ℕ) → List Lexeme → List Pair → Type 0 where
  none : (before : List (List ℕ)) → Pairs params before [] []
  last : (before : List (List ℕ)) (p q : ℕ) (name : List ℕ) (t : Lexeme) → IsTrue (not (has_name before name)) → IsTrue (is_attribute params name t.kind)
      → Pairs params before (param p name ∷ sign q signs.Colon ∷ t ∷ []) (record { at = p; name = name; value = Some t } ∷ [])
  more : (before : List (List ℕ)) (p q r : ℕ) (name : List ℕ) (t : Lexeme) {ts : List Lexeme} {pairs : List Pair}
      → IsTrue (not (has_name before name)) → IsTrue (is_attribute params name t.kind) → Pairs params (name ∷ before) ts pairs
      → Pairs params before (param p name ∷ sign q signs.Colon ∷ t ∷ sign r signs.Semi ∷ ts) (record { at = p; name = name; value = Some t } ∷ pairs)

pub data Sort : Type 0 where
  Union : Sort
  Inter : Sort
  Unary : Sort
  Part : Sort
  Atom : Sort

-- The lexemes of this sort say this.
pub data Spells (params : List Param) : Sort → List Lexeme → Form → Type 0 where
  one_side : {ts : List Lexeme} {a : Form} → Spells params Inter ts a → Spells params Union ts (Side a)
  sides : (p : ℕ) {ts us : List Lexeme} {a b : Form} → Spells params Union ts a → Spells params Inter us b → Spells params Union (ts ++ sign p signs.Pipe ∷ us) (Either a b)
  one_part : {ts : List Lexeme} {a : Form} → Spells params Unary ts a → Spells params Inter ts a
  parts : {ts us : List Lexeme} {a b : Form} → Spells params Inter ts a → Spells params Unary us b → Spells params Inter (ts ++ us) (Both a b)
  minus : (p : ℕ) {ts : List Lexeme} {a : Form} → Spells params Unary ts a → Spells params Unary (sign p signs.Minus ∷ ts) (Denied p a)
  tilde : (p : ℕ) {ts : List Lexeme} {a : Form} → Spells params Unary ts a → Spells params Unary (sign p signs.Tilde ∷ ts) (Optional p a)
  field : (p q : ℕ) {us names ts : List Lexeme} {a : Form} → Names us names → Spells params Part ts a
      → Spells params Unary (sign p signs.At ∷ us ++ sign q signs.Colon ∷ ts) (Named p names a)
  range : (p q r s : ℕ) (t : Lexeme) {us vs : List Lexeme} {low high : Edge} → IsTrue (is_field_name t.kind) → IsEdge params us low → IsEdge params vs high
      → Spells params Unary (sign p signs.At ∷ t ∷ sign q signs.Colon ∷ sign r signs.RangeOpen ∷ us ++ (vs ++ sign s signs.RangeClose ∷ [])) (Named p (t ∷ []) (Range r low high))
  tags : (p q r s : ℕ) (t : Lexeme) (us : List Lexeme) → IsTrue (is_field_name t.kind) → IsTrue (list_all (λ (u : Lexeme). is_tag u.kind) us)
      → Spells params Unary (sign p signs.At ∷ t ∷ sign q signs.Colon ∷ sign r signs.TagOpen ∷ us ++ sign s signs.TagClose ∷ []) (Named p (t ∷ []) (Tags r us))
  part : {ts : List Lexeme} {a : Form} → Spells params Part ts a → Spells params Unary ts a
  bare : {ts : List Lexeme} {a : Form} → Spells params Atom ts a → Spells params Part ts a
  attributed : (p q r : ℕ) {ts us : List Lexeme} {a : Form} {pairs : List Pair} → Spells params Atom ts a → Pairs params [] us pairs
      → Spells params Part (ts ++ sign p signs.Arrow ∷ sign q signs.AttrOpen ∷ us ++ sign r signs.AttrClose ∷ []) (With a p pairs)
  single : (t : Lexeme) → IsTrue (is_atom t.kind) → Spells params Atom (t ∷ []) (Single t)
  empty_group : (p q : ℕ) → Spells params Atom (sign p signs.Open ∷ sign q signs.Close ∷ []) (EmptyGroup p)
  group : (p q : ℕ) {ts : List Lexeme} {a : Form} → Spells params Union ts a → Spells params Atom (sign p signs.Open ∷ ts ++ sign q signs.Close ∷ []) (Group p a)

-- A whole text: nothing, or a union.
pub data IsQuery (params : List Param) : List Lexeme → Option Form → Type 0 where
  nothing : IsQuery params [] None
  something : {ts : List Lexeme} {a : Form} → Spells params Union ts a → IsQuery params ts (Some a)
