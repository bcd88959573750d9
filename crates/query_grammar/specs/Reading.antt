-- Reading a query from the left, as far as its first fault: how a reader that never looks back finds what the grammar says.
-- The laws of this crate join it to the grammar.
use Rattle.std.specs.Prelude.{ℕ, zero, suc, List, [], ◌∷◌, ◌++◌, length, drop, map, Bool, true, false, ◌||◌, Option, Some, None, Result, Ok, Err, if◌then◌else◌, slice_get}
use Rattle.ft_base.specs.Kinds.{is_numeric, is_tag as is_tag_kind, is_text}
use Rattle.ft_base.specs.declared.definition.FieldKind.{FieldKind}
use Rattle.ft_base.specs.declared.definition.IndexDef.{IndexDef}
use Rattle.ft_base.specs.declared.query.Fields.{Fields}
use Rattle.ft_base.specs.declared.query.Fields.TheVariants as asked
use Rattle.ft_base.specs.declared.query.Param.{Param}
use Rattle.ft_base.specs.declared.query.Query.{Query}
use Rattle.ft_base.specs.declared.query.Query.TheVariants as tree
use Rattle.ft_base.specs.declared.query.TagPart.{TagPart}
use Rattle.ft_base.specs.Reading.{◌>>=◌}
use Rattle.query_lex.specs.declared.lexeme.Lexeme.{Lexeme}
use Rattle.query_lex.specs.declared.lexeme.LexKind.{LexKind}
use Rattle.query_lex.specs.declared.lexeme.LexKind.TheVariants as kinds
use Rattle.query_lex.specs.declared.lexeme.Sign.{Sign}
use Rattle.query_lex.specs.declared.lexeme.Sign.TheVariants as signs
use Rattle.query_grammar.specs.declared.fault.QueryFault.{QueryFault}
use Rattle.query_grammar.specs.declared.fault.QueryFault.TheVariants.{Syntax, UnknownField, WrongKind, TooDeep, OutOfScope}
use Rattle.query_grammar.specs.Answer.{place_of}
use Rattle.query_grammar.specs.Faults.{attribute_faults, faults_at, has_other, is_foreign, most_levels}
use Rattle.query_grammar.specs.Form.{Edge, Pair}
use Rattle.query_grammar.specs.Grammar.{Sort, Union, Inter, Unary, Part, Atom, has_name, is_atom, is_attribute, is_edge, is_field_name, is_tag}
use Rattle.query_grammar.specs.Meaning.{all_of, any_of, atom_parts, attributed, case_of, denied, edge_bound, name_of, number_of_alias, optional, range_high, range_low, range_of, tag_part, union_of}

-- Why reading stops: the grammar goes no further at the first of these lexemes; or there is a fault, settled by the lexeme
-- before these; or a fault before the first of these lexemes, at which the grammar goes no further.
pub data Stop : Type 0 where
  Broken : List Lexeme → Stop
  Found : QueryFault → List Lexeme → Stop
  Cut : QueryFault → List Lexeme → Stop

-- what was read, and the lexemes behind it
abbrev pub Read : Type 0 → Type 0
Read A = Result (A × List Lexeme) Stop

-- a reader of parts, which gives what is left of them
abbrev pub Reader : Type 0
Reader = List Lexeme → Read (List Query)

-- the first fault of a lexeme before these, where it has one
abbrev pub unless : {A : Type 0} → List QueryFault → List Lexeme → Read A → Read A
unless [] behind read = read
unless (fault ∷ faults) behind read = Err (Found fault behind)

-- what is answered where reading gives this, of a text of so many bytes
abbrev pub answer_of : ℕ → Result Query Stop → Result Query QueryFault
answer_of end (Ok q) = Ok q
answer_of end (Err (Broken rest)) = Err (Syntax (place_of end rest))
answer_of end (Err (Found fault rest)) = Err fault
answer_of end (Err (Cut fault rest)) = Err fault

-- the sign that comes next, and the parameter
abbrev pub sign_in : LexKind → Option Sign
sign_in (kinds.Sign s) = Some s
sign_in other = None

abbrev pub next_sign : List Lexeme → Option Sign
next_sign [] = None
next_sign (t ∷ ts) = sign_in t.kind

abbrev pub name_in : LexKind → Option (List ℕ)
name_in (kinds.Param name) = Some name
name_in other = None

abbrev pub next_param : List Lexeme → Option (List ℕ)
next_param [] = None
next_param (t ∷ ts) = name_in t.kind

-- whether a lexeme comes next that passes a test
abbrev pub comes : (LexKind → Bool) → List Lexeme → Bool
comes test [] = false
comes test (t ∷ ts) = test t.kind

-- One more of something that is joined, as long as it comes. Each takes a lexeme at least, so as many steps as there are
-- lexemes suffice.
abbrev pub joined_with : (List Query → Reader) → Reader → (List Query → List Query) → List Query → List Lexeme → Option (List Lexeme) → Read (List Query)
joined_with others next side before ts None = Ok (before, ts)
joined_with others next side before ts (Some us) = next us >>= λ x. others (before ++ side x.0) x.1

abbrev pub joined_in : (List Lexeme → Option (List Lexeme)) → Reader → (List Query → List Query) → ℕ → List Query → Reader
joined_in joint next side zero before ts = Ok (before, ts)
joined_in joint next side (suc n) before ts = joined_with (λ qs us. joined_in joint next side n qs us) next side before ts (joint ts)

unfoldable pub joined_at : (List Lexeme → Option (List Lexeme)) → Reader → (List Query → List Query) → List Query → Reader
joined_at joint next side before ts = joined_in joint next side (suc (length ts)) before ts

unfoldable pub chain_at : (List Lexeme → Option (List Lexeme)) → Reader → (List Query → List Query) → Reader
chain_at joint next side ts = next ts >>= λ x. joined_at joint next side (side x.0) x.1

-- a side of a union comes behind a bar
abbrev pub behind_bar : Option Sign → List Lexeme → Option (List Lexeme)
behind_bar (Some signs.Pipe) ts = Some (drop 1 ts)
behind_bar other ts = None

abbrev pub bar_at : List Lexeme → Option (List Lexeme)
bar_at ts = behind_bar (next_sign ts) ts

-- and a part behind a part, where one comes
abbrev pub begins_by_sign : Option Sign → Bool
begins_by_sign (Some signs.Open) = true
begins_by_sign (Some signs.Minus) = true
begins_by_sign (Some signs.Tilde) = true
begins_by_sign (Some signs.At) = true
begins_by_sign other = false

abbrev pub begins_unary : List Lexeme → Bool
begins_unary ts = begins_by_sign (next_sign ts) || comes is_atom ts

abbrev pub unary_comes : List Lexeme → Option (List Lexeme)
unary_comes ts = if begins_unary ts then Some ts else None

abbrev pub same : List Query → List Query
same qs = qs

module _ (def : IndexDef) (params : List Param) where
  -- the readers of what a level opens, within fields; None where no level is left
  abbrev pub Deeper : Type 0
  Deeper = Option (Fields → Sort → Reader)

  -- a lexeme that stands by itself
  abbrev pub single_at : Fields → Lexeme → Reader
  single_at fields t ts =
      if is_atom t.kind then unless (faults_at params t) ts (Ok (atom_parts def.stops.words params fields t.kind, ts)) else Err (Broken (t ∷ ts))

  -- the end of a group
  abbrev pub closed_with : Option Sign → List Query → Reader
  closed_with (Some signs.Close) qs ts = Ok (any_of qs, drop 1 ts)
  closed_with other qs ts = Err (Broken ts)

  -- a group behind its parenthesis
  abbrev pub inside_at : (Fields → Sort → Reader) → Fields → Option Sign → Reader
  inside_at inner fields (Some signs.Close) ts = Ok ([], drop 1 ts)
  inside_at inner fields other ts = inner fields Union ts >>= λ x. closed_with (next_sign x.1) x.0 x.1

  abbrev pub group_at : Deeper → Fields → ℕ → Reader
  group_at None fields p ts = Err (Found (TooDeep p) ts)
  group_at (Some inner) fields p ts = inside_at inner fields (next_sign ts) ts

  abbrev pub atom_with : Deeper → Fields → Option Sign → Lexeme → Reader
  atom_with d fields (Some signs.Open) t ts = group_at d fields t.at ts
  atom_with d fields other t ts = single_at fields t ts

  unfoldable pub atom_at : Deeper → Fields → Reader
  atom_at d fields [] = Err (Broken [])
  atom_at d fields (t ∷ ts) = atom_with d fields (sign_in t.kind) t ts

  -- Attributes in their braces: all of them and the lexemes behind; or those before the lexeme at which the grammar goes no
  -- further, the last of which may have no value.
  pub data Block : Type 0 where
    Closed : List Pair → List Lexeme → Block
    Open : List Pair → List Lexeme → Block

  abbrev pub names_of : List Pair → List (List ℕ)
  names_of pairs = map (λ (pair : Pair). pair.name) pairs

  -- what stands behind an attribute
  abbrev pub behind_pair : (List Lexeme → Block) → List Pair → Option Sign → List Lexeme → Block
  behind_pair others before (Some signs.Semi) ts = others (drop 1 ts)
  behind_pair others before (Some signs.AttrClose) ts = Closed before (drop 1 ts)
  behind_pair others before other ts = Open before ts

  -- the value of an attribute, which its name asks for
  abbrev pub attribute_value : (List Pair → List Lexeme → Block) → List Pair → ℕ → List ℕ → List Lexeme → Block
  attribute_value others before p name [] = Open (before ++ record { at = p; name = name; value = None } ∷ []) []
  attribute_value others before p name (t ∷ ts) =
      if is_attribute params name t.kind
      then behind_pair (others (before ++ record { at = p; name = name; value = Some t } ∷ [])) (before ++ record { at = p; name = name; value = Some t } ∷ []) (next_sign ts) ts
      else Open (before ++ record { at = p; name = name; value = None } ∷ []) (t ∷ ts)

  abbrev pub behind_name : (List Pair → List Lexeme → Block) → List Pair → ℕ → List ℕ → Option Sign → List Lexeme → Block
  behind_name others before p name (Some signs.Colon) ts = attribute_value others before p name (drop 1 ts)
  behind_name others before p name other ts = Open (before ++ record { at = p; name = name; value = None } ∷ []) ts

  abbrev pub named_pair : (List Pair → List Lexeme → Block) → List Pair → Option (List ℕ) → List Lexeme → Block
  named_pair others before None ts = Open before ts
  named_pair others before (Some name) ts =
      if has_name (names_of before) name then Open before ts else behind_name others before (place_of 0 ts) name (next_sign (drop 1 ts)) (drop 1 ts)

  abbrev pub pair_with : (List Pair → List Lexeme → Block) → List Pair → Option Sign → List Lexeme → Block
  pair_with others before (Some signs.AttrClose) ts = Closed before (drop 1 ts)
  pair_with others before other ts = named_pair others before (next_param ts) ts

  abbrev pub pairs_in : ℕ → List Pair → List Lexeme → Block
  pairs_in zero before ts = Open before ts
  pairs_in (suc n) before ts = pair_with (λ pairs us. pairs_in n pairs us) before (next_sign ts) ts

  unfoldable pub pairs_at : List Pair → List Lexeme → Block
  pairs_at before ts = pairs_in (suc (length ts)) before ts

  -- a part with its attributes, or the first fault of these
  abbrev pub broken_by : List QueryFault → List Lexeme → Stop
  broken_by [] ts = Broken ts
  broken_by (fault ∷ faults) ts = Cut fault ts

  abbrev pub with_block : ℕ → Bool → List Query → Block → Read (List Query)
  with_block p quote qs (Closed pairs ts) = unless (attribute_faults params p pairs qs) ts (Ok (attributed params quote pairs qs, ts))
  with_block p quote qs (Open pairs ts) = Err (broken_by (attribute_faults params p pairs qs) ts)

  abbrev pub behind_arrow : ℕ → Bool → List Query → Option Sign → Reader
  behind_arrow p quote qs (Some signs.AttrOpen) ts = with_block p quote qs (pairs_at [] (drop 1 ts))
  behind_arrow p quote qs other ts = Err (Broken ts)

  abbrev pub behind_atom : Bool → List Query → Option Sign → Reader
  behind_atom quote qs (Some signs.Arrow) ts = behind_arrow (place_of 0 ts) quote qs (next_sign (drop 1 ts)) (drop 1 ts)
  behind_atom quote qs other ts = Ok (qs, ts)

  abbrev pub is_quote_kind : LexKind → Bool
  is_quote_kind (kinds.Quote text) = true
  is_quote_kind other = false

  unfoldable pub part_at : Deeper → Fields → Reader
  part_at d fields ts = atom_at d fields ts >>= λ x. behind_atom (comes is_quote_kind ts) x.0 (next_sign x.1) x.1

  -- a name of a field, by its number
  abbrev pub name_with : Option ℕ → Lexeme → List Lexeme → Read ℕ
  name_with None t ts = Err (Found (UnknownField t.at) ts)
  name_with (Some field) t ts = if is_foreign t.kind then Err (Found (OutOfScope t.at) ts) else Ok (field, ts)

  unfoldable pub name_at : List Lexeme → Read ℕ
  name_at [] = Err (Broken [])
  name_at (t ∷ ts) = if is_field_name t.kind then name_with (number_of_alias def.fields (name_of t.kind)) t ts else Err (Broken (t ∷ ts))

  abbrev pub behind_field_name : (List Lexeme → Read (List ℕ)) → List ℕ → Option Sign → List Lexeme → Read (List ℕ)
  behind_field_name others numbers (Some signs.Pipe) ts = others (drop 1 ts)
  behind_field_name others numbers other ts = Ok (numbers, ts)

  abbrev pub names_in : ℕ → List ℕ → List Lexeme → Read (List ℕ)
  names_in zero before ts = Err (Broken ts)
  names_in (suc n) before ts = name_at ts >>= λ x. behind_field_name (λ us. names_in n (before ++ x.0 ∷ []) us) (before ++ x.0 ∷ []) (next_sign x.1) x.1

  unfoldable pub names_at : List ℕ → List Lexeme → Read (List ℕ)
  names_at before ts = names_in (suc (length ts)) before ts

  -- an end of a range
  unfoldable pub value_at : Bool → List Lexeme → Read Edge
  value_at excluded [] = Err (Broken [])
  value_at excluded (t ∷ ts) =
      if is_edge params t.kind then unless (faults_at params t) ts (Ok (record { excluded = excluded; value = t }, ts)) else Err (Broken (t ∷ ts))

  abbrev pub edge_with : Option Sign → List Lexeme → Read Edge
  edge_with (Some signs.Open) ts = value_at true (drop 1 ts)
  edge_with other ts = value_at false ts

  abbrev pub edge_at : List Lexeme → Read Edge
  edge_at ts = edge_with (next_sign ts) ts

  abbrev pub range_by : ℕ → Edge → Edge → Query
  range_by field low high = range_of field (range_low low.excluded (edge_bound params low)) (range_high high.excluded (edge_bound params high))

  abbrev pub closed_range : ℕ → Edge → Edge → Option Sign → Reader
  closed_range field low high (Some signs.RangeClose) ts = Ok (range_by field low high ∷ [], drop 1 ts)
  closed_range field low high other ts = Err (Broken ts)

  unfoldable pub range_at : ℕ → Reader
  range_at field ts = do
    low ← edge_at ts
    high ← edge_at low.1
    closed_range field low.0 high.0 (next_sign high.1) high.1

  -- tags, up to their closing brace
  abbrev pub tag_with : (List TagPart → List Lexeme → Read (List TagPart)) → Bool → List TagPart → List Lexeme → Read (List TagPart)
  tag_with others case before [] = Err (Broken [])
  tag_with others case before (t ∷ ts) =
      if is_tag t.kind then unless (faults_at params t) ts (others (before ++ tag_part params case t.kind ∷ []) ts) else Err (Broken (t ∷ ts))

  abbrev pub tags_with : (List TagPart → List Lexeme → Read (List TagPart)) → Bool → List TagPart → Option Sign → List Lexeme → Read (List TagPart)
  tags_with others case before (Some signs.TagClose) ts = Ok (before, drop 1 ts)
  tags_with others case before other ts = tag_with others case before ts

  abbrev pub tags_in : Bool → ℕ → List TagPart → List Lexeme → Read (List TagPart)
  tags_in case zero before ts = Err (Broken ts)
  tags_in case (suc n) before ts = tags_with (λ parts us. tags_in case n parts us) case before (next_sign ts) ts

  unfoldable pub tags_at : Bool → List TagPart → List Lexeme → Read (List TagPart)
  tags_at case before ts = tags_in case (suc (length ts)) before ts

  -- where fields are of another kind than a target needs, at its first lexeme
  abbrev pub unless_other : (FieldKind → Bool) → List ℕ → List Lexeme → Read (List Query) → Read (List Query)
  unless_other test numbers ts read = if has_other test def.fields (asked.Named numbers) then Err (Found (WrongKind (place_of 0 ts)) (drop 1 ts)) else read

  abbrev pub range_target : List ℕ → Reader
  range_target (field ∷ []) ts = unless_other is_numeric (field ∷ []) ts (range_at field (drop 1 ts))
  range_target numbers ts = Err (Broken ts)

  abbrev pub tags_target : List ℕ → Reader
  tags_target (field ∷ []) ts =
      unless_other is_tag_kind (field ∷ []) ts (tags_at (case_of (slice_get def.fields field)) [] (drop 1 ts) >>= λ x. Ok (tree.Tags field x.0 ∷ [], x.1))
  tags_target numbers ts = Err (Broken ts)

  abbrev pub begins_atom : Option Sign → List Lexeme → Bool
  begins_atom (Some signs.Open) ts = true
  begins_atom other ts = comes is_atom ts

  abbrev pub part_target : (Fields → Sort → Reader) → List ℕ → Reader
  part_target inner numbers ts =
      if begins_atom (next_sign ts) ts then unless_other is_text numbers ts (inner (asked.Named numbers) Part ts) else Err (Broken ts)

  -- what is asked of fields
  abbrev pub target_with : (Fields → Sort → Reader) → List ℕ → Option Sign → Reader
  target_with inner numbers (Some signs.RangeOpen) ts = range_target numbers ts
  target_with inner numbers (Some signs.TagOpen) ts = tags_target numbers ts
  target_with inner numbers other ts = part_target inner numbers ts

  abbrev pub behind_names : (Fields → Sort → Reader) → List ℕ → Option Sign → Reader
  behind_names inner numbers (Some signs.Colon) ts = target_with inner numbers (next_sign (drop 1 ts)) (drop 1 ts)
  behind_names inner numbers other ts = Err (Broken ts)

  abbrev pub field_at : Deeper → ℕ → Reader
  field_at None p ts = Err (Found (TooDeep p) ts)
  field_at (Some inner) p ts = names_at [] ts >>= λ x. behind_names inner x.0 (next_sign x.1) x.1

  -- a sign in front of a part, which opens a level
  abbrev pub signed_at : (List Query → List Query) → Deeper → Fields → ℕ → Reader
  signed_at sign None fields p ts = Err (Found (TooDeep p) ts)
  signed_at sign (Some inner) fields p ts = inner fields Unary ts >>= λ x. Ok (sign x.0, x.1)

  abbrev pub unary_with : Deeper → Fields → Option Sign → Reader
  unary_with d fields (Some signs.Minus) ts = signed_at denied d fields (place_of 0 ts) (drop 1 ts)
  unary_with d fields (Some signs.Tilde) ts = signed_at optional d fields (place_of 0 ts) (drop 1 ts)
  unary_with d fields (Some signs.At) ts = field_at d (place_of 0 ts) (drop 1 ts)
  unary_with d fields other ts = part_at d fields ts

  unfoldable pub unary_at : Deeper → Fields → Reader
  unary_at d fields ts = unary_with d fields (next_sign ts) ts

  abbrev pub inter_at : Deeper → Fields → Reader
  inter_at d fields = chain_at unary_comes (unary_at d fields) same

  abbrev pub sort_at : Deeper → Fields → Sort → Reader
  sort_at d fields Atom = atom_at d fields
  sort_at d fields Part = part_at d fields
  sort_at d fields Unary = unary_at d fields
  sort_at d fields Inter = inter_at d fields
  sort_at d fields Union = chain_at bar_at (inter_at d fields) all_of

  -- what is read with so many levels left
  abbrev pub deeper : ℕ → Deeper
  deeper zero = None
  deeper (suc levels) = Some (λ fields sort. sort_at (deeper levels) fields sort)

  -- the end of a text
  abbrev pub ended_at : List Query → List Lexeme → Result Query Stop
  ended_at qs [] = Ok (union_of qs)
  ended_at qs (t ∷ ts) = Err (Broken (t ∷ ts))

  -- a whole text
  unfoldable pub whole_at : List Lexeme → Result Query Stop
  whole_at [] = Ok tree.Empty
  whole_at (t ∷ ts) = sort_at (deeper most_levels) asked.All Union (t ∷ ts) >>= λ x. ended_at x.0 x.1
