-- No reading leaves more than was there; and one that finds a fault has taken a lexeme at least.
use Rattle.std.proofs.Common.{◌≡◌, ℕ, zero, suc, ◌+◌, ◌≤◌, Bool, true, false, cond, List, [], ◌∷◌, ◌++◌, length, drop, Option, Some, None, Ok, Err, refl, ap, ◌∙◌, length-append, slice_get, arith}
use Rattle.ft_base.specs.Kinds.{is_numeric, is_tag as is_tag_kind, is_text}
use Rattle.ft_base.specs.declared.definition.FieldKind.{FieldKind}
use Rattle.ft_base.specs.declared.definition.IndexDef.{IndexDef}
use Rattle.ft_base.specs.declared.query.Fields.{Fields}
use Rattle.ft_base.specs.declared.query.Fields.TheVariants as asked_of
use Rattle.ft_base.specs.declared.query.Param.{Param}
use Rattle.ft_base.specs.declared.query.Query.{Query}
use Rattle.ft_base.specs.declared.query.Query.TheVariants as tree
use Rattle.ft_base.specs.declared.query.TagPart.{TagPart}
use Rattle.ft_base.specs.Reading.{◌>>=◌}
use Rattle.query_lex.specs.declared.lexeme.Lexeme.{Lexeme}
use Rattle.query_lex.specs.declared.lexeme.Sign.{Sign}
use Rattle.query_lex.specs.declared.lexeme.Sign.TheVariants as signs
use Rattle.query_grammar.specs.declared.fault.QueryFault.{QueryFault}
use Rattle.query_grammar.specs.declared.fault.QueryFault.TheVariants.{OutOfScope, WrongKind}
use Rattle.query_grammar.specs.Answer.{place_of}
use Rattle.query_grammar.specs.Faults.{attribute_faults, faults_at, has_other, is_foreign}
use Rattle.query_grammar.specs.Form.{Edge}
use Rattle.query_grammar.specs.Grammar.{Sort, Union, Inter, Unary, Part, Atom, is_atom, is_edge, is_field_name, is_tag}
use Rattle.query_grammar.specs.Meaning.{atom_parts, attributed, case_of, denied, name_of, number_of_alias, optional, tag_part}
use Rattle.query_grammar.specs.Reading.{Broken, Found, Cut, Read, Reader, Block, Closed, Open, Deeper, atom_at, atom_with, behind_arrow, behind_atom, behind_field_name, behind_names, begins_atom, broken_by, chain_at, closed_range, closed_with, comes, deeper, edge_at, edge_with, field_at, group_at, inside_at, is_quote_kind, joined_at, joined_in, joined_with, name_at, name_with, names_at, names_in, next_sign, pairs_at, part_at, part_target, range_at, range_target, sign_in, signed_at, single_at, sort_at, tag_with, tags_at, tags_in, tags_target, tags_with, target_with, unary_at, unary_with, unless, unless_other, value_at, with_block}
use Rattle.query_grammar.proofs.Blocks.{BlockSpelled, block_spelled}
use Rattle.query_grammar.proofs.Chains.{joint_within}
use Rattle.query_grammar.proofs.Signs.{sign_front}
use Rattle.query_grammar.proofs.Sound.{Chain, Sides, Parts, joint, side}

-- how much is left, and one more where a fault was found
abbrev pub reach : {A : Type 0} → Read A → ℕ
reach (Ok x) = length x.1
reach (Err (Broken rest)) = length rest
reach (Err (Found f rest)) = suc (length rest)
reach (Err (Cut f rest)) = suc (length rest)

abbrev pub Low : {A : Type 0} → (List Lexeme → Read A) → Type 0
Low next = (ts : List Lexeme) → reach (next ts) ≤ length ts

abbrev pub Lessens : {A B : Type 0} → (A × List Lexeme → Read B) → Type 0
Lessens {A} k = (x : A) (rest : List Lexeme) → reach (k (x, rest)) ≤ length rest

pub lessens_bind : {A B : Type 0} (k : A × List Lexeme → Read B) → Lessens k → (r : Read A) (n : ℕ) → reach r ≤ n → reach (r >>= k) ≤ n
lessens_bind k h (Ok x) n l = let m : reach (k (x.0, x.1)) ≤ length x.1 = h x.0 x.1 in omega arith
lessens_bind k h (Err (Broken rest)) n l = l
lessens_bind k h (Err (Found f rest)) n l = l
lessens_bind k h (Err (Cut f rest)) n l = l

pub sign_less : (ts : List Lexeme) (s : Sign) → next_sign ts ≡ Some s → length ts ≡ suc (length (drop 1 ts))
sign_less ts s e = ap length (sign_front ts s e)

pub unless_low : {A : Type 0} (fs : List QueryFault) (rest : List Lexeme) (r : Read A) → reach r ≤ suc (length rest) → reach (unless fs rest r) ≤ suc (length rest)
unless_low [] rest r l = l
unless_low (f ∷ fs) rest r l = omega arith

pub cond_low : {A : Type 0} (b : Bool) (r q : Read A) (n : ℕ) → reach r ≤ n → reach q ≤ n → reach (cond b r q) ≤ n
cond_low true r q n l m = l
cond_low false r q n l m = m

module _ (def : IndexDef) (params : List Param) where
  -- ---- names, ranges and tags

  name_with_low : (o : Option ℕ) (t : Lexeme) (ts : List Lexeme) → reach (name_with def params o t ts) ≤ suc (length ts)
  name_with_low None t ts = omega arith
  name_with_low (Some k) t ts = cond_low {A = ℕ} (is_foreign t.kind) (Err (Found (OutOfScope t.at) ts)) (Ok (k, ts)) (suc (length ts)) (omega arith) (omega arith)

  pub name_low : Low (name_at def params)
  unfolding name_at
  name_low [] = omega arith
  name_low (t ∷ ts) = cond_low (is_field_name t.kind) (name_with def params (number_of_alias def.fields (name_of t.kind)) t ts) (Err (Broken (t ∷ ts))) (suc (length ts)) (name_with_low (number_of_alias def.fields (name_of t.kind)) t ts) (omega arith)

  pub behind_name_low : (others : List Lexeme → Read (List ℕ)) → Low others → (numbers : List ℕ) (ts : List Lexeme) (o : Option Sign) → next_sign ts ≡ o → reach (behind_field_name def params others numbers o ts) ≤ length ts
  behind_name_low others h numbers ts (Some signs.Pipe) e = let l = h (drop 1 ts) in let m = sign_less ts signs.Pipe e in omega arith
  behind_name_low others h numbers ts o e = omega arith

  pub names_in_low : (n : ℕ) (before : List ℕ) → Low (names_in def params n before)
  names_in_low zero before ts = omega arith
  names_in_low (suc n) before ts = lessens_bind (λ x. behind_field_name def params (λ us. names_in def params n (before ++ x.0 ∷ []) us) (before ++ x.0 ∷ []) (next_sign x.1) x.1)
      (λ k rest. behind_name_low (names_in def params n (before ++ k ∷ [])) (names_in_low n (before ++ k ∷ [])) (before ++ k ∷ []) rest (next_sign rest) refl) (name_at def params ts) (length ts) (name_low ts)

  pub names_low : (before : List ℕ) → Low (names_at def params before)
  unfolding names_at
  names_low before ts = names_in_low (suc (length ts)) before ts

  pub value_low : (b : Bool) → Low (value_at def params b)
  unfolding value_at
  value_low b [] = omega arith
  value_low b (t ∷ ts) = cond_low {A = Edge} (is_edge params t.kind) (unless (faults_at params t) ts (Ok (record { excluded = b; value = t }, ts))) (Err (Broken (t ∷ ts))) (suc (length ts))
      (unless_low {A = Edge} (faults_at params t) ts (Ok (record { excluded = b; value = t }, ts)) (omega arith)) (omega arith)

  pub edge_with_low : (ts : List Lexeme) (o : Option Sign) → next_sign ts ≡ o → reach (edge_with def params o ts) ≤ length ts
  edge_with_low ts (Some signs.Open) e = let l = value_low true (drop 1 ts) in let m = sign_less ts signs.Open e in omega arith
  edge_with_low ts o e = value_low false ts

  pub edge_low : Low (edge_at def params)
  edge_low ts = edge_with_low ts (next_sign ts) refl

  pub closed_range_low : (field : ℕ) (low high : Edge) (ts : List Lexeme) (o : Option Sign) → next_sign ts ≡ o → reach (closed_range def params field low high o ts) ≤ length ts
  closed_range_low field low high ts (Some signs.RangeClose) e = let m = sign_less ts signs.RangeClose e in omega arith
  closed_range_low field low high ts o e = omega arith

  pub high_low : (field : ℕ) (low : Edge) → Low (λ ts. edge_at def params ts >>= λ high. closed_range def params field low high.0 (next_sign high.1) high.1)
  high_low field low ts = lessens_bind (λ high. closed_range def params field low high.0 (next_sign high.1) high.1) (λ high rest. closed_range_low field low high rest (next_sign rest) refl) (edge_at def params ts) (length ts) (edge_low ts)

  pub range_low : (field : ℕ) → Low (range_at def params field)
  unfolding range_at
  range_low field ts = lessens_bind (λ low. edge_at def params low.1 >>= λ high. closed_range def params field low.0 high.0 (next_sign high.1) high.1) (λ low rest. high_low field low rest) (edge_at def params ts) (length ts) (edge_low ts)

  tag_low : (others : List TagPart → List Lexeme → Read (List TagPart)) → ((parts : List TagPart) → Low (others parts)) → (case : Bool) (before : List TagPart) → Low (tag_with def params others case before)
  tag_low others h case before [] = omega arith
  tag_low others h case before (t ∷ ts) = cond_low (is_tag t.kind) (unless (faults_at params t) ts (others (before ++ tag_part params case t.kind ∷ []) ts)) (Err (Broken (t ∷ ts))) (suc (length ts))
      (unless_low (faults_at params t) ts (others (before ++ tag_part params case t.kind ∷ []) ts) (let l = h (before ++ tag_part params case t.kind ∷ []) ts in omega arith)) (omega arith)

  tags_with_low : (others : List TagPart → List Lexeme → Read (List TagPart)) → ((parts : List TagPart) → Low (others parts)) → (case : Bool) (before : List TagPart) (ts : List Lexeme) (o : Option Sign) → next_sign ts ≡ o
      → reach (tags_with def params others case before o ts) ≤ length ts
  tags_with_low others h case before ts (Some signs.TagClose) e = let m = sign_less ts signs.TagClose e in omega arith
  tags_with_low others h case before ts o e = tag_low others h case before ts

  pub tags_in_low : (case : Bool) (n : ℕ) (before : List TagPart) → Low (tags_in def params case n before)
  tags_in_low case zero before ts = omega arith
  tags_in_low case (suc n) before ts = tags_with_low (λ parts us. tags_in def params case n parts us) (λ parts us. tags_in_low case n parts us) case before ts (next_sign ts) refl

  pub tags_low : (case : Bool) (before : List TagPart) → Low (tags_at def params case before)
  unfolding tags_at
  tags_low case before ts = tags_in_low case (suc (length ts)) before ts

  -- ---- chains

  module _ (next : Reader) (c : Chain) (low : Low next) where
    joined_with_low : (others : List Query → Reader) → ((qs : List Query) → Low (others qs)) → (qs : List Query) (ts : List Lexeme) (found : Option (List Lexeme)) → joint c ts ≡ found → reach (joined_with others next (side c) qs ts found) ≤ length ts
    joined_with_low others ih qs ts None e = omega arith
    joined_with_low others ih qs ts (Some us) e =
        let w : length us ≤ length ts = joint_within def params c ts us e in
        let l : reach (next us) ≤ length us = low us in
        lessens_bind (λ x. others (qs ++ side c x.0) x.1) (λ ps rest. ih (qs ++ side c ps) rest) (next us) (length ts) (omega arith)

    joined_in_low : (n : ℕ) (qs : List Query) → Low (joined_in (joint c) next (side c) n qs)
    joined_in_low zero qs ts = omega arith
    joined_in_low (suc n) qs ts = joined_with_low (λ ps us. joined_in (joint c) next (side c) n ps us) (λ ps us. joined_in_low n ps us) qs ts (joint c ts) refl

    pub joined_low : (qs : List Query) → Low (joined_at (joint c) next (side c) qs)
    unfolding joined_at
    joined_low qs ts = joined_in_low (suc (length ts)) qs ts

    pub chain_low : Low (chain_at (joint c) next (side c))
    unfolding chain_at
    chain_low ts = lessens_bind (λ x. joined_at (joint c) next (side c) (side c x.0) x.1) (λ qs rest. joined_low (side c qs) rest) (next ts) (length ts) (low ts)

  -- ---- parts

  abbrev pub DeeperLow : Deeper def params → Type 0
  DeeperLow None = Unit {0}
  DeeperLow (Some inner) = (fields : Fields) (s : Sort) → Low (inner fields s)

  pub closed_low : (qs : List Query) (ts : List Lexeme) (o : Option Sign) → next_sign ts ≡ o → reach (closed_with def params o qs ts) ≤ length ts
  closed_low qs ts (Some signs.Close) e = let m = sign_less ts signs.Close e in omega arith
  closed_low qs ts o e = omega arith

  pub inside_low : (inner : Fields → Sort → Reader) → ((fields : Fields) (s : Sort) → Low (inner fields s)) → (fields : Fields) (ts : List Lexeme) (o : Option Sign) → next_sign ts ≡ o → reach (inside_at def params inner fields o ts) ≤ length ts
  inside_low inner h fields ts (Some signs.Close) e = let m = sign_less ts signs.Close e in omega arith
  inside_low inner h fields ts o e = lessens_bind (λ x. closed_with def params (next_sign x.1) x.0 x.1) (λ qs rest. closed_low qs rest (next_sign rest) refl) (inner fields Union ts) (length ts) (h fields Union ts)

  group_low : (d : Deeper def params) → DeeperLow d → (fields : Fields) (p : ℕ) (ts : List Lexeme) → reach (group_at def params d fields p ts) ≤ suc (length ts)
  group_low None h fields p ts = omega arith
  group_low (Some inner) h fields p ts = let l = inside_low inner h fields ts (next_sign ts) refl in omega arith

  single_low : (fields : Fields) (t : Lexeme) (ts : List Lexeme) → reach (single_at def params fields t ts) ≤ suc (length ts)
  single_low fields t ts = cond_low {A = List Query} (is_atom t.kind) (unless (faults_at params t) ts (Ok (atom_parts def.stops.words params fields t.kind, ts))) (Err (Broken (t ∷ ts))) (suc (length ts))
      (unless_low {A = List Query} (faults_at params t) ts (Ok (atom_parts def.stops.words params fields t.kind, ts)) (omega arith)) (omega arith)

  atom_with_low : (d : Deeper def params) → DeeperLow d → (fields : Fields) (o : Option Sign) (t : Lexeme) (ts : List Lexeme) → reach (atom_with def params d fields o t ts) ≤ suc (length ts)
  atom_with_low d h fields (Some signs.Open) t ts = group_low d h fields t.at ts
  atom_with_low d h fields o t ts = single_low fields t ts

  pub atom_low : (d : Deeper def params) → DeeperLow d → (fields : Fields) → Low (atom_at def params d fields)
  unfolding atom_at
  atom_low d h fields [] = omega arith
  atom_low d h fields (t ∷ ts) = atom_with_low d h fields (sign_in t.kind) t ts

  pub broken_low : (fs : List QueryFault) (rest : List Lexeme) → reach {A = List Query} (Err (broken_by def params fs rest)) ≤ suc (length rest)
  broken_low [] rest = omega arith
  broken_low (f ∷ fs) rest = omega arith

  block_low : (p : ℕ) (quote : Bool) (qs : List Query) (ts : List Lexeme) (block : Block def params) → BlockSpelled def params 0 [] [] ts block → reach (with_block def params p quote qs block) ≤ suc (length ts)
  block_low p quote qs ts (Closed pairs rest) h =
      let l : length ts ≡ length h.front + suc (length rest) = ap length h.parts ∙ length-append h.front _ in
      let m = unless_low {A = List Query} (attribute_faults params p pairs qs) rest (Ok (attributed params quote pairs qs, rest)) (omega arith) in
      omega arith
  block_low p quote qs ts (Open pairs rest) h =
      let l : length ts ≡ length h.front + length rest = ap length h.parts ∙ length-append h.front rest in
      let m = broken_low (attribute_faults params p pairs qs) rest in
      omega arith

  pub arrow_low : (p : ℕ) (quote : Bool) (qs : List Query) (ts : List Lexeme) (o : Option Sign) → next_sign ts ≡ o → reach (behind_arrow def params p quote qs o ts) ≤ length ts
  arrow_low p quote qs ts (Some signs.AttrOpen) e = let m = sign_less ts signs.AttrOpen e in let l = block_low p quote qs (drop 1 ts) (pairs_at def params [] (drop 1 ts)) (block_spelled def params 0 (drop 1 ts)) in omega arith
  arrow_low p quote qs ts o e = omega arith

  pub behind_atom_low : (quote : Bool) (qs : List Query) (ts : List Lexeme) (o : Option Sign) → next_sign ts ≡ o → reach (behind_atom def params quote qs o ts) ≤ length ts
  behind_atom_low quote qs ts (Some signs.Arrow) e = let m = sign_less ts signs.Arrow e in let l = arrow_low (place_of 0 ts) quote qs (drop 1 ts) (next_sign (drop 1 ts)) refl in omega arith
  behind_atom_low quote qs ts o e = omega arith

  pub part_low : (d : Deeper def params) → DeeperLow d → (fields : Fields) → Low (part_at def params d fields)
  unfolding part_at
  part_low d h fields ts = lessens_bind (λ x. behind_atom def params (comes (is_quote_kind def params) ts) x.0 (next_sign x.1) x.1) (λ qs rest. behind_atom_low (comes (is_quote_kind def params) ts) qs rest (next_sign rest) refl)
      (atom_at def params d fields ts) (length ts) (atom_low d h fields ts)

  -- ---- fields and signs

  other_low : (test : FieldKind → Bool) (numbers : List ℕ) (t : Lexeme) (ts : List Lexeme) (r : Read (List Query)) → reach r ≤ suc (length ts) → reach (unless_other def params test numbers (t ∷ ts) r) ≤ suc (length ts)
  other_low test numbers t ts r l = cond_low (has_other test def.fields (asked_of.Named numbers)) (Err (Found (WrongKind t.at) ts)) r (suc (length ts)) (omega arith) l

  range_target_low : (numbers : List ℕ) (t : Lexeme) (ts : List Lexeme) → reach (range_target def params numbers (t ∷ ts)) ≤ suc (length ts)
  range_target_low [] t ts = omega arith
  range_target_low (k ∷ []) t ts = other_low is_numeric (k ∷ []) t ts (range_at def params k ts) (let l = range_low k ts in omega arith)
  range_target_low (k ∷ j ∷ numbers) t ts = omega arith

  tags_target_low : (numbers : List ℕ) (t : Lexeme) (ts : List Lexeme) → reach (tags_target def params numbers (t ∷ ts)) ≤ suc (length ts)
  tags_target_low [] t ts = omega arith
  tags_target_low (k ∷ []) t ts = other_low is_tag_kind (k ∷ []) t ts (tags_at def params (case_of (slice_get def.fields k)) [] ts >>= λ x. Ok (tree.Tags k x.0 ∷ [], x.1))
      (lessens_bind {A = List TagPart} {B = List Query} (λ x. Ok (tree.Tags k x.0 ∷ [], x.1)) (λ x rest. omega arith) (tags_at def params (case_of (slice_get def.fields k)) [] ts) (suc (length ts)) (let l = tags_low (case_of (slice_get def.fields k)) [] ts in omega arith))
  tags_target_low (k ∷ j ∷ numbers) t ts = omega arith

  module _ (inner : Fields → Sort → Reader) (h : (fields : Fields) (s : Sort) → Low (inner fields s)) where
    part_target_low : (numbers : List ℕ) (t : Lexeme) (ts : List Lexeme) → reach (part_target def params inner numbers (t ∷ ts)) ≤ suc (length ts)
    part_target_low numbers t ts = cond_low (begins_atom def params (next_sign (t ∷ ts)) (t ∷ ts)) (unless_other def params is_text numbers (t ∷ ts) (inner (asked_of.Named numbers) Part (t ∷ ts))) (Err (Broken (t ∷ ts))) (suc (length ts))
        (other_low is_text numbers t ts (inner (asked_of.Named numbers) Part (t ∷ ts)) (h (asked_of.Named numbers) Part (t ∷ ts))) (omega arith)

    pub target_cons_low : (numbers : List ℕ) (t : Lexeme) (ts : List Lexeme) (o : Option Sign) → reach (target_with def params inner numbers o (t ∷ ts)) ≤ suc (length ts)
    target_cons_low numbers t ts (Some signs.RangeOpen) = range_target_low numbers t ts
    target_cons_low numbers t ts (Some signs.TagOpen) = tags_target_low numbers t ts
    target_cons_low numbers t ts o = part_target_low numbers t ts

    pub target_low : (numbers : List ℕ) → Low (λ ts. target_with def params inner numbers (next_sign ts) ts)
    target_low numbers [] = omega arith
    target_low numbers (t ∷ ts) = target_cons_low numbers t ts (next_sign (t ∷ ts))

    pub behind_names_low : (numbers : List ℕ) (ts : List Lexeme) (o : Option Sign) → next_sign ts ≡ o → reach (behind_names def params inner numbers o ts) ≤ length ts
    behind_names_low numbers ts (Some signs.Colon) e = let m = sign_less ts signs.Colon e in let l = target_low numbers (drop 1 ts) in omega arith
    behind_names_low numbers ts o e = omega arith

  pub field_low : (d : Deeper def params) → DeeperLow d → (p : ℕ) (ts : List Lexeme) → reach (field_at def params d p ts) ≤ suc (length ts)
  field_low None h p ts = omega arith
  field_low (Some inner) h p ts = lessens_bind (λ x. behind_names def params inner x.0 (next_sign x.1) x.1) (λ numbers rest. behind_names_low inner h numbers rest (next_sign rest) refl) (names_at def params [] ts) (suc (length ts)) (let l = names_low [] ts in omega arith)

  pub signed_low : (make : List Query → List Query) (d : Deeper def params) → DeeperLow d → (fields : Fields) (p : ℕ) (ts : List Lexeme) → reach (signed_at def params make d fields p ts) ≤ suc (length ts)
  signed_low make None h fields p ts = omega arith
  signed_low make (Some inner) h fields p ts = lessens_bind {A = List Query} {B = List Query} (λ x. Ok (make x.0, x.1)) (λ x rest. omega arith) (inner fields Unary ts) (suc (length ts)) (let l = h fields Unary ts in omega arith)

  unary_with_low : (d : Deeper def params) → DeeperLow d → (fields : Fields) (ts : List Lexeme) (o : Option Sign) → next_sign ts ≡ o → reach (unary_with def params d fields o ts) ≤ length ts
  unary_with_low d h fields ts (Some signs.Minus) e = let m = sign_less ts signs.Minus e in let l = signed_low denied d h fields (place_of 0 ts) (drop 1 ts) in omega arith
  unary_with_low d h fields ts (Some signs.Tilde) e = let m = sign_less ts signs.Tilde e in let l = signed_low optional d h fields (place_of 0 ts) (drop 1 ts) in omega arith
  unary_with_low d h fields ts (Some signs.At) e = let m = sign_less ts signs.At e in let l = field_low d h (place_of 0 ts) (drop 1 ts) in omega arith
  unary_with_low d h fields ts o e = part_low d h fields ts

  pub unary_low : (d : Deeper def params) → DeeperLow d → (fields : Fields) → Low (unary_at def params d fields)
  unfolding unary_at
  unary_low d h fields ts = unary_with_low d h fields ts (next_sign ts) refl

  sort_low : (d : Deeper def params) → DeeperLow d → (fields : Fields) (s : Sort) → Low (sort_at def params d fields s)
  sort_low d h fields Atom = atom_low d h fields
  sort_low d h fields Part = part_low d h fields
  sort_low d h fields Unary = unary_low d h fields
  sort_low d h fields Inter = chain_low (unary_at def params d fields) Parts (unary_low d h fields)
  sort_low d h fields Union = chain_low (sort_at def params d fields Inter) Sides (chain_low (unary_at def params d fields) Parts (unary_low d h fields))

  pub levels_low : (n : ℕ) → DeeperLow (deeper def params n)
  levels_low zero = tt
  levels_low (suc n) = λ fields s. sort_low (deeper def params n) (levels_low n) fields s

  pub read_low : (fields : Fields) (n : ℕ) (s : Sort) → Low (sort_at def params (deeper def params n) fields s)
  read_low fields n s = sort_low (deeper def params n) (levels_low n) fields s
