-- What is spelled of fields and attributes is read, and so what is spelled of each sort.
use Rattle.std.proofs.Common.{◌≡◌, ℕ, zero, suc, Bool, true, false, cond, IsTrue, List, [], ◌∷◌, ◌++◌, length, drop, Option, Some, None, Ok, Err, refl, sym, ap, ◌∙◌, append_assoc, append-nil, length-append, map, ◌+◌, slice_get, arith}
use Rattle.std.specs.List.{cons_option, flat_map}
use Rattle.ft_base.specs.Kinds.{is_numeric, is_tag as is_tag_kind, is_text}
use Rattle.ft_base.specs.declared.definition.FieldKind.{FieldKind}
use Rattle.ft_base.specs.declared.definition.IndexDef.{IndexDef}
use Rattle.ft_base.specs.declared.query.Fields.{Fields}
use Rattle.ft_base.specs.declared.query.Fields.TheVariants as asked_of
use Rattle.ft_base.specs.declared.query.Param.{Param}
use Rattle.ft_base.specs.declared.query.Query.{Query}
use Rattle.ft_base.specs.declared.query.Query.TheVariants as tree
use Rattle.ft_base.specs.Reading.{◌>>=◌}
use Rattle.query_lex.specs.declared.lexeme.Lexeme.{Lexeme}
use Rattle.query_lex.specs.declared.lexeme.LexKind.{LexKind}
use Rattle.query_lex.specs.declared.lexeme.LexKind.TheVariants as kinds
use Rattle.query_lex.specs.declared.lexeme.Sign.{Sign}
use Rattle.query_lex.specs.declared.lexeme.Sign.TheVariants as signs
use Rattle.query_grammar.specs.declared.fault.QueryFault.{QueryFault}
use Rattle.query_grammar.specs.declared.fault.QueryFault.TheVariants.{WrongKind}
use Rattle.query_grammar.specs.Answer.{place_of}
use Rattle.query_grammar.specs.Faults.{attribute_faults, faults_at, has_other, kind_faults, name_faults, one_if, start_of}
use Rattle.query_grammar.specs.Form.{Form, Edge, Pair, Named, Range, Tags, With}
use Rattle.query_grammar.specs.Grammar.{Sort, Union, Unary, Part, Atom, IsEdge, Names, last as last_name, Pairs, Spells, one_side, sides, one_part, parts, minus, tilde, field, range, tags, part, bare as part_bare, attributed as with_attributes, single, empty_group, group, is_atom, is_field_name, sign}
use Rattle.query_grammar.specs.Meaning.{name_of, number_of_alias, tag_part, attributed, case_of, fields_of, is_quote}
use Rattle.query_grammar.specs.Reading.{Found, Read, Reader, Closed, Deeper, behind_atom, comes, deeper, is_quote_kind, names_at, next_sign, pairs_at, part_at, sign_in, tags_at, target_with, unary_at, unary_with, with_block, Block, behind_names, range_at, range_target, tags_target, unless_other}
use Rattle.query_grammar.proofs.AgainParts.{bare, bare_bind, bare_unless, block_again, names_again, range_again, tags_again, told, told_append}
use Rattle.query_grammar.proofs.Chains.{sentence_begun}
use Rattle.query_grammar.proofs.Enclosed.{AreTags, tag_faults}
use Rattle.query_grammar.proofs.SoundAtoms.{atom_quote}
use Rattle.query_grammar.proofs.SoundFields.{part_needs}
use Rattle.query_grammar.proofs.Targets.{numbers_of}
use Rattle.query_grammar.proofs.Again.{is_arrow, Agains, Quiet, done, empty_again, faults_in, group_again, minus_again, one_part_again, one_side_again, parts_again, parts_in, reads, sides_again, single_again, then, tilde_again}

-- the first lexeme of a part
abbrev starts : LexKind → Bool
starts (kinds.Sign signs.Open) = true
starts other = is_atom other

abbrev Started : List Lexeme → Type 0
Started [] = ⊥
Started (t ∷ ts) = IsTrue (starts t.kind)

started_append : (ts us : List Lexeme) → Started ts → Started (ts ++ us)
started_append [] us h = absurd h
started_append (t ∷ ts) us h = h

start_kind : (k : LexKind) → is_atom k ≡ true → starts k ≡ true
start_kind (kinds.Sign signs.Open) h = refl
start_kind other h = h

place_append : (ts us : List Lexeme) → Started ts → place_of 0 ts ≡ place_of 0 (ts ++ us)
place_append [] us h = absurd h
place_append (t ∷ ts) us h = refl

part_started : {params : List Param} {ts : List Lexeme} {a : Form} → Spells params Part ts a → Started ts
part_started (part_bare (single t h)) = start_kind t.kind h
part_started (part_bare (empty_group p q)) = refl
part_started (part_bare (group p q d)) = refl
part_started (with_attributes p q r {us = us} (single t h) e) = start_kind t.kind h
part_started (with_attributes p q r (empty_group v w) e) = refl
part_started (with_attributes p q r (group v w d) e) = refl

part_start : {params : List Param} {ts : List Lexeme} {a : Form} → Spells params Part ts a → start_of a ≡ place_of 0 ts
part_start (part_bare (single t h)) = refl
part_start (part_bare (empty_group p q)) = refl
part_start (part_bare (group p q d)) = refl
part_start (with_attributes p q r (single t h) e) = refl
part_start (with_attributes p q r (empty_group v w) e) = refl
part_start (with_attributes p q r (group v w d) e) = refl

module _ (def : IndexDef) (params : List Param) where
  -- ---- parts

  quiet_behind : (quote : Bool) (qs : List Query) (rest : List Lexeme) → Quiet rest → behind_atom def params quote qs (next_sign rest) rest ≡ Ok (qs, rest)
  quiet_behind quote qs rest h = by_sign (next_sign rest) h
    where
      by_sign : (o : Option Sign) → is_arrow o ≡ false → behind_atom def params quote qs o rest ≡ Ok (qs, rest)
      by_sign (Some signs.Arrow) h = absurd cc
      by_sign other h = refl

  part_bare_again : (ts : List Lexeme) (a : Form) → Agains def params Atom ts a → Agains def params Part ts a
  unfolding part_at
  part_bare_again ts a ih fields n rest h = then def params Atom ts a ih fields n rest tt (λ x. behind_atom def params (comes (is_quote_kind def params) (ts ++ rest)) x.0 (next_sign x.1) x.1)
      ∙ ap (λ (r : Read (List Query)). told (faults_in def params fields n a) (bare r)) (quiet_behind (comes (is_quote_kind def params) (ts ++ rest)) (parts_in def params fields a) rest h)

  pub block_read : (us : List Lexeme) (pairs : List Pair) (r : ℕ) (rest : List Lexeme) → Pairs params [] us pairs → pairs_at def params [] (us ++ sign r signs.AttrClose ∷ rest) ≡ Closed pairs rest
  unfolding pairs_at
  block_read us pairs r rest d =
      let l : length (us ++ sign r signs.AttrClose ∷ rest) ≡ length us + suc (length rest) = length-append us (sign r signs.AttrClose ∷ rest) in
      block_again def params d (suc (length (us ++ sign r signs.AttrClose ∷ rest))) [] r rest (omega arith) (λ x. refl)

  attributes_again : (p q r : ℕ) (ts us : List Lexeme) (a : Form) (pairs : List Pair) → Spells params Atom ts a → Pairs params [] us pairs → Agains def params Atom ts a
      → Agains def params Part (ts ++ sign p signs.Arrow ∷ sign q signs.AttrOpen ∷ us ++ sign r signs.AttrClose ∷ []) (With a p pairs)
  unfolding part_at
  attributes_again p q r ts us a pairs d e ih fields n rest h =
      ap (λ (x : List Lexeme). bare (reads def params fields n Part x)) whole
      ∙ then def params Atom ts a ih fields n (sign p signs.Arrow ∷ sign q signs.AttrOpen ∷ (us ++ sign r signs.AttrClose ∷ rest)) tt (λ x. behind_atom def params (comes (is_quote_kind def params) (ts ++ (sign p signs.Arrow ∷ sign q signs.AttrOpen ∷ (us ++ sign r signs.AttrClose ∷ rest)))) x.0 (next_sign x.1) x.1)
      ∙ ap (λ (b : Bool). told (faults_in def params fields n a) (bare (behind_atom def params b (parts_in def params fields a) (Some signs.Arrow) (sign p signs.Arrow ∷ sign q signs.AttrOpen ∷ (us ++ sign r signs.AttrClose ∷ rest))))) (sym (atom_quote def params d (sign p signs.Arrow ∷ sign q signs.AttrOpen ∷ (us ++ sign r signs.AttrClose ∷ rest))))
      ∙ ap (λ (b : Block def params). told (faults_in def params fields n a) (bare (with_block def params p (is_quote a) (parts_in def params fields a) b))) (block_read us pairs r rest e)
      ∙ ap (λ (r : Read (List Query)). told (faults_in def params fields n a) r)
      (bare_unless (attribute_faults params p pairs (parts_in def params fields a)) rest (attributed params (is_quote a) pairs (parts_in def params fields a), rest))
      ∙ told_append (faults_in def params fields n a) (attribute_faults params p pairs (parts_in def params fields a)) (Ok (attributed params (is_quote a) pairs (parts_in def params fields a), rest))
    where
      whole : (ts ++ sign p signs.Arrow ∷ sign q signs.AttrOpen ∷ us ++ sign r signs.AttrClose ∷ []) ++ rest ≡ ts ++ (sign p signs.Arrow ∷ sign q signs.AttrOpen ∷ (us ++ sign r signs.AttrClose ∷ rest))
      whole = simp append_assoc

  unary_is_part : (d : Deeper def params) (fields : Fields) (ts : List Lexeme) → Started ts → unary_at def params d fields ts ≡ part_at def params d fields ts
  unfolding unary_at
  unary_is_part d fields [] h = absurd h
  unary_is_part d fields (t ∷ ts) h = by_kind t.kind h
    where
      by_kind : (k : LexKind) → starts k ≡ true → unary_with def params d fields (sign_in k) (t ∷ ts) ≡ part_at def params d fields (t ∷ ts)
      by_kind (kinds.Sign signs.Minus) h = absurd cc
      by_kind (kinds.Sign signs.Tilde) h = absurd cc
      by_kind (kinds.Sign signs.At) h = absurd cc
      by_kind other h = refl

  part_again : (ts : List Lexeme) (a : Form) → Spells params Part ts a → Agains def params Part ts a → Agains def params Unary ts a
  part_again ts a d ih fields n rest h = ap bare (unary_is_part (deeper def params n) fields (ts ++ rest) (started_append ts rest (part_started d))) ∙ ih fields n rest h

  -- ---- fields

  target_is_part : (inner : Fields → Sort → Reader) (numbers : List ℕ) (ts : List Lexeme) → Started ts
      → target_with def params inner numbers (next_sign ts) ts ≡ unless_other def params is_text numbers ts (inner (asked_of.Named numbers) Part ts)
  target_is_part inner numbers [] h = absurd h
  target_is_part inner numbers (t ∷ ts) h = by_kind t.kind h
    where
      by_kind : (k : LexKind) → starts k ≡ true → target_with def params inner numbers (sign_in k) (record { at = t.at; kind = k } ∷ ts)
          ≡ unless_other def params is_text numbers (record { at = t.at; kind = k } ∷ ts) (inner (asked_of.Named numbers) Part (record { at = t.at; kind = k } ∷ ts))
      by_kind (kinds.Sign signs.Open) h = refl
      by_kind (kinds.Sign signs.Star) h = refl
      by_kind (kinds.Sign other) h = absurd cc
      by_kind (kinds.Raw text) h = absurd cc
      by_kind (kinds.Tag text prefix) h = absurd cc
      by_kind other h = refl

  -- the names of a field are read, then what is asked of it
  names_then : (fields : Fields) (n p q : ℕ) (us names rest : List Lexeme) → Names us names
      → bare (reads def params fields (suc n) Unary (sign p signs.At ∷ us ++ sign q signs.Colon ∷ rest))
      ≡ told (flat_map (name_faults def.fields) names) (bare (target_with def params (λ fields s. reads def params fields n s) (numbers_of def names) (next_sign rest) rest))
  unfolding unary_at names_at
  names_then fields n p q us names rest d =
      let l : length (us ++ sign q signs.Colon ∷ rest) ≡ length us + suc (length rest) = length-append us (sign q signs.Colon ∷ rest) in
      bare_bind (flat_map (name_faults def.fields) names) (names_at def params [] (us ++ sign q signs.Colon ∷ rest)) (numbers_of def names, sign q signs.Colon ∷ rest)
      (λ x. behind_names def params (λ fields s. reads def params fields n s) x.0 (next_sign x.1) x.1)
      (names_again def params d (suc (length (us ++ sign q signs.Colon ∷ rest))) [] q rest (omega arith))

  kind_told : (test : FieldKind → Bool) (numbers : List ℕ) (ts : List Lexeme) (at : ℕ) (fs : List QueryFault) (r : Read (List Query)) (x : List Query × List Lexeme) → bare r ≡ told fs (Ok x) → at ≡ place_of 0 ts
      → bare (unless_other def params test numbers ts r) ≡ told (one_if (has_other test def.fields (asked_of.Named numbers)) (WrongKind at) ++ fs) (Ok x)
  kind_told test numbers ts at fs r x e same = by_test (has_other test def.fields (asked_of.Named numbers))
    where
      by_test : (b : Bool) → bare (cond b (Err (Found (WrongKind (place_of 0 ts)) (drop 1 ts))) r) ≡ told (one_if b (WrongKind at) ++ fs) (Ok x)
      by_test true = ap (λ (k : ℕ). Err (Found (WrongKind k) [])) (sym same)
      by_test false = e

  -- all that a field is told, with another way to write its list of faults
  field_told : (names : List Lexeme) (r : Read (List Query)) (gs : List QueryFault) (x : List Query × List Lexeme) → bare r ≡ told gs (Ok x)
      → told (flat_map (name_faults def.fields) names) (bare r) ≡ told (flat_map (name_faults def.fields) names ++ gs) (Ok x)
  field_told names r gs x e = ap (λ (y : Read (List Query)). told (flat_map (name_faults def.fields) names) y) e ∙ told_append (flat_map (name_faults def.fields) names) gs (Ok x)

  field_again : (p q : ℕ) (us names ts : List Lexeme) (a : Form) → Names us names → Spells params Part ts a → Agains def params Part ts a → Agains def params Unary (sign p signs.At ∷ us ++ sign q signs.Colon ∷ ts) (Named p names a)
  unfolding unary_at
  field_again p q us names ts a d e ih fields zero rest h = refl
  field_again p q us names ts a d e ih fields (suc n) rest h =
      ap (λ (x : List Lexeme). bare (reads def params fields (suc n) Unary (sign p signs.At ∷ x))) (append_assoc us (sign q signs.Colon ∷ ts) rest)
      ∙ names_then fields n p q us names (ts ++ rest) d
      ∙ field_told names (target_with def params (λ fields s. reads def params fields n s) (numbers_of def names) (next_sign (ts ++ rest)) (ts ++ rest))
      (kind_faults def.fields (fields_of def.fields names) a ++ faults_in def params (fields_of def.fields names) n a) (parts_in def params (fields_of def.fields names) a, rest)
      (ap bare (target_is_part (λ fields s. reads def params fields n s) (numbers_of def names) (ts ++ rest) (started_append ts rest (part_started e)))
      ∙ kind_told is_text (numbers_of def names) (ts ++ rest) (start_of a) (faults_in def params (fields_of def.fields names) n a) (reads def params (fields_of def.fields names) n Part (ts ++ rest)) (parts_in def params (fields_of def.fields names) a, rest)
      (ih (fields_of def.fields names) n rest h) (part_start e ∙ place_append ts rest (part_started e))
      ∙ ap (λ (test : FieldKind → Bool). told (one_if (has_other test def.fields (fields_of def.fields names)) (WrongKind (start_of a)) ++ faults_in def params (fields_of def.fields names) n a) (Ok (parts_in def params (fields_of def.fields names) a, rest))) (sym (part_needs params e)))

  -- an unknown name is told before what is asked of the one field
  one_field : (t : Lexeme) (o : Option ℕ) → number_of_alias def.fields (name_of t.kind) ≡ o → (r : List ℕ → Read (List Query)) (fs : ℕ → List QueryFault) (x : ℕ → List Query × List Lexeme) (gs : List ℕ → List QueryFault) (y : List ℕ → List Query × List Lexeme)
      → ((k : ℕ) → r (k ∷ []) ≡ told (gs (k ∷ [])) (Ok (y (k ∷ []))))
      → told (flat_map (name_faults def.fields) (t ∷ [])) (r (cons_option o [])) ≡ told (flat_map (name_faults def.fields) (t ∷ []) ++ gs (cons_option o [])) (Ok (y (cons_option o [])))
  one_field t None e r fs x gs y h = rw e refl
  one_field t (Some k) e r fs x gs y h = ap (λ (z : Read (List Query)). told (flat_map (name_faults def.fields) (t ∷ [])) z) (h k) ∙ told_append (flat_map (name_faults def.fields) (t ∷ [])) (gs (k ∷ [])) (Ok (y (k ∷ [])))

  range_field_again : (p q r s : ℕ) (t : Lexeme) (us vs : List Lexeme) (low high : Edge) → IsTrue (is_field_name t.kind) → IsEdge params us low → IsEdge params vs high
      → Agains def params Unary (sign p signs.At ∷ t ∷ sign q signs.Colon ∷ sign r signs.RangeOpen ∷ us ++ (vs ++ sign s signs.RangeClose ∷ [])) (Named p (t ∷ []) (Range r low high))
  unfolding unary_at
  range_field_again p q r s t us vs low high h d e fields zero rest c = refl
  range_field_again p q r s t us vs low high h d e fields (suc n) rest c =
      ap (λ (x : List Lexeme). bare (reads def params fields (suc n) Unary (sign p signs.At ∷ t ∷ sign q signs.Colon ∷ sign r signs.RangeOpen ∷ x))) whole
      ∙ names_then fields n p q (t ∷ []) (t ∷ []) (sign r signs.RangeOpen ∷ (us ++ (vs ++ sign s signs.RangeClose ∷ rest))) (last_name t h)
      ∙ one_field t (number_of_alias def.fields (name_of t.kind)) refl (λ ns. bare (range_target def params ns (sign r signs.RangeOpen ∷ (us ++ (vs ++ sign s signs.RangeClose ∷ rest))))) (λ k. []) (λ k. ([], []))
      (λ ns. kind_faults def.fields (asked_of.Named ns) (Range r low high) ++ (faults_at params low.value ++ faults_at params high.value))
      (λ ns. (parts_in def params (asked_of.Named ns) (Range r low high), rest))
      (λ k. kind_told is_numeric (k ∷ []) (sign r signs.RangeOpen ∷ (us ++ (vs ++ sign s signs.RangeClose ∷ rest))) r (faults_at params low.value ++ faults_at params high.value) (range_at def params k (us ++ (vs ++ sign s signs.RangeClose ∷ rest))) (parts_in def params (asked_of.Named (k ∷ [])) (Range r low high), rest)
      (range_again def params k s us vs rest low high d e) refl)
    where
      whole : (us ++ (vs ++ sign s signs.RangeClose ∷ [])) ++ rest ≡ (us ++ (vs ++ sign s signs.RangeClose ∷ rest))
      whole = simp append_assoc

  tags_field_again : (p q r s : ℕ) (t : Lexeme) (us : List Lexeme) → IsTrue (is_field_name t.kind) → AreTags def params 0 us
      → Agains def params Unary (sign p signs.At ∷ t ∷ sign q signs.Colon ∷ sign r signs.TagOpen ∷ us ++ sign s signs.TagClose ∷ []) (Named p (t ∷ []) (Tags r us))
  unfolding unary_at
  tags_field_again p q r s t us h d fields zero rest c = refl
  tags_field_again p q r s t us h d fields (suc n) rest c =
      ap (λ (x : List Lexeme). bare (reads def params fields (suc n) Unary (sign p signs.At ∷ t ∷ sign q signs.Colon ∷ sign r signs.TagOpen ∷ x))) (append_assoc us (sign s signs.TagClose ∷ []) rest)
      ∙ names_then fields n p q (t ∷ []) (t ∷ []) (sign r signs.TagOpen ∷ (us ++ sign s signs.TagClose ∷ rest)) (last_name t h)
      ∙ one_field t (number_of_alias def.fields (name_of t.kind)) refl (λ ns. bare (tags_target def params ns (sign r signs.TagOpen ∷ (us ++ sign s signs.TagClose ∷ rest)))) (λ k. []) (λ k. ([], []))
      (λ ns. kind_faults def.fields (asked_of.Named ns) (Tags r us) ++ tag_faults def params 0 us)
      (λ ns. (parts_in def params (asked_of.Named ns) (Tags r us), rest))
      (λ k. kind_told is_tag_kind (k ∷ []) (sign r signs.TagOpen ∷ (us ++ sign s signs.TagClose ∷ rest)) r (tag_faults def params 0 us) (tags_at def params (case_of (slice_get def.fields k)) [] (us ++ sign s signs.TagClose ∷ rest) >>= λ x. Ok (tree.Tags k x.0 ∷ [], x.1))
      (parts_in def params (asked_of.Named (k ∷ [])) (Tags r us), rest)
      (bare_bind (tag_faults def params 0 us) (tags_at def params (case_of (slice_get def.fields k)) [] (us ++ sign s signs.TagClose ∷ rest)) (map (λ (t : Lexeme). tag_part params (case_of (slice_get def.fields k)) t.kind) us, rest) (λ x. Ok (tree.Tags k x.0 ∷ [], x.1))
      (tags_again def params (case_of (slice_get def.fields k)) [] us s rest d)) refl)

  -- ---- all sorts

  pub again : {s : Sort} {ts : List Lexeme} {a : Form} → Spells params s ts a → Agains def params s ts a
  again (one_side {ts = ts} {a = a} d) = one_side_again def params ts a (again d)
  again (sides p {ts = ts} {us = us} {a = a} {b = b} d e) = sides_again def params p ts us a b (again d) (again e)
  again (one_part {ts = ts} {a = a} d) = one_part_again def params ts a (again d)
  again (parts {ts = ts} {us = us} {a = a} {b = b} d e) = parts_again def params ts us a b (sentence_begun e) (again d) (again e)
  again (minus p {ts = ts} {a = a} d) = minus_again def params p ts a (again d)
  again (tilde p {ts = ts} {a = a} d) = tilde_again def params p ts a (again d)
  again (field p q {us = us} {names = names} {ts = ts} {a = a} d e) = field_again p q us names ts a d e (again e)
  again (range p q r s t {us = us} {vs = vs} {low = low} {high = high} h d e) = range_field_again p q r s t us vs low high h d e
  again (tags p q r s t us h d) = tags_field_again p q r s t us h d
  again (part {ts = ts} {a = a} d) = part_again ts a d (again d)
  again (part_bare {ts = ts} {a = a} d) = part_bare_again ts a (again d)
  again (with_attributes p q r {ts = ts} {us = us} {a = a} {pairs = pairs} d e) = attributes_again p q r ts us a pairs d e (again d)
  again (single t h) = single_again def params t h
  again (empty_group p q) = empty_again def params p q
  again (group p q {ts = ts} {a = a} d) = group_again def params p q ts a (sentence_begun d) (again d)

  -- a sentence is read as its form, or as the first fault of its form
  pub sentence_read : (fields : Fields) (n : ℕ) (ts : List Lexeme) (a : Form) → Spells params Union ts a → bare (reads def params fields n Union ts) ≡ told (faults_in def params fields n a) (Ok (parts_in def params fields a, []))
  sentence_read fields n ts a d = ap (λ (x : List Lexeme). bare (reads def params fields n Union x)) (sym (append-nil ts)) ∙ done def params Union ts a (again d) fields n [] (refl, refl, refl)
