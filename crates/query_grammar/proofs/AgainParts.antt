-- What stands in brackets or braces, and the names of a field, are read as what they spell.
use Rattle.std.proofs.Common.{◌≡◌, ℕ, zero, suc, ◌<◌, Bool, true, false, cond, List, [], ◌∷◌, ◌++◌, length, map, Option, Some, None, Ok, Err, refl, sym, ap, ◌∙◌, append_assoc, append-nil, unwrap_or, arith}
use Rattle.std.specs.List.{cons_option, flat_map, list_all}
use Rattle.std.proofs.lemmas.Bool.{and_parts, not-true}
use Rattle.ft_base.specs.declared.definition.IndexDef.{IndexDef}
use Rattle.ft_base.specs.declared.query.Param.{Param}
use Rattle.ft_base.specs.declared.query.Query.{Query}
use Rattle.ft_base.specs.declared.query.TagPart.{TagPart}
use Rattle.ft_base.specs.Reading.{◌>>=◌}
use Rattle.query_lex.specs.declared.lexeme.Lexeme.{Lexeme}
use Rattle.query_lex.specs.declared.lexeme.LexKind.{LexKind}
use Rattle.query_lex.specs.declared.lexeme.LexKind.TheVariants as kinds
use Rattle.query_lex.specs.declared.lexeme.Sign.TheVariants as signs
use Rattle.query_grammar.specs.declared.fault.QueryFault.{QueryFault}
use Rattle.query_grammar.specs.Faults.{faults_at, is_foreign, name_faults}
use Rattle.query_grammar.specs.Form.{Edge, Pair}
use Rattle.query_grammar.specs.Grammar.{IsEdge, included, excluded, Names, last as last_name, more as more_names, Pairs, none, last, more, has_name, is_edge, is_field_name, is_tag, sign}
use Rattle.query_grammar.specs.Meaning.{name_of, number_of_alias, tag_part}
use Rattle.query_grammar.specs.Reading.{Broken, Found, Cut, Read, Closed, closed_range, edge_at, edge_with, name_at, name_with, names_in, next_sign, pairs_in, range_at, range_by, sign_in, tags_at, tags_in, tags_with, unless, value_at, behind_field_name}
use Rattle.query_grammar.proofs.Blocks.{Same, same_more}
use Rattle.query_grammar.proofs.Enclosed.{AreTags, tag_faults}
use Rattle.query_grammar.proofs.Targets.{numbers_of}

-- the first of some faults, or else what is read
abbrev pub told : {A : Type 0} → List QueryFault → Read A → Read A
told [] r = r
told (f ∷ fs) r = Err (Found f [])

-- a reading without the lexemes behind a fault
abbrev pub bare : {A : Type 0} → Read A → Read A
bare (Ok x) = Ok x
bare (Err (Broken rest)) = Err (Broken rest)
bare (Err (Found f rest)) = Err (Found f [])
bare (Err (Cut f rest)) = Err (Cut f rest)

ok_is : {A : Type 0} (y x : A × List Lexeme) → ◌≡◌ {A = Read A} (Ok y) (Ok x) → y ≡ x
ok_is y x e = cc

pub bare_bind : {A B : Type 0} (fs : List QueryFault) (r : Read A) (x : A × List Lexeme) (k : A × List Lexeme → Read B) → bare r ≡ told fs (Ok x) → bare (r >>= k) ≡ told fs (bare (k x))
bare_bind {A = A} [] (Ok y) x k e = ap (λ (z : A × List Lexeme). bare (k z)) (ok_is y x e)
bare_bind [] (Err (Broken rest)) x k e = absurd cc
bare_bind [] (Err (Found f rest)) x k e = absurd cc
bare_bind [] (Err (Cut f rest)) x k e = absurd cc
bare_bind (f ∷ fs) (Ok y) x k e = absurd cc
bare_bind (f ∷ fs) (Err (Broken rest)) x k e = absurd cc
bare_bind (f ∷ fs) (Err (Found g rest)) x k e = let same : g ≡ f = cc in ap (λ (h : QueryFault). Err (Found h [])) same
bare_bind (f ∷ fs) (Err (Cut g rest)) x k e = absurd cc

pub told_append : {A : Type 0} (fs gs : List QueryFault) (r : Read A) → told fs (told gs r) ≡ told (fs ++ gs) r
told_append [] gs r = refl
told_append (f ∷ fs) gs r = refl

pub bare_unless : {A : Type 0} (fs : List QueryFault) (rest : List Lexeme) (x : A × List Lexeme) → bare (unless fs rest (Ok x)) ≡ told fs (Ok x)
bare_unless [] rest x = refl
bare_unless (f ∷ fs) rest x = refl

module _ (def : IndexDef) (params : List Param) where
  -- ---- attributes

  pub block_again : {names : List (List ℕ)} {us : List Lexeme} {pairs : List Pair} → Pairs params names us pairs
      → (n : ℕ) (before : List Pair) (r : ℕ) (rest : List Lexeme) → length us < n → Same before names → pairs_in def params n before (us ++ sign r signs.AttrClose ∷ rest) ≡ Closed (before ++ pairs) rest
  block_again d zero before r rest l s = absurd (omega arith)
  block_again (none names) (suc n) before r rest l s = ap (λ (ps : List Pair). Closed ps rest) (sym (append-nil before))
  block_again (last names p q name t h k) (suc n) before r rest l s = rw (s name ∙ not-true (has_name names name) h, k) refl
  block_again (more names p q v name t h k d) (suc n) before r rest l s = rw (s name ∙ not-true (has_name names name) h, k)
      (block_again d n (before ++ record { at = p; name = name; value = Some t } ∷ []) r rest (omega arith) (same_more before names (record { at = p; name = name; value = Some t }) s)
      ∙ ap (λ (ps : List Pair). Closed ps rest) (append_assoc before (record { at = p; name = name; value = Some t } ∷ []) _))

  -- ---- ranges

  edge_sign : (k : LexKind) → is_edge params k ≡ true → sign_in k ≡ None
  edge_sign (kinds.Sign s) h = absurd cc
  edge_sign other h = refl

  value_again : (b : Bool) (t : Lexeme) (rest : List Lexeme) → is_edge params t.kind ≡ true → bare (value_at def params b (t ∷ rest)) ≡ told (faults_at params t) (Ok (record { excluded = b; value = t }, rest))
  unfolding value_at
  value_again b t rest h = ap (λ (c : Bool). bare (cond c (unless (faults_at params t) rest (Ok (record { excluded = b; value = t }, rest))) (Err (Broken (t ∷ rest))))) h ∙ bare_unless (faults_at params t) rest (record { excluded = b; value = t }, rest)

  pub edge_again : {us : List Lexeme} {edge : Edge} → IsEdge params us edge → (rest : List Lexeme) → bare (edge_at def params (us ++ rest)) ≡ told (faults_at params edge.value) (Ok (edge, rest))
  edge_again (included t h) rest = ap (λ o. bare (edge_with def params o (t ∷ rest))) (edge_sign t.kind h) ∙ value_again false t rest h
  edge_again (excluded p t h) rest = value_again true t rest h

  pub range_again : (field s : ℕ) (us vs rest : List Lexeme) (low high : Edge) → IsEdge params us low → IsEdge params vs high
      → bare (range_at def params field (us ++ (vs ++ sign s signs.RangeClose ∷ rest))) ≡ told (faults_at params low.value ++ faults_at params high.value) (Ok (range_by def params field low high ∷ [], rest))
  unfolding range_at
  range_again field s us vs rest low high d e =
      bare_bind (faults_at params low.value) (edge_at def params (us ++ (vs ++ sign s signs.RangeClose ∷ rest))) (low, vs ++ sign s signs.RangeClose ∷ rest)
      (λ low. edge_at def params low.1 >>= λ high. closed_range def params field low.0 high.0 (next_sign high.1) high.1) (edge_again d (vs ++ sign s signs.RangeClose ∷ rest))
      ∙ ap (λ (r : Read (List Query)). told (faults_at params low.value) r)
      (bare_bind (faults_at params high.value) (edge_at def params (vs ++ sign s signs.RangeClose ∷ rest)) (high, sign s signs.RangeClose ∷ rest) (λ high. closed_range def params field low high.0 (next_sign high.1) high.1) (edge_again e (sign s signs.RangeClose ∷ rest)))
      ∙ told_append (faults_at params low.value) (faults_at params high.value) (Ok (range_by def params field low high ∷ [], rest))

  -- ---- tags

  tag_sign : (k : LexKind) → is_tag k ≡ true → sign_in k ≡ None
  tag_sign (kinds.Sign s) h = absurd cc
  tag_sign other h = refl

  tag_step : (case : Bool) (before : List TagPart) (t : Lexeme) (rest : List Lexeme) → is_tag t.kind ≡ true
      → tags_at def params case before (t ∷ rest) ≡ unless (faults_at params t) rest (tags_at def params case (before ++ tag_part params case t.kind ∷ []) rest)
  unfolding tags_at
  tag_step case before t rest h = ap (λ o. tags_with def params (λ parts us. tags_in def params case (suc (length rest)) parts us) case before o (t ∷ rest)) (tag_sign t.kind h)
      ∙ ap (λ (c : Bool). cond c (unless (faults_at params t) rest (tags_in def params case (suc (length rest)) (before ++ tag_part params case t.kind ∷ []) rest)) (Err (Broken (t ∷ rest)))) h

  tags_end : (case : Bool) (before : List TagPart) (s : ℕ) (rest : List Lexeme) → tags_at def params case before (sign s signs.TagClose ∷ rest) ≡ Ok (before, rest)
  unfolding tags_at
  tags_end case before s rest = refl

  tags_told : (case : Bool) (before : List TagPart) (t : Lexeme) (us : List Lexeme) (s : ℕ) (rest : List Lexeme)
      → bare (tags_at def params case (before ++ tag_part params case t.kind ∷ []) (us ++ sign s signs.TagClose ∷ rest))
      ≡ told (tag_faults def params 0 us) (Ok ((before ++ tag_part params case t.kind ∷ []) ++ map (λ (t : Lexeme). tag_part params case t.kind) us, rest))
      → (fs : List QueryFault)
      → bare (unless fs (us ++ sign s signs.TagClose ∷ rest) (tags_at def params case (before ++ tag_part params case t.kind ∷ []) (us ++ sign s signs.TagClose ∷ rest)))
      ≡ told (fs ++ tag_faults def params 0 us) (Ok (before ++ map (λ (t : Lexeme). tag_part params case t.kind) (t ∷ us), rest))
  tags_told case before t us s rest ih [] = ih ∙ ap (λ (ps : List TagPart). told (tag_faults def params 0 us) (Ok (ps, rest))) (append_assoc before (tag_part params case t.kind ∷ []) (map (λ (t : Lexeme). tag_part params case t.kind) us))
  tags_told case before t us s rest ih (f ∷ fs) = refl

  pub tags_again : (case : Bool) (before : List TagPart) (us : List Lexeme) (s : ℕ) (rest : List Lexeme) → AreTags def params 0 us
      → bare (tags_at def params case before (us ++ sign s signs.TagClose ∷ rest)) ≡ told (tag_faults def params 0 us) (Ok (before ++ map (λ (t : Lexeme). tag_part params case t.kind) us, rest))
  tags_again case before [] s rest h = ap bare (tags_end case before s rest) ∙ ap (λ (ps : List TagPart). Ok (ps, rest)) (sym (append-nil before))
  tags_again case before (t ∷ us) s rest h =
      let both = and_parts (is_tag t.kind) (list_all (λ (u : Lexeme). is_tag u.kind) us) h in
      ap bare (tag_step case before t (us ++ sign s signs.TagClose ∷ rest) both.0)
      ∙ tags_told case before t us s rest (tags_again case (before ++ tag_part params case t.kind ∷ []) us s rest both.1) (faults_at params t)

  -- ---- names

  name_step : (t : Lexeme) (rest : List Lexeme) → is_field_name t.kind ≡ true → name_at def params (t ∷ rest) ≡ name_with def params (number_of_alias def.fields (name_of t.kind)) t rest
  unfolding name_at
  name_step t rest h = ap (λ (c : Bool). cond c (name_with def params (number_of_alias def.fields (name_of t.kind)) t rest) (Err (Broken (t ∷ rest)))) h

  abbrev number : Lexeme → ℕ
  number t = unwrap_or (number_of_alias def.fields (name_of t.kind)) 0

  name_read : (t : Lexeme) (rest : List Lexeme) (o : Option ℕ) (b : Bool) → number_of_alias def.fields (name_of t.kind) ≡ o → is_foreign t.kind ≡ b
      → bare (name_with def params o t rest) ≡ told (name_faults def.fields t) (Ok (unwrap_or o 0, rest))
  name_read t rest None b e f = rw e refl
  name_read t rest (Some k) true e f = rw (e, f) refl
  name_read t rest (Some k) false e f = rw (e, f) refl

  names_step : (t : Lexeme) (n : ℕ) (before : List ℕ) (rest : List Lexeme) → is_field_name t.kind ≡ true
      → bare (names_in def params (suc n) before (t ∷ rest)) ≡ told (name_faults def.fields t) (bare (behind_field_name def params (λ us. names_in def params n (before ++ number t ∷ []) us) (before ++ number t ∷ []) (next_sign rest) rest))
  names_step t n before rest h = bare_bind (name_faults def.fields t) (name_at def params (t ∷ rest)) (number t, rest)
      (λ x. behind_field_name def params (λ us. names_in def params n (before ++ x.0 ∷ []) us) (before ++ x.0 ∷ []) (next_sign x.1) x.1)
      (ap bare (name_step t rest h) ∙ name_read t rest (number_of_alias def.fields (name_of t.kind)) (is_foreign t.kind) refl refl)

  named : (t : Lexeme) (before xs : List ℕ) (fs : List QueryFault) (rest : List Lexeme) (o : Option ℕ) → number_of_alias def.fields (name_of t.kind) ≡ o
      → told (name_faults def.fields t) (told fs (Ok ((before ++ unwrap_or o 0 ∷ []) ++ xs, rest))) ≡ told (name_faults def.fields t ++ fs) (Ok (before ++ cons_option o xs, rest))
  named t before xs fs rest None e = rw e refl
  named t before xs fs rest (Some k) e = told_append (name_faults def.fields t) fs (Ok ((before ++ k ∷ []) ++ xs, rest))
      ∙ ap (λ (ns : List ℕ). told (name_faults def.fields t ++ fs) (Ok (ns, rest))) (append_assoc before (k ∷ []) xs)

  pub names_again : {us names : List Lexeme} → Names us names → (n : ℕ) (before : List ℕ) (q : ℕ) (rest : List Lexeme) → length us < n
      → bare (names_in def params n before (us ++ sign q signs.Colon ∷ rest)) ≡ told (flat_map (name_faults def.fields) names) (Ok (before ++ numbers_of def names, sign q signs.Colon ∷ rest))
  names_again d zero before q rest l = absurd (omega arith)
  names_again (last_name t h) (suc n) before q rest l = names_step t n before (sign q signs.Colon ∷ rest) h
      ∙ ap (λ (ns : List ℕ). told (name_faults def.fields t) (Ok (ns, sign q signs.Colon ∷ rest))) (sym (append-nil (before ++ number t ∷ [])))
      ∙ named t before [] [] (sign q signs.Colon ∷ rest) (number_of_alias def.fields (name_of t.kind)) refl
  names_again (more_names t p {ts = ts} {names = names} h d) (suc n) before q rest l = names_step t n before (sign p signs.Pipe ∷ ts ++ sign q signs.Colon ∷ rest) h
      ∙ ap (λ (r : Read (List ℕ)). told (name_faults def.fields t) r) (names_again d n (before ++ number t ∷ []) q rest (omega arith))
      ∙ named t before (numbers_of def names) (flat_map (name_faults def.fields) names) (sign q signs.Colon ∷ rest) (number_of_alias def.fields (name_of t.kind)) refl
