-- A reading stays as it is when lexemes come behind, up to the end of what it saw: what it may be then, and the names,
-- ranges and tags of fields.
use Rattle.std.proofs.Common.{◌≡◌, ◌⊎◌, inl, inr, ℕ, zero, suc, ◌+◌, ◌<◌, ◌≤◌, Bool, true, false, cond, List, [], ◌∷◌, ◌++◌, length, Option, Some, None, Ok, Err, refl, sym, ap, subst, ◌∙◌, append_assoc, length-append, arith}
use Rattle.std.specs.List.{Contains, flat_map}
use Rattle.ft_base.specs.declared.definition.IndexDef.{IndexDef}
use Rattle.ft_base.specs.declared.query.Param.{Param}
use Rattle.ft_base.specs.declared.query.Query.{Query}
use Rattle.ft_base.specs.declared.query.TagPart.{TagPart}
use Rattle.ft_base.specs.Reading.{◌>>=◌}
use Rattle.query_lex.specs.declared.lexeme.Lexeme.{Lexeme}
use Rattle.query_lex.specs.declared.lexeme.Sign.{Sign}
use Rattle.query_lex.specs.declared.lexeme.Sign.TheVariants as signs
use Rattle.query_grammar.specs.declared.fault.QueryFault.{QueryFault}
use Rattle.query_grammar.specs.declared.fault.QueryFault.TheVariants.{OutOfScope}
use Rattle.query_grammar.specs.Faults.{faults_at, is_foreign, pair_faults}
use Rattle.query_grammar.specs.Form.{Edge, Pair}
use Rattle.query_grammar.specs.Grammar.{is_edge, is_field_name, is_tag, sign}
use Rattle.query_grammar.specs.Meaning.{name_of, number_of_alias, tag_part}
use Rattle.query_grammar.specs.Reading.{Stop, Broken, Found, Cut, Read, Open, behind_field_name, closed_range, edge_at, edge_with, name_at, name_with, names_at, names_in, next_sign, pairs_at, range_at, sign_in, tags_at, tags_in, tags_with, unless, value_at}
use Rattle.query_grammar.proofs.Enclosed.{LeadEdge, ReadEdge, edge_spelled}
use Rattle.query_grammar.proofs.Low.{Lessens, Low, behind_name_low, closed_range_low, edge_low, high_low, lessens_bind, name_low, names_in_low, reach, tags_in_low, value_low}
use Rattle.query_grammar.proofs.Targets.{IsName, LeadNames, Spelled, name_spelled}

-- a reading tells this fault
abbrev pub Says : {A : Type 0} → QueryFault → Read A → Type 0
Says f (Ok x) = ⊥
Says f (Err (Broken rest)) = ⊥
Says f (Err (Found g rest)) = g ≡ f
Says f (Err (Cut g rest)) = g ≡ f

says_bind : {A B : Type 0} (f : QueryFault) (k : A × List Lexeme → Read B) (r : Read A) → Says f r → Says f (r >>= k)
says_bind f k (Ok x) h = absurd h
says_bind f k (Err (Broken rest)) h = absurd h
says_bind f k (Err (Found g rest)) h = h
says_bind f k (Err (Cut g rest)) h = h

module _ (def : IndexDef) (params : List Param) where
  -- The lexemes end within attributes of which one has this fault.
  pub record Severs (ts : List Lexeme) (f : QueryFault) : Type 0 where
    pub before : List Lexeme
    pub p : ℕ
    pub q : ℕ
    pub us : List Lexeme
    pub pairs : List Pair
    pub parts : ts ≡ before ++ sign p signs.Arrow ∷ sign q signs.AttrOpen ∷ us
    pub read : pairs_at def params [] us ≡ Open pairs []
    pub among : Contains (flat_map (pair_faults params) pairs) f

  severs_behind : (front ts : List Lexeme) (f : QueryFault) → Severs ts f → Severs (front ++ ts) f
  severs_behind front ts f h = record {
    before = front ++ h.before;
    p = h.p;
    q = h.q;
    us = h.us;
    pairs = h.pairs;
    parts = ap (λ (x : List Lexeme). front ++ x) h.parts ∙ sym (append_assoc front h.before (sign h.p signs.Arrow ∷ sign h.q signs.AttrOpen ∷ h.us));
    read = h.read;
    among = h.among;
  }

  module _ {A : Type 0} where
    abbrev pub KeepsBy : Read A → List Lexeme → List Lexeme → Read A → Type 0
    KeepsBy same (t ∷ rest) more r = r ≡ same
    KeepsBy same [] [] r = r ≡ same
    KeepsBy same [] (t ∷ more) r = reach r ≤ length (t ∷ more)

    abbrev pub FarBy : Read A → List Lexeme → List Lexeme → Read A → Type 0
    FarBy same (t ∷ rest) more r = r ≡ same
    FarBy same [] [] r = r ≡ same
    FarBy same [] (t ∷ more) r = (reach r ≤ length (t ∷ more)) ⊎ (r ≡ same)

    abbrev pub Tells : List Lexeme → QueryFault → List Lexeme → Read A → Type 0
    Tells ts f (t ∷ rest) r = Unit {0}
    Tells ts f [] r = Says f r ⊎ Severs ts f

    -- What the reading of some lexemes is, and what it is where more stand behind.
    abbrev pub Keeps : List Lexeme → List Lexeme → Read A → Read A → Type 0
    Keeps ts more (Ok x) r = KeepsBy (Ok (x.0, x.1 ++ more)) x.1 more r
    Keeps ts more (Err (Broken rest)) r = KeepsBy (Err (Broken (rest ++ more))) rest more r
    Keeps ts more (Err (Found f rest)) r = r ≡ Err (Found f (rest ++ more))
    Keeps ts more (Err (Cut f rest)) r = FarBy (Err (Cut f (rest ++ more))) rest more r × Tells ts f rest r

    tells_wider : (front ts : List Lexeme) (f : QueryFault) (rest : List Lexeme) (r : Read A) → Tells ts f rest r → Tells (front ++ ts) f rest r
    tells_wider front ts f (t ∷ rest) r h = tt
    tells_wider front ts f [] r (inl h) = inl h
    tells_wider front ts f [] r (inr h) = inr (severs_behind front ts f h)

    pub keeps_wider : (front ts more : List Lexeme) (r s : Read A) → Keeps ts more r s → Keeps (front ++ ts) more r s
    keeps_wider front ts more (Ok x) s h = h
    keeps_wider front ts more (Err (Broken rest)) s h = h
    keeps_wider front ts more (Err (Found f rest)) s h = h
    keeps_wider front ts more (Err (Cut f rest)) s h = (h.0, tells_wider front ts f rest s h.1)

    pub keeps_ok : (ts more : List Lexeme) (x : A) (rest : List Lexeme) (r : Read A) → r ≡ Ok (x, rest ++ more) → Keeps ts more (Ok (x, rest)) r
    keeps_ok ts more x (t ∷ rest) r e = e
    keeps_ok ts more x [] r e = by_more more e
      where
        by_more : (m : List Lexeme) → r ≡ Ok (x, m) → KeepsBy (Ok (x, m)) [] m r
        by_more [] e = e
        by_more (t ∷ m) e = rw e (omega arith)

    -- a reader at the end, and with more there
    pub nil_broken : (next : List Lexeme → Read A) → Low next → next [] ≡ Err (Broken []) → (ts more : List Lexeme) → Keeps ts more (Err (Broken [])) (next more)
    nil_broken next low e ts [] = e
    nil_broken next low e ts (t ∷ more) = low (t ∷ more)

    pub nil_ok : (next : List Lexeme → Read A) → Low next → (x : A) → next [] ≡ Ok (x, []) → (ts more : List Lexeme) → Keeps ts more (Ok (x, [])) (next more)
    nil_ok next low x e ts [] = e
    nil_ok next low x e ts (t ∷ more) = low (t ∷ more)

    pub keeps_unless : (ts more : List Lexeme) (fs : List QueryFault) (rest : List Lexeme) (r s : Read A) → Keeps ts more r s → Keeps ts more (unless fs rest r) (unless fs (rest ++ more) s)
    keeps_unless ts more [] rest r s h = h
    keeps_unless ts more (f ∷ fs) rest r s h = refl

    pub keeps_along : (ts more : List Lexeme) (q q' r r' : Read A) → r ≡ q → r' ≡ q' → Keeps ts more q q' → Keeps ts more r r'
    keeps_along ts more q q' r r' e e' h = subst (λ (x : Read A). Keeps ts more x r') (sym e) (subst (λ (x : Read A). Keeps ts more q x) (sym e') h)

    nothing_left : (ts more : List Lexeme) (r r' : Read A) → reach r ≤ 0 → (t : Lexeme) → reach r' ≤ length (t ∷ more) → Keeps ts (t ∷ more) r r'
    nothing_left ts more (Ok (x, [])) r' h t l = l
    nothing_left ts more (Ok (x, u ∷ us)) r' h t l = absurd (omega arith)
    nothing_left ts more (Err (Broken [])) r' h t l = l
    nothing_left ts more (Err (Broken (u ∷ us))) r' h t l = absurd (omega arith)
    nothing_left ts more (Err (Found f rest)) r' h t l = absurd (omega arith)
    nothing_left ts more (Err (Cut f rest)) r' h t l = absurd (omega arith)

  tells_bind : {A B : Type 0} (ts : List Lexeme) (f : QueryFault) (rest : List Lexeme) (k : A × List Lexeme → Read B) (r : Read A) → Tells {A = A} ts f rest r → Tells {A = B} ts f rest (r >>= k)
  tells_bind ts f (t ∷ rest) k r h = tt
  tells_bind ts f [] k r (inl h) = inl (says_bind f k r h)
  tells_bind ts f [] k r (inr h) = inr h

  cut_bind : {A B : Type 0} (more : List Lexeme) (f : QueryFault) (k : A × List Lexeme → Read B) → Lessens k → (r : Read A) → (reach r ≤ length more) ⊎ (r ≡ Err (Cut f more)) → (reach (r >>= k) ≤ length more) ⊎ ((r >>= k) ≡ Err (Cut f more))
  cut_bind more f k l r (inl h) = inl (lessens_bind k l r (length more) h)
  cut_bind {A = A} more f k l r (inr h) = inr (ap (λ (x : Read A). x >>= k) h)

  pub keeps_bind : {A B : Type 0} (ts more : List Lexeme) (k k' : A × List Lexeme → Read B) → Lessens k → Lessens k' → (r r' : Read A) → Keeps {A = A} ts more r r'
      → ((x : A) (rest : List Lexeme) → r ≡ Ok (x, rest) → (front : List Lexeme) × (ts ≡ front ++ rest))
      → ((x : A) (rest : List Lexeme) → r ≡ Ok (x, rest) → Keeps {A = B} rest more (k (x, rest)) (k' (x, rest ++ more)))
      → Keeps {A = B} ts more (r >>= k) (r' >>= k')
  keeps_bind {B = B} ts more k k' lk lk' (Ok (x, t ∷ rest)) r' h e g = rw h (let s = e x (t ∷ rest) refl in subst (λ (y : List Lexeme). Keeps {A = B} y more (k (x, t ∷ rest)) (k' (x, t ∷ rest ++ more))) (sym s.1) (keeps_wider s.0 (t ∷ rest) more (k (x, t ∷ rest)) (k' (x, t ∷ rest ++ more)) (g x (t ∷ rest) refl)))
  keeps_bind {B = B} ts [] k k' lk lk' (Ok (x, [])) r' h e g = rw h (let s = e x [] refl in subst (λ (y : List Lexeme). Keeps {A = B} y [] (k (x, [])) (k' (x, []))) (sym s.1) (keeps_wider s.0 [] [] (k (x, [])) (k' (x, [])) (g x [] refl)))
  keeps_bind ts (t ∷ more) k k' lk lk' (Ok (x, [])) r' h e g = nothing_left ts more (k (x, [])) (r' >>= k') (lk x []) t (lessens_bind k' lk' r' (length (t ∷ more)) h)
  keeps_bind ts more k k' lk lk' (Err (Broken (t ∷ rest))) r' h e g = rw h refl
  keeps_bind ts [] k k' lk lk' (Err (Broken [])) r' h e g = rw h refl
  keeps_bind ts (t ∷ more) k k' lk lk' (Err (Broken [])) r' h e g = lessens_bind k' lk' r' (length (t ∷ more)) h
  keeps_bind ts more k k' lk lk' (Err (Found f rest)) r' h e g = rw h refl
  keeps_bind ts more k k' lk lk' (Err (Cut f (t ∷ rest))) r' h e g = (rw h.0 refl, tt)
  keeps_bind ts [] k k' lk lk' (Err (Cut f [])) r' h e g = (rw h.0 refl, tells_bind ts f [] k' r' h.1)
  keeps_bind ts (t ∷ more) k k' lk lk' (Err (Cut f [])) r' h e g = (cut_bind (t ∷ more) f k' lk' r' h.0, tells_bind ts f [] k' r' h.1)

  -- what was read stands in front of what is left
  pub ends_of : {A : Type 0} (T : List Lexeme → A → Type 0) (L : Stop → List Lexeme → Type 0) (ts : List Lexeme) (r : Read A) → Spelled T L ts r → (x : A) (rest : List Lexeme) → r ≡ Ok (x, rest)
      → (front : List Lexeme) × (ts ≡ front ++ rest) × T front x
  ends_of {A = A} T L ts (Ok y) h x rest e = let same : y ≡ (x, rest) = pair_is y (x, rest) e in
      (h.front, h.parts ∙ ap (λ (z : A × List Lexeme). h.front ++ z.1) same, subst (λ (z : A × List Lexeme). T h.front z.0) same h.is)
    where
      pair_is : (y z : A × List Lexeme) → ◌≡◌ {A = Read A} (Ok y) (Ok z) → y ≡ z
      pair_is y z e = cc
  ends_of T L ts (Err stop) h x rest e = absurd cc

  module _ (more : List Lexeme) where
    abbrev pub Keeping : {A : Type 0} → (List Lexeme → Read A) → Type 0
    Keeping {A} next = (ts : List Lexeme) → Keeps {A = A} ts more (next ts) (next (ts ++ more))

    -- ---- names

    name_with_keeps : (us : List Lexeme) (o : Option ℕ) (t : Lexeme) (ts : List Lexeme) → Keeps {A = ℕ} us more (name_with def params o t ts) (name_with def params o t (ts ++ more))
    name_with_keeps us None t ts = refl
    name_with_keeps us (Some k) t ts = by_test (is_foreign t.kind)
      where
        by_test : (b : Bool) → Keeps {A = ℕ} us more (cond b (Err (Found (OutOfScope t.at) ts)) (Ok (k, ts))) (cond b (Err (Found (OutOfScope t.at) (ts ++ more))) (Ok (k, ts ++ more)))
        by_test true = refl
        by_test false = keeps_ok {A = ℕ} us more k ts (Ok (k, ts ++ more)) refl

    name_nil : name_at def params [] ≡ Err (Broken [])
    unfolding name_at
    name_nil = refl

    name_keeps : Keeping {A = ℕ} (name_at def params)
    unfolding name_at
    name_keeps [] = nil_broken {A = ℕ} (name_at def params) (name_low def params) name_nil [] more
    name_keeps (t ∷ ts) = by_test (is_field_name t.kind)
      where
        by_test : (b : Bool) → Keeps {A = ℕ} (t ∷ ts) more (cond b (name_with def params (number_of_alias def.fields (name_of t.kind)) t ts) (Err (Broken (t ∷ ts))))
            (cond b (name_with def params (number_of_alias def.fields (name_of t.kind)) t (ts ++ more)) (Err (Broken (t ∷ ts ++ more))))
        by_test true = name_with_keeps (t ∷ ts) (number_of_alias def.fields (name_of t.kind)) t ts
        by_test false = refl

    abbrev NamesKeep : ℕ → Type 0
    NamesKeep n = (m : ℕ) (before : List ℕ) (ts : List Lexeme) → length ts < n → length (ts ++ more) < m → Keeps {A = List ℕ} ts more (names_in def params n before ts) (names_in def params m before (ts ++ more))

    behind_name_keeps : (n : ℕ) → NamesKeep n → (m : ℕ) (before : List ℕ) (ts : List Lexeme) → length ts ≤ n → length (ts ++ more) ≤ m
        → Keeps {A = List ℕ} ts more (behind_field_name def params (λ us. names_in def params n before us) before (next_sign ts) ts) (behind_field_name def params (λ us. names_in def params m before us) before (next_sign (ts ++ more)) (ts ++ more))
    behind_name_keeps n ih m before [] l k = nil_ok {A = List ℕ} (λ ts. behind_field_name def params (λ us. names_in def params m before us) before (next_sign ts) ts)
        (λ ts. behind_name_low def params (λ us. names_in def params m before us) (names_in_low def params m before) before ts (next_sign ts) refl) before refl [] more
    behind_name_keeps n ih m before (t ∷ ts) l k = by_sign (sign_in t.kind)
      where
        by_sign : (o : Option Sign) → Keeps {A = List ℕ} (t ∷ ts) more (behind_field_name def params (λ us. names_in def params n before us) before o (t ∷ ts)) (behind_field_name def params (λ us. names_in def params m before us) before o (t ∷ ts ++ more))
        by_sign (Some signs.Pipe) = keeps_wider {A = List ℕ} (t ∷ []) ts more (names_in def params n before ts) (names_in def params m before (ts ++ more)) (ih m before ts (omega arith) (omega arith))
        by_sign o = refl

    names_in_keep : (n : ℕ) → NamesKeep n
    names_in_keep zero m before ts l k = absurd (omega arith)
    names_in_keep (suc n) zero before ts l k = absurd (omega arith)
    names_in_keep (suc n) (suc m) before ts l k = keeps_bind {A = ℕ} {B = List ℕ} ts more
        (λ x. behind_field_name def params (λ us. names_in def params n (before ++ x.0 ∷ []) us) (before ++ x.0 ∷ []) (next_sign x.1) x.1)
        (λ x. behind_field_name def params (λ us. names_in def params m (before ++ x.0 ∷ []) us) (before ++ x.0 ∷ []) (next_sign x.1) x.1)
        (λ x rest. behind_name_low def params (λ us. names_in def params n (before ++ x ∷ []) us) (names_in_low def params n (before ++ x ∷ [])) (before ++ x ∷ []) rest (next_sign rest) refl)
        (λ x rest. behind_name_low def params (λ us. names_in def params m (before ++ x ∷ []) us) (names_in_low def params m (before ++ x ∷ [])) (before ++ x ∷ []) rest (next_sign rest) refl)
        (name_at def params ts) (name_at def params (ts ++ more)) (name_keeps ts)
        (λ x rest e. let h = ends_of (IsName def params 0) (LeadNames def params 0) ts (name_at def params ts) (name_spelled def params 0 ts) x rest e in (h.0, h.1))
        (λ x rest e.
        let h = ends_of (IsName def params 0) (LeadNames def params 0) ts (name_at def params ts) (name_spelled def params 0 ts) x rest e in
        let one : length ts ≡ suc (length rest) = ap length (h.1 ∙ ap (λ (y : List Lexeme). y ++ rest) h.2.parts) in
        let a : length (ts ++ more) ≡ length ts + length more = length-append ts more in
        let b : length (rest ++ more) ≡ length rest + length more = length-append rest more in
        behind_name_keeps n (names_in_keep n) m (before ++ x ∷ []) rest (omega arith) (omega arith))

    pub names_keep : Keeping {A = List ℕ} (names_at def params [])
    unfolding names_at
    names_keep ts = names_in_keep (suc (length ts)) (suc (length (ts ++ more))) [] ts (omega arith) (omega arith)

    -- ---- ranges

    value_nil : (b : Bool) → value_at def params b [] ≡ Err (Broken [])
    unfolding value_at
    value_nil b = refl

    value_keeps : (b : Bool) → Keeping {A = Edge} (value_at def params b)
    unfolding value_at
    value_keeps b [] = nil_broken {A = Edge} (value_at def params b) (value_low def params b) (value_nil b) [] more
    value_keeps b (t ∷ ts) = by_test (is_edge params t.kind)
      where
        by_test : (c : Bool) → Keeps {A = Edge} (t ∷ ts) more (cond c (unless (faults_at params t) ts (Ok (record { excluded = b; value = t }, ts))) (Err (Broken (t ∷ ts))))
            (cond c (unless (faults_at params t) (ts ++ more) (Ok (record { excluded = b; value = t }, ts ++ more))) (Err (Broken (t ∷ ts ++ more))))
        by_test true = keeps_unless {A = Edge} (t ∷ ts) more (faults_at params t) ts (Ok (record { excluded = b; value = t }, ts)) (Ok (record { excluded = b; value = t }, ts ++ more))
            (keeps_ok {A = Edge} (t ∷ ts) more (record { excluded = b; value = t }) ts (Ok (record { excluded = b; value = t }, ts ++ more)) refl)
        by_test false = refl

    edge_keeps : Keeping {A = Edge} (edge_at def params)
    unfolding value_at
    edge_keeps [] = nil_broken {A = Edge} (edge_at def params) (edge_low def params) (value_nil false) [] more
    edge_keeps (t ∷ ts) = by_sign (sign_in t.kind)
      where
        by_sign : (o : Option Sign) → Keeps {A = Edge} (t ∷ ts) more (edge_with def params o (t ∷ ts)) (edge_with def params o (t ∷ ts ++ more))
        by_sign (Some signs.Open) = keeps_wider {A = Edge} (t ∷ []) ts more (value_at def params true ts) (value_at def params true (ts ++ more)) (value_keeps true ts)
        by_sign o = value_keeps false (t ∷ ts)

    closed_range_keeps : (field : ℕ) (low high : Edge) → Keeping {A = List Query} (λ ts. closed_range def params field low high (next_sign ts) ts)
    closed_range_keeps field low high [] = nil_broken {A = List Query} (λ ts. closed_range def params field low high (next_sign ts) ts) (λ ts. closed_range_low def params field low high ts (next_sign ts) refl) refl [] more
    closed_range_keeps field low high (t ∷ ts) = by_sign (sign_in t.kind)
      where
        by_sign : (o : Option Sign) → Keeps {A = List Query} (t ∷ ts) more (closed_range def params field low high o (t ∷ ts)) (closed_range def params field low high o (t ∷ ts ++ more))
        by_sign (Some signs.RangeClose) = keeps_ok {A = List Query} (t ∷ ts) more _ ts _ refl
        by_sign o = refl

    edge_ends : (ts : List Lexeme) (x : Edge) (rest : List Lexeme) → edge_at def params ts ≡ Ok (x, rest) → (front : List Lexeme) × (ts ≡ front ++ rest)
    edge_ends ts x rest e = let h = ends_of (ReadEdge def params 0) (LeadEdge def params 0) ts (edge_at def params ts) (edge_spelled def params 0 ts) x rest e in (h.0, h.1)

    pub range_keeps : (field : ℕ) → Keeping {A = List Query} (range_at def params field)
    unfolding range_at
    range_keeps field ts = keeps_bind {A = Edge} {B = List Query} ts more
        (λ low. edge_at def params low.1 >>= λ high. closed_range def params field low.0 high.0 (next_sign high.1) high.1) (λ low. edge_at def params low.1 >>= λ high. closed_range def params field low.0 high.0 (next_sign high.1) high.1)
        (λ low rest. high_low def params field low rest) (λ low rest. high_low def params field low rest) (edge_at def params ts) (edge_at def params (ts ++ more)) (edge_keeps ts) (edge_ends ts)
        (λ low rest e. keeps_bind {A = Edge} {B = List Query} rest more (λ high. closed_range def params field low high.0 (next_sign high.1) high.1) (λ high. closed_range def params field low high.0 (next_sign high.1) high.1)
        (λ high us. closed_range_low def params field low high us (next_sign us) refl) (λ high us. closed_range_low def params field low high us (next_sign us) refl) (edge_at def params rest) (edge_at def params (rest ++ more)) (edge_keeps rest) (edge_ends rest)
        (λ high us e. closed_range_keeps field low high us))

    -- ---- tags

    abbrev TagsKeep : Bool → ℕ → Type 0
    TagsKeep case n = (m : ℕ) (before : List TagPart) (ts : List Lexeme) → length ts < n → length (ts ++ more) < m → Keeps {A = List TagPart} ts more (tags_in def params case n before ts) (tags_in def params case m before (ts ++ more))

    tags_cons_keep : (case : Bool) (n : ℕ) → TagsKeep case n → (m : ℕ) (before : List TagPart) (t : Lexeme) (ts : List Lexeme) (o : Option Sign) → length ts < n → length (ts ++ more) < m
        → Keeps {A = List TagPart} (t ∷ ts) more (tags_with def params (λ parts us. tags_in def params case n parts us) case before o (t ∷ ts)) (tags_with def params (λ parts us. tags_in def params case m parts us) case before o (t ∷ ts ++ more))
    tags_cons_keep case n ih m before t ts (Some signs.TagClose) l k = keeps_ok {A = List TagPart} (t ∷ ts) more before ts (Ok (before, ts ++ more)) refl
    tags_cons_keep case n ih m before t ts o l k = by_test (is_tag t.kind)
      where
        by_test : (b : Bool) → Keeps {A = List TagPart} (t ∷ ts) more (cond b (unless (faults_at params t) ts (tags_in def params case n (before ++ tag_part params case t.kind ∷ []) ts)) (Err (Broken (t ∷ ts))))
            (cond b (unless (faults_at params t) (ts ++ more) (tags_in def params case m (before ++ tag_part params case t.kind ∷ []) (ts ++ more))) (Err (Broken (t ∷ ts ++ more))))
        by_test true = keeps_unless {A = List TagPart} (t ∷ ts) more (faults_at params t) ts (tags_in def params case n (before ++ tag_part params case t.kind ∷ []) ts) (tags_in def params case m (before ++ tag_part params case t.kind ∷ []) (ts ++ more))
            (keeps_wider {A = List TagPart} (t ∷ []) ts more (tags_in def params case n (before ++ tag_part params case t.kind ∷ []) ts) (tags_in def params case m (before ++ tag_part params case t.kind ∷ []) (ts ++ more)) (ih m (before ++ tag_part params case t.kind ∷ []) ts l k))
        by_test false = refl

    tags_in_keep : (case : Bool) (n : ℕ) → TagsKeep case n
    tags_in_keep case zero m before ts l k = absurd (omega arith)
    tags_in_keep case (suc n) zero before ts l k = absurd (omega arith)
    tags_in_keep case (suc n) (suc m) before [] l k = nil_broken {A = List TagPart} (tags_in def params case (suc m) before) (tags_in_low def params case (suc m) before) refl [] more
    tags_in_keep case (suc n) (suc m) before (t ∷ ts) l k = tags_cons_keep case n (tags_in_keep case n) m before t ts (sign_in t.kind) (omega arith) (omega arith)

    pub tags_keep : (case : Bool) → Keeping {A = List TagPart} (tags_at def params case [])
    unfolding tags_at
    tags_keep case ts = tags_in_keep case (suc (length ts)) (suc (length (ts ++ more))) [] ts (omega arith) (omega arith)
