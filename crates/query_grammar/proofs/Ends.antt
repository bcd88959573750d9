-- What a reading that stops says of all sentences that begin with what it read.
use Rattle.std.proofs.Common.{◌≡◌, ◌⊎◌, inl, inr, ℕ, suc, ◌+◌, ◌≤◌, List, [], ◌∷◌, ◌++◌, length, Option, Some, None, Ok, Err, refl, sym, ap, subst, ◌∙◌, append_assoc, length-append, arith}
use Rattle.std.proofs.lemmas.List.Elements.{Contains-append_left}
use Rattle.std.specs.List.{Contains, flat_map}
use Rattle.ft_base.specs.declared.definition.IndexDef.{IndexDef}
use Rattle.ft_base.specs.declared.query.Fields.TheVariants as asked_of
use Rattle.ft_base.specs.declared.query.Param.{Param}
use Rattle.ft_base.specs.declared.query.Query.{Query}
use Rattle.query_lex.specs.declared.lexeme.Lexeme.{Lexeme}
use Rattle.query_lex.specs.declared.lexeme.Sign.TheVariants as signs
use Rattle.query_grammar.specs.declared.fault.QueryFault.{QueryFault}
use Rattle.query_grammar.specs.Answer.{EndsAt}
use Rattle.query_grammar.specs.Faults.{faults_of, most_levels, pair_faults}
use Rattle.query_grammar.specs.Form.{Form}
use Rattle.query_grammar.specs.Grammar.{IsQuery, nothing, something, Spells, Union, sign}
use Rattle.query_grammar.specs.Meaning.{parts_of}
use Rattle.query_grammar.specs.Reading.{Broken, Found, Cut, Read, Block, Closed, deeper, pairs_at, sort_at}
use Rattle.query_grammar.proofs.AgainFields.{block_read, sentence_read}
use Rattle.query_grammar.proofs.AgainParts.{bare, told}
use Rattle.query_grammar.proofs.Growing.{BlockKeeps, Grown, block_keeps}
use Rattle.query_grammar.proofs.Keeps.{FarBy, Keeps, KeepsBy, Says, Severs}
use Rattle.query_grammar.proofs.Low.{reach}
use Rattle.query_grammar.proofs.Signs.{FirstIs}
use Rattle.query_grammar.proofs.StableParts.{read_keeps, sort_nil}
use Rattle.query_grammar.proofs.Within.{HasBlock, arrows}

abbrev pub left : {A : Type 0} → Read A → List Lexeme
left (Ok x) = x.1
left (Err (Broken rest)) = rest
left (Err (Found f rest)) = rest
left (Err (Cut f rest)) = rest

-- a reading that goes no further, whether or not it is done or has a fault before that
abbrev pub Halts : {A : Type 0} → Read A → Type 0
Halts (Ok x) = Unit {0}
Halts (Err (Broken rest)) = Unit {0}
Halts (Err (Found f rest)) = ⊥
Halts (Err (Cut f rest)) = Unit {0}

module _ (def : IndexDef) (params : List Param) where
  abbrev pub reads : List Lexeme → Read (List Query)
  reads ts = sort_at def params (deeper def params most_levels) asked_of.All Union ts

  abbrev pub faults_in : Form → List QueryFault
  faults_in a = faults_of def params asked_of.All most_levels a

  abbrev pub parts_in : Form → List Query
  parts_in a = parts_of def params asked_of.All a

  again : (ts : List Lexeme) (a : Form) → Spells params Union ts a → bare (reads ts) ≡ told (faults_in a) (Ok (parts_in a, []))
  again ts a d = sentence_read def params asked_of.All most_levels ts a d

  keeps : (ts more : List Lexeme) → Keeps def params {A = List Query} ts more (reads ts) (reads (ts ++ more))
  keeps ts more = read_keeps def params more asked_of.All most_levels Union ts

  -- ---- where the grammar goes no further

  no_more : (t u : Lexeme) (us rest : List Lexeme) → u ∷ us ++ rest ≡ t ∷ rest → u ∷ us ≡ t ∷ []
  no_more t u [] rest e = let same : u ≡ t = cc in ap (λ (x : Lexeme). x ∷ []) same
  no_more t u (v ∷ us) rest e = let l : length (u ∷ (v ∷ us) ++ rest) ≡ length (t ∷ rest) = ap length e in absurd (omega (arith, length-append us rest))

  halt_reach : (r : Read (List Query)) (t : Lexeme) (rest : List Lexeme) → Halts r → left r ≡ t ∷ rest → reach r ≤ length rest → ⊥
  halt_reach (Ok x) t rest h e l = let m : length x.1 ≡ suc (length rest) = ap length e in absurd (omega arith)
  halt_reach (Err (Broken x)) t rest h e l = let m : length x ≡ suc (length rest) = ap length e in absurd (omega arith)
  halt_reach (Err (Found f x)) t rest h e l = absurd h
  halt_reach (Err (Cut f x)) t rest h e l = let m : length x ≡ suc (length rest) = ap length e in absurd (omega arith)

  -- the lexeme at which reading halted, and no more
  record HaltsAt (t : Lexeme) (r : Read (List Query)) : Type 0 where
    pub halts : Halts r
    pub left_is : left r ≡ t ∷ []

  cut : (ts : List Lexeme) (t : Lexeme) (rest : List Lexeme) (r r' : Read (List Query)) → Keeps def params {A = List Query} ts rest r r' → Halts r' → left r' ≡ t ∷ rest → HaltsAt t r
  cut ts t rest (Ok (a, u ∷ us)) r' h k e = record { halts = tt; left_is = no_more t u us rest (sym (ap left h) ∙ e) }
  cut ts t rest (Err (Broken (u ∷ us))) r' h k e = record { halts = tt; left_is = no_more t u us rest (sym (ap left h) ∙ e) }
  cut ts t rest (Err (Found f us)) r' h k e = absurd (subst (λ (x : Read (List Query)). Halts x) h k)
  cut ts t rest (Err (Cut f (u ∷ us))) r' h k e = record { halts = tt; left_is = no_more t u us rest (sym (ap left h.0) ∙ e) }
  cut ts t [] (Ok (a, [])) r' h k e = let c : [] ≡ t ∷ [] = sym (ap left h) ∙ e in absurd cc
  cut ts t [] (Err (Broken [])) r' h k e = let c : [] ≡ t ∷ [] = sym (ap left h) ∙ e in absurd cc
  cut ts t [] (Err (Cut f [])) r' h k e = let c : [] ≡ t ∷ [] = sym (ap left h.0) ∙ e in absurd cc
  cut ts t (x ∷ xs) (Ok (a, [])) r' h k e = absurd (halt_reach r' t (x ∷ xs) k e h)
  cut ts t (x ∷ xs) (Err (Broken [])) r' h k e = absurd (halt_reach r' t (x ∷ xs) k e h)
  cut ts t (x ∷ xs) (Err (Cut f [])) r' h k e = absurd (by_far h.0)
    where
      by_far : (reach r' ≤ length (x ∷ xs)) ⊎ (r' ≡ Err (Cut f (x ∷ xs))) → ⊥
      by_far (inl l) = halt_reach r' t (x ∷ xs) k e l
      by_far (inr d) = let c : length (x ∷ xs) ≡ length (t ∷ x ∷ xs) = ap length (sym (ap left d) ∙ e) in absurd (omega arith)

  -- no sentence is read so
  clash : (ts : List Lexeme) (t : Lexeme) (more : List Lexeme) (r r' : Read (List Query)) (fs : List QueryFault) (qs : List Query) → Keeps def params {A = List Query} ts more r r' → HaltsAt t r → bare r' ≡ told fs (Ok (qs, [])) → ⊥
  clash ts t more (Ok (a, u ∷ us)) r' [] qs h k e = let c : u ∷ us ++ more ≡ [] = ap left (sym (ap bare h) ∙ e) in absurd cc
  clash ts t more (Ok (a, u ∷ us)) r' (f ∷ fs) qs h k e = let c : ◌≡◌ {A = Read (List Query)} (Ok (a, u ∷ us ++ more)) (Err (Found f [])) = sym (ap bare h) ∙ e in absurd cc
  clash ts t more (Err (Broken (u ∷ us))) r' [] qs h k e = let c : ◌≡◌ {A = Read (List Query)} (Err (Broken (u ∷ us ++ more))) (Ok (qs, [])) = sym (ap bare h) ∙ e in absurd cc
  clash ts t more (Err (Broken (u ∷ us))) r' (f ∷ fs) qs h k e = let c : ◌≡◌ {A = Read (List Query)} (Err (Broken (u ∷ us ++ more))) (Err (Found f [])) = sym (ap bare h) ∙ e in absurd cc
  clash ts t more (Err (Cut g (u ∷ us))) r' [] qs h k e = let c : ◌≡◌ {A = Read (List Query)} (Err (Cut g (u ∷ us ++ more))) (Ok (qs, [])) = sym (ap bare h.0) ∙ e in absurd cc
  clash ts t more (Err (Cut g (u ∷ us))) r' (f ∷ fs) qs h k e = let c : ◌≡◌ {A = Read (List Query)} (Err (Cut g (u ∷ us ++ more))) (Err (Found f [])) = sym (ap bare h.0) ∙ e in absurd cc
  clash ts t more (Ok (a, [])) r' fs qs h k e = let c : [] ≡ t ∷ [] = k.left_is in absurd cc
  clash ts t more (Err (Broken [])) r' fs qs h k e = let c : [] ≡ t ∷ [] = k.left_is in absurd cc
  clash ts t more (Err (Cut g [])) r' fs qs h k e = let c : [] ≡ t ∷ [] = k.left_is in absurd cc
  clash ts t more (Err (Found g us)) r' fs qs h k e = absurd k.halts

  some_form : (xs ts : List Lexeme) (t : Lexeme) (us : List Lexeme) (form : Option Form) → IsQuery params xs form → xs ≡ ts ++ t ∷ us → (a : Form) × (form ≡ Some a) × Spells params Union (ts ++ t ∷ us) a
  some_form [] ts t us None nothing e = let l : 0 ≡ length ts + suc (length us) = ap length e ∙ length-append ts (t ∷ us) in absurd (omega arith)
  some_form (x ∷ xs) ts t us None d e = elim d [ ]
  some_form xs ts t us (Some a) (something d) e = (a, refl, subst (λ (x : List Lexeme). Spells params Union x a) e d)

  pub some_lexeme : (ts : List Lexeme) (t : Lexeme) (us : List Lexeme) (form : Option Form) → IsQuery params ((ts ++ t ∷ us)) form → (a : Form) × (form ≡ Some a) × Spells params Union (ts ++ t ∷ us) a
  some_lexeme ts t us form d = some_form (ts ++ t ∷ us) ts t us form d refl

  -- a sentence is spelled by its form
  pub spelled : (ts : List Lexeme) (a : Form) → IsQuery params ts (Some a) → Spells params Union ts a
  spelled ts a (something d) = d

  pub halts_end : (front : List Lexeme) (t : Lexeme) (rest : List Lexeme) → Halts (reads (front ++ t ∷ rest)) → left (reads (front ++ t ∷ rest)) ≡ t ∷ rest → EndsAt params front (t ∷ rest)
  halts_end front t rest h e b =
      let whole : (front ++ t ∷ []) ++ rest ≡ front ++ t ∷ rest = append_assoc front (t ∷ []) rest in
      let here : HaltsAt t (reads (front ++ t ∷ [])) = cut (front ++ t ∷ []) t rest (reads (front ++ t ∷ [])) (reads (front ++ t ∷ rest))
      (subst (λ (x : List Lexeme). Keeps def params {A = List Query} (front ++ t ∷ []) rest (reads (front ++ t ∷ [])) (reads x)) whole (keeps (front ++ t ∷ []) rest)) h e in
      let s = some_lexeme front t b.more b.form (subst (λ (x : List Lexeme). IsQuery params x b.form) (append_assoc front (t ∷ []) b.more) b.spelled) in
      clash (front ++ t ∷ []) t b.more (reads (front ++ t ∷ [])) (reads ((front ++ t ∷ []) ++ b.more)) (faults_in s.0) (parts_in s.0) (keeps (front ++ t ∷ []) b.more) here (again ((front ++ t ∷ []) ++ b.more) s.0 (subst (λ (x : List Lexeme). Spells params Union x s.0) (sym (append_assoc front (t ∷ []) b.more)) s.2))

  -- where no lexeme is left
  bare_stop : (r : Read (List Query)) (fs : List QueryFault) (qs : List Query) → Halts r → (r ≡ Ok (qs, []) → ⊥) → bare r ≡ told fs (Ok (qs, [])) → ⊥
  bare_stop (Ok x) [] qs h k e = k e
  bare_stop (Ok x) (f ∷ fs) qs h k e = absurd cc
  bare_stop (Err (Broken x)) [] qs h k e = absurd cc
  bare_stop (Err (Broken x)) (f ∷ fs) qs h k e = absurd cc
  bare_stop (Err (Cut g x)) [] qs h k e = absurd cc
  bare_stop (Err (Cut g x)) (f ∷ fs) qs h k e = absurd cc
  bare_stop (Err (Found g x)) fs qs h k e = absurd h

  pub broken_whole : (t : Lexeme) (ts : List Lexeme) → reads (t ∷ ts) ≡ Err (Broken []) → EndsAt params (t ∷ ts) []
  broken_whole t ts e form d =
      let s = some_lexeme [] t ts form d in
      bare_stop (reads (t ∷ ts)) (faults_in s.0) (parts_in s.0) (rw e tt) (λ k. let c : ◌≡◌ {A = Read (List Query)} (Err (Broken [])) (Ok (parts_in s.0, [])) = sym e ∙ k in absurd cc) (again (t ∷ ts) s.0 s.2)

  -- ---- a fault

  -- one that is found is found already at the end of what was read
  found_here : (front rest : List Lexeme) (f : QueryFault) → reads (front ++ rest) ≡ Err (Found f rest) → reads front ≡ Err (Found f [])
  found_here front rest f e = along (reads front) (subst (λ (x : Read (List Query)). Keeps def params {A = List Query} front rest (reads front) x) e (keeps front rest))
    where
      no_longer : (x : List Lexeme) → x ++ rest ≡ rest → x ≡ []
      no_longer [] e = refl
      no_longer (u ∷ x) e = let l : suc (length (x ++ rest)) ≡ length rest = ap length e in absurd (omega (arith, length-append x rest))

      by_rest : {same : Read (List Query)} → (more : List Lexeme) → ((more ≡ []) → same ≡ Err (Found f []) → ⊥) → KeepsBy def params {A = List Query} same [] more (Err (Found f more)) → ⊥
      by_rest [] h k = h refl (sym k)
      by_rest (t ∷ more) h k = absurd (omega arith)

      along : (r : Read (List Query)) → Keeps def params {A = List Query} front rest r (Err (Found f rest)) → r ≡ Err (Found f [])
      along (Ok (a, u ∷ us)) k = absurd cc
      along (Ok (a, [])) k = absurd (by_rest rest (λ n c. absurd cc) k)
      along (Err (Broken (u ∷ us))) k = absurd cc
      along (Err (Broken [])) k = absurd (by_rest rest (λ n c. absurd cc) k)
      along (Err (Found g x)) k = let same : f ≡ g = cc in let tail : rest ≡ x ++ rest = cc in
          ap (λ (y : QueryFault). Err (Found y x)) (sym same) ∙ ap (λ (y : List Lexeme). Err (Found f y)) (no_longer x (sym tail))
      along (Err (Cut g (u ∷ us))) k = let c = k.0 in absurd cc
      along (Err (Cut g [])) k = absurd (by_cut rest k.0)
        where
          by_cut : (more : List Lexeme) → FarBy def params {A = List Query} (Err (Cut g more)) [] more (Err (Found f more)) → ⊥
          by_cut [] c = absurd cc
          by_cut (t ∷ more) (inl l) = absurd (omega arith)
          by_cut (t ∷ more) (inr c) = absurd cc

  first_of : (f : QueryFault) (r : Read (List Query)) (fs : List QueryFault) (qs : List Query) → Says f r → bare r ≡ told fs (Ok (qs, [])) → FirstIs f fs
  first_of f (Ok x) fs qs s e = absurd s
  first_of f (Err (Broken x)) fs qs s e = absurd s
  first_of f (Err (Found g x)) [] qs s e = absurd cc
  first_of f (Err (Found g x)) (h ∷ fs) qs s e = let same : g ≡ h = cc in sym same ∙ s
  first_of f (Err (Cut g x)) [] qs s e = absurd cc
  first_of f (Err (Cut g x)) (h ∷ fs) qs s e = absurd cc

  pub first_found : (front rest : List Lexeme) (f : QueryFault) → reads (front ++ rest) ≡ Err (Found f rest) → (more : List Lexeme) (a : Form) → Spells params Union (front ++ more) a → FirstIs f (faults_in a)
  first_found front rest f e more a d =
      let k : Keeps def params {A = List Query} front more (Err (Found f [])) (reads (front ++ more)) = subst (λ (x : Read (List Query)). Keeps def params {A = List Query} front more x (reads (front ++ more))) (found_here front rest f e) (keeps front more) in
      first_of f (reads (front ++ more)) (faults_in a) (parts_in a) (rw k refl) (again (front ++ more) a d)

  -- one before which attributes break off is there already at the end of what was read
  cut_here : (front rest : List Lexeme) (f : QueryFault) → reads (front ++ rest) ≡ Err (Cut f rest) → reads front ≡ Err (Cut f [])
  cut_here front rest f e = along (reads front) (subst (λ (x : Read (List Query)). Keeps def params {A = List Query} front rest (reads front) x) e (keeps front rest))
    where
      no_longer : (u : Lexeme) (x : List Lexeme) → rest ≡ u ∷ x ++ rest → ⊥
      no_longer u x e = let l : length rest ≡ suc (length (x ++ rest)) = ap length e in absurd (omega (arith, length-append x rest))

      by_rest : {same : Read (List Query)} → (more : List Lexeme) → ((more ≡ []) → same ≡ Err (Cut f []) → ⊥) → KeepsBy def params {A = List Query} same [] more (Err (Cut f more)) → ⊥
      by_rest [] h k = h refl (sym k)
      by_rest (t ∷ more) h k = absurd (omega arith)

      by_cut : (g : QueryFault) (more : List Lexeme) → FarBy def params {A = List Query} (Err (Cut g more)) [] more (Err (Cut f more)) → g ≡ f
      by_cut g [] c = cc
      by_cut g (t ∷ more) (inl l) = absurd (omega arith)
      by_cut g (t ∷ more) (inr c) = cc

      along : (r : Read (List Query)) → Keeps def params {A = List Query} front rest r (Err (Cut f rest)) → r ≡ Err (Cut f [])
      along (Ok (a, u ∷ us)) k = absurd cc
      along (Ok (a, [])) k = absurd (by_rest rest (λ n c. absurd cc) k)
      along (Err (Broken (u ∷ us))) k = absurd cc
      along (Err (Broken [])) k = absurd (by_rest rest (λ n c. absurd cc) k)
      along (Err (Found g x)) k = absurd cc
      along (Err (Cut g (u ∷ us))) k = let c : ◌≡◌ {A = Read (List Query)} (Err (Cut f rest)) (Err (Cut g (u ∷ us ++ rest))) = k.0 in let tail : rest ≡ u ∷ us ++ rest = cc in absurd (no_longer u us tail)
      along (Err (Cut g [])) k = ap (λ (y : QueryFault). Err (Cut y [])) (by_cut g rest k.0)

  head_among : (f : QueryFault) (fs : List QueryFault) → FirstIs f fs → Contains fs f
  head_among f [] h = absurd h
  head_among f (g ∷ fs) h = (0, omega arith, h)

  -- the attributes of a sentence go on from those that were read
  severed_among : (front more : List Lexeme) (f : QueryFault) (a : Form) → Severs def params front f → Spells params Union (front ++ more) a → Contains (faults_in a) f
  severed_among front more f a s d =
      let at : front ++ more ≡ s.before ++ sign s.p signs.Arrow ∷ (sign s.q signs.AttrOpen ∷ (s.us ++ more)) = ap (λ (x : List Lexeme). x ++ more) s.parts ∙ append_assoc s.before (sign s.p signs.Arrow ∷ sign s.q signs.AttrOpen ∷ s.us) more in
      let h : HasBlock def params (sign s.q signs.AttrOpen ∷ (s.us ++ more)) a = arrows def params d s.before s.p (sign s.q signs.AttrOpen ∷ (s.us ++ more)) at in
      by_block h (tail_is s.q h.q (s.us ++ more) (h.inner ++ sign h.r signs.AttrClose ∷ h.tail) h.parts)
    where
      tail_is : (p q : ℕ) (xs ys : List Lexeme) → sign p signs.AttrOpen ∷ xs ≡ sign q signs.AttrOpen ∷ ys → xs ≡ ys
      tail_is p q xs ys e = cc

      by_block : (h : HasBlock def params (sign s.q signs.AttrOpen ∷ (s.us ++ more)) a) → s.us ++ more ≡ h.inner ++ sign h.r signs.AttrClose ∷ h.tail → Contains (faults_in a) f
      by_block h e =
          let long : pairs_at def params [] (s.us ++ more) ≡ Closed h.pairs h.tail = ap (λ (x : List Lexeme). pairs_at def params [] x) e ∙ block_read def params h.inner h.pairs h.r h.tail h.spells in
          let k : Grown def params s.pairs more (Closed h.pairs h.tail) = subst (λ (b : Block def params). Grown def params s.pairs more b) long
          (subst (λ (b : Block def params). BlockKeeps def params more b (pairs_at def params [] (s.us ++ more))) s.read (block_keeps def params more s.us)) in
          h.among asked_of.All most_levels f (subst (λ (fs : List QueryFault). Contains fs f) (sym k.extends.faults) (Contains-append_left (flat_map (pair_faults params) s.pairs) k.extends.tail f s.among))

  pub among_cut : (front rest : List Lexeme) (f : QueryFault) → reads (front ++ rest) ≡ Err (Cut f rest) → (more : List Lexeme) (a : Form) → Spells params Union (front ++ more) a → Contains (faults_in a) f
  among_cut front rest f e more a d =
      by_tells ((subst (λ (x : Read (List Query)). Keeps def params {A = List Query} front more x (reads (front ++ more))) (cut_here front rest f e) (keeps front more)).1)
    where
      by_tells : Says f (reads (front ++ more)) ⊎ Severs def params front f → Contains (faults_in a) f
      by_tells (inl s) = head_among f (faults_in a) (first_of f (reads (front ++ more)) (faults_in a) (parts_in a) s (again (front ++ more) a d))
      by_tells (inr s) = severed_among front more f a s d

  pub among_found : (front rest : List Lexeme) (f : QueryFault) → reads (front ++ rest) ≡ Err (Found f rest) → (more : List Lexeme) (a : Form) → Spells params Union (front ++ more) a → Contains (faults_in a) f
  among_found front rest f e more a d = head_among f (faults_in a) (first_found front rest f e more a d)

  -- nothing is read of no lexemes
  pub nothing_read : reads [] ≡ Err (Broken [])
  nothing_read = sort_nil def params [] (deeper def params most_levels) asked_of.All Union

  pub none_found : (front rest : List Lexeme) (f : QueryFault) → reads (front ++ rest) ≡ Err (Found f rest) → front ≡ [] → ⊥
  none_found front rest f e n = let c : ◌≡◌ {A = Read (List Query)} (Err (Broken [])) (Err (Found f [])) = sym nothing_read ∙ (ap (λ (x : List Lexeme). reads x) (sym n) ∙ found_here front rest f e) in absurd cc

  pub none_cut : (front rest : List Lexeme) (f : QueryFault) → reads (front ++ rest) ≡ Err (Cut f rest) → front ≡ [] → ⊥
  none_cut front rest f e n = let c : ◌≡◌ {A = Read (List Query)} (Err (Broken [])) (Err (Cut f [])) = sym nothing_read ∙ (ap (λ (x : List Lexeme). reads x) (sym n) ∙ cut_here front rest f e) in absurd cc
