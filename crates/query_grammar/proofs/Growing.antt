-- Attributes that break off, and the same with more behind: what was read stays, and its faults stay the first.
use Rattle.std.proofs.Common.{◌≡◌, ◌⊎◌, inl, inr, ℕ, zero, suc, ◌<◌, ◌≤◌, Bool, true, false, cond, not, ◌||◌, List, [], ◌∷◌, ◌++◌, length, drop, Option, Some, None, refl, sym, ap, ◌∙◌, append_assoc, append-nil, arith}
use Rattle.std.specs.List.{flat_map, list_any}
use Rattle.std.specs.Prelude.{codes}
use Rattle.std.specs.Str.{bytes_eq}
use Rattle.ft_base.specs.declared.definition.IndexDef.{IndexDef}
use Rattle.ft_base.specs.declared.query.Param.{Param}
use Rattle.query_lex.specs.declared.lexeme.Lexeme.{Lexeme}
use Rattle.query_lex.specs.declared.lexeme.Sign.{Sign}
use Rattle.query_lex.specs.declared.lexeme.Sign.TheVariants as signs
use Rattle.query_grammar.specs.declared.fault.QueryFault.{QueryFault}
use Rattle.query_grammar.specs.declared.fault.QueryFault.TheVariants.{OutOfScope}
use Rattle.query_grammar.specs.Answer.{place_of}
use Rattle.query_grammar.specs.Faults.{pair_faults, value_faults, is_known, one_if}
use Rattle.query_grammar.specs.Form.{Pair}
use Rattle.query_grammar.specs.Grammar.{has_name, is_attribute}
use Rattle.query_grammar.specs.Meaning.{asks_order}
use Rattle.query_grammar.specs.Reading.{Block, Closed, Open, attribute_value, behind_name, behind_pair, name_in, named_pair, names_of, next_param, next_sign, pair_with, pairs_at, pairs_in, sign_in}
use Rattle.query_grammar.proofs.Low.{sign_less}
use Rattle.query_grammar.proofs.Signs.{param_front}

pub flat_append : {X A : Type 0} (f : X → List A) (xs ys : List X) → flat_map f (xs ++ ys) ≡ flat_map f xs ++ flat_map f ys
flat_append f [] ys = refl
flat_append {A = A} f (x ∷ xs) ys = ap (λ (zs : List A). f x ++ zs) (flat_append f xs ys) ∙ sym (append_assoc (f x) (flat_map f xs) (flat_map f ys))

or_assoc : (a b c : Bool) → ((a || b) || c) ≡ (a || (b || c))
or_assoc true b c = refl
or_assoc false b c = refl

pub any_append : {X : Type 0} (f : X → Bool) (xs ys : List X) → list_any f (xs ++ ys) ≡ (list_any f xs || list_any f ys)
any_append f [] ys = refl
any_append f (x ∷ xs) ys = ap (λ (b : Bool). f x || b) (any_append f xs ys) ∙ sym (or_assoc (f x) (list_any f xs) (list_any f ys))

or_left : (a b : Bool) → a ≡ true → (a || b) ≡ true
or_left true b h = refl
or_left false b h = absurd cc

module _ (def : IndexDef) (params : List Param) where
  abbrev pub pairs_in_block : Block def params → List Pair
  pairs_in_block (Closed pairs rest) = pairs
  pairs_in_block (Open pairs rest) = pairs

  abbrev pub Reach : List Pair → List Lexeme → Block def params → Type 0
  Reach base ts (Closed pairs rest) = length rest < length ts
  Reach base ts (Open pairs rest) = (length rest < length ts) ⊎ ((rest ≡ ts) × (pairs ≡ base))

  abbrev pub fault_list : List Pair → List QueryFault
  fault_list pairs = flat_map (pair_faults params) pairs

  -- Attributes are those of a base and more: the faults of the base come first, and what it asks for is asked for.
  pub record Extends (base pairs : List Pair) : Type 0 where
    pub tail : List QueryFault
    pub faults : fault_list pairs ≡ fault_list base ++ tail
    pub asks : asks_order base ≡ true → asks_order pairs ≡ true

  pub record Grown (base : List Pair) (ts : List Lexeme) (block : Block def params) : Type 0 where
    pub extends : Extends base (pairs_in_block block)
    pub reach : Reach base ts block

  extends_itself : (base : List Pair) → Extends base base
  extends_itself base = record { tail = []; faults = sym (append-nil (fault_list base)); asks = λ h. h }

  extends_more : (before : List Pair) (p : Pair) → Extends before (before ++ p ∷ [])
  extends_more before p = record {
    tail = fault_list (p ∷ []);
    faults = flat_append (pair_faults params) before (p ∷ []);
    asks = λ h. any_append (λ (pair : Pair). bytes_eq pair.name (codes "slop") || bytes_eq pair.name (codes "inorder")) before (p ∷ []) ∙ or_left (asks_order before) (asks_order (p ∷ [])) h;
  }

  -- an attribute whose value is there, in place of one whose value is not
  extends_value : (before : List Pair) (p : ℕ) (name : List ℕ) (t : Lexeme) → Extends (before ++ record { at = p; name = name; value = None } ∷ []) (before ++ record { at = p; name = name; value = Some t } ∷ [])
  extends_value before p name t = record {
    tail = value_faults params (Some t);
    faults = flat_append (pair_faults params) before (record { at = p; name = name; value = Some t } ∷ [])
        ∙ (sym (regroup (fault_list before) (one_if (not (is_known name)) (OutOfScope p)) (value_faults params (Some t)))
        ∙ ap (λ (fs : List QueryFault). fs ++ value_faults params (Some t)) (sym (flat_append (pair_faults params) before (record { at = p; name = name; value = None } ∷ []))));
    asks = λ h. same_asks ∙ h;
  }
    where
      regroup : (fs bs cs : List QueryFault) → (fs ++ ((bs ++ []) ++ [])) ++ cs ≡ fs ++ ((bs ++ cs) ++ [])
      regroup fs bs cs = simp (append_assoc, append-nil)

      same_asks : asks_order (before ++ record { at = p; name = name; value = Some t } ∷ []) ≡ asks_order (before ++ record { at = p; name = name; value = None } ∷ [])
      same_asks = any_append (λ (pair : Pair). bytes_eq pair.name (codes "slop") || bytes_eq pair.name (codes "inorder")) before (record { at = p; name = name; value = Some t } ∷ [])
          ∙ sym (any_append (λ (pair : Pair). bytes_eq pair.name (codes "slop") || bytes_eq pair.name (codes "inorder")) before (record { at = p; name = name; value = None } ∷ []))

  extends_on : (a b c : List Pair) → Extends a b → Extends b c → Extends a c
  extends_on a b c h k = record { tail = h.tail ++ k.tail; faults = k.faults ∙ (ap (λ (fs : List QueryFault). fs ++ k.tail) h.faults ∙ append_assoc (fault_list a) h.tail k.tail); asks = λ e. k.asks (h.asks e) }

  reach_on : (a b : List Pair) (ts us : List Lexeme) (block : Block def params) → length us < length ts → Reach b us block → Reach a ts block
  reach_on a b ts us (Closed pairs rest) l h = omega arith
  reach_on a b ts us (Open pairs rest) l (inl h) = inl (omega arith)
  reach_on a b ts us (Open pairs rest) l (inr h) = let m : length rest ≡ length us = ap length h.0 in inl (omega arith)

  grown_on : (a b : List Pair) (ts us : List Lexeme) (block : Block def params) → length us < length ts → Extends a b → Grown b us block → Grown a ts block
  grown_on a b ts us block l e h = record { extends = extends_on a b (pairs_in_block block) e h.extends; reach = reach_on a b ts us block l h.reach }

  grown_here : (base : List Pair) (ts : List Lexeme) → Grown base ts (Open base ts)
  grown_here base ts = record { extends = extends_itself base; reach = inr (refl, refl) }

  module _ (others : List Pair → List Lexeme → Block def params) (grow : (before : List Pair) (ts : List Lexeme) → Grown before ts (others before ts)) where
    behind_pair_grown : (before : List Pair) (ts : List Lexeme) (o : Option Sign) → next_sign ts ≡ o → Grown before ts (behind_pair def params (others before) before o ts)
    behind_pair_grown before ts (Some signs.Semi) e = let l = sign_less ts signs.Semi e in grown_on before before ts (drop 1 ts) (others before (drop 1 ts)) (omega arith) (extends_itself before) (grow before (drop 1 ts))
    behind_pair_grown before ts (Some signs.AttrClose) e = let l = sign_less ts signs.AttrClose e in record { extends = extends_itself before; reach = omega arith }
    behind_pair_grown before ts o e = grown_here before ts

    value_grown : (before : List Pair) (p : ℕ) (name : List ℕ) (ts : List Lexeme) → Grown (before ++ record { at = p; name = name; value = None } ∷ []) ts (attribute_value def params others before p name ts)
    value_grown before p name [] = grown_here (before ++ record { at = p; name = name; value = None } ∷ []) []
    value_grown before p name (t ∷ ts) = by_test (is_attribute params name t.kind)
      where
        by_test : (b : Bool) → Grown (before ++ record { at = p; name = name; value = None } ∷ []) (t ∷ ts)
            (cond b (behind_pair def params (others (before ++ record { at = p; name = name; value = Some t } ∷ [])) (before ++ record { at = p; name = name; value = Some t } ∷ []) (next_sign ts) ts)
            (Open (before ++ record { at = p; name = name; value = None } ∷ []) (t ∷ ts)))
        by_test true = grown_on (before ++ record { at = p; name = name; value = None } ∷ []) (before ++ record { at = p; name = name; value = Some t } ∷ []) (t ∷ ts) ts
            (behind_pair def params (others (before ++ record { at = p; name = name; value = Some t } ∷ [])) (before ++ record { at = p; name = name; value = Some t } ∷ []) (next_sign ts) ts) (omega arith)
            (extends_value before p name t) (behind_pair_grown (before ++ record { at = p; name = name; value = Some t } ∷ []) ts (next_sign ts) refl)
        by_test false = grown_here (before ++ record { at = p; name = name; value = None } ∷ []) (t ∷ ts)

    name_grown : (before : List Pair) (p : ℕ) (name : List ℕ) (ts : List Lexeme) (o : Option Sign) → next_sign ts ≡ o → Grown (before ++ record { at = p; name = name; value = None } ∷ []) ts (behind_name def params others before p name o ts)
    name_grown before p name ts (Some signs.Colon) e = let l = sign_less ts signs.Colon e in
        grown_on (before ++ record { at = p; name = name; value = None } ∷ []) (before ++ record { at = p; name = name; value = None } ∷ []) ts (drop 1 ts) (attribute_value def params others before p name (drop 1 ts)) (omega arith)
        (extends_itself (before ++ record { at = p; name = name; value = None } ∷ [])) (value_grown before p name (drop 1 ts))
    name_grown before p name ts o e = grown_here (before ++ record { at = p; name = name; value = None } ∷ []) ts

    named_grown : (before : List Pair) (ts : List Lexeme) (o : Option (List ℕ)) → next_param ts ≡ o → Grown before ts (named_pair def params others before o ts)
    named_grown before ts None e = grown_here before ts
    named_grown before ts (Some name) e = by_test (has_name (names_of def params before) name)
      where
        by_test : (b : Bool) → Grown before ts (cond b (Open before ts) (behind_name def params others before (place_of 0 ts) name (next_sign (drop 1 ts)) (drop 1 ts)))
        by_test true = grown_here before ts
        by_test false = let l : length ts ≡ suc (length (drop 1 ts)) = ap length (param_front ts name e) in
            grown_on before (before ++ record { at = place_of 0 ts; name = name; value = None } ∷ []) ts (drop 1 ts) (behind_name def params others before (place_of 0 ts) name (next_sign (drop 1 ts)) (drop 1 ts)) (omega arith)
            (extends_more before (record { at = place_of 0 ts; name = name; value = None })) (name_grown before (place_of 0 ts) name (drop 1 ts) (next_sign (drop 1 ts)) refl)

    pair_grown : (before : List Pair) (ts : List Lexeme) (o : Option Sign) → next_sign ts ≡ o → Grown before ts (pair_with def params others before o ts)
    pair_grown before ts (Some signs.AttrClose) e = let l = sign_less ts signs.AttrClose e in record { extends = extends_itself before; reach = omega arith }
    pair_grown before ts o e = named_grown before ts (next_param ts) refl

  pub grown : (n : ℕ) (before : List Pair) (ts : List Lexeme) → Grown before ts (pairs_in def params n before ts)
  grown zero before ts = grown_here before ts
  grown (suc n) before ts = pair_grown (λ pairs us. pairs_in def params n pairs us) (grown n) before ts (next_sign ts) refl

  -- ---- the same with more behind

  module _ (more : List Lexeme) where
    abbrev pub OpenKeeps : List Pair → List Lexeme → Block def params → Type 0
    OpenKeeps pairs [] block = Grown pairs more block
    OpenKeeps pairs (t ∷ rest) block = block ≡ Open pairs (t ∷ rest ++ more)

    abbrev pub BlockKeeps : Block def params → Block def params → Type 0
    BlockKeeps (Closed pairs rest) block = block ≡ Closed pairs (rest ++ more)
    BlockKeeps (Open pairs rest) block = OpenKeeps pairs rest block

    module _ (n m : ℕ) (keep : (before : List Pair) (ts : List Lexeme) → length ts < n → length (ts ++ more) < m → BlockKeeps (pairs_in def params n before ts) (pairs_in def params m before (ts ++ more))) where
      abbrev short : List Pair → List Lexeme → Block def params
      short pairs us = pairs_in def params n pairs us

      abbrev long : List Pair → List Lexeme → Block def params
      long pairs us = pairs_in def params m pairs us

      behind_pair_keeps : (before : List Pair) (t : Lexeme) (ts : List Lexeme) (o : Option Sign) → length ts < n → length (ts ++ more) < m
          → BlockKeeps (behind_pair def params (short before) before o (t ∷ ts)) (behind_pair def params (long before) before o (t ∷ ts ++ more))
      behind_pair_keeps before t ts (Some signs.Semi) l k = keep before ts l k
      behind_pair_keeps before t ts (Some signs.AttrClose) l k = refl
      behind_pair_keeps before t ts o l k = refl

      pair_end_keeps : (before : List Pair) (ts : List Lexeme) → length ts ≤ n → length (ts ++ more) ≤ m
          → BlockKeeps (behind_pair def params (short before) before (next_sign ts) ts) (behind_pair def params (long before) before (next_sign (ts ++ more)) (ts ++ more))
      pair_end_keeps before [] l k = behind_pair_grown long (grown m) before more (next_sign more) refl
      pair_end_keeps before (t ∷ ts) l k = behind_pair_keeps before t ts (next_sign (t ∷ ts)) (omega arith) (omega arith)

      value_keeps : (before : List Pair) (p : ℕ) (name : List ℕ) (ts : List Lexeme) → length ts ≤ n → length (ts ++ more) ≤ m
          → BlockKeeps (attribute_value def params short before p name ts) (attribute_value def params long before p name (ts ++ more))
      value_keeps before p name [] l k = value_grown long (grown m) before p name more
      value_keeps before p name (t ∷ ts) l k = by_test (is_attribute params name t.kind)
        where
          by_test : (b : Bool) → BlockKeeps
              (cond b (behind_pair def params (short (before ++ record { at = p; name = name; value = Some t } ∷ [])) (before ++ record { at = p; name = name; value = Some t } ∷ []) (next_sign ts) ts) (Open (before ++ record { at = p; name = name; value = None } ∷ []) (t ∷ ts)))
              (cond b (behind_pair def params (long (before ++ record { at = p; name = name; value = Some t } ∷ [])) (before ++ record { at = p; name = name; value = Some t } ∷ []) (next_sign (ts ++ more)) (ts ++ more)) (Open (before ++ record { at = p; name = name; value = None } ∷ []) (t ∷ ts ++ more)))
          by_test true = pair_end_keeps (before ++ record { at = p; name = name; value = Some t } ∷ []) ts (omega arith) (omega arith)
          by_test false = refl

      behind_name_keeps : (before : List Pair) (p : ℕ) (name : List ℕ) (t : Lexeme) (ts : List Lexeme) (o : Option Sign) → length ts ≤ n → length (ts ++ more) ≤ m
          → BlockKeeps (behind_name def params short before p name o (t ∷ ts)) (behind_name def params long before p name o (t ∷ ts ++ more))
      behind_name_keeps before p name t ts (Some signs.Colon) l k = value_keeps before p name ts l k
      behind_name_keeps before p name t ts o l k = refl

      name_end_keeps : (before : List Pair) (p : ℕ) (name : List ℕ) (ts : List Lexeme) → length ts ≤ n → length (ts ++ more) ≤ m
          → BlockKeeps (behind_name def params short before p name (next_sign ts) ts) (behind_name def params long before p name (next_sign (ts ++ more)) (ts ++ more))
      name_end_keeps before p name [] l k = name_grown long (grown m) before p name more (next_sign more) refl
      name_end_keeps before p name (t ∷ ts) l k = behind_name_keeps before p name t ts (next_sign (t ∷ ts)) (omega arith) (omega arith)

      named_keeps : (before : List Pair) (t : Lexeme) (ts : List Lexeme) (o : Option (List ℕ)) → length ts ≤ n → length (ts ++ more) ≤ m
          → BlockKeeps (named_pair def params short before o (t ∷ ts)) (named_pair def params long before o (t ∷ ts ++ more))
      named_keeps before t ts None l k = refl
      named_keeps before t ts (Some name) l k = by_test (has_name (names_of def params before) name)
        where
          by_test : (b : Bool) → BlockKeeps (cond b (Open before (t ∷ ts)) (behind_name def params short before t.at name (next_sign ts) ts)) (cond b (Open before (t ∷ ts ++ more)) (behind_name def params long before t.at name (next_sign (ts ++ more)) (ts ++ more)))
          by_test true = refl
          by_test false = name_end_keeps before t.at name ts l k

      pair_with_keeps : (before : List Pair) (t : Lexeme) (ts : List Lexeme) (o : Option Sign) → length ts ≤ n → length (ts ++ more) ≤ m
          → BlockKeeps (pair_with def params short before o (t ∷ ts)) (pair_with def params long before o (t ∷ ts ++ more))
      pair_with_keeps before t ts (Some signs.AttrClose) l k = refl
      pair_with_keeps before t ts o l k = named_keeps before t ts (name_in t.kind) l k

    pairs_keep : (n m : ℕ) (before : List Pair) (ts : List Lexeme) → length ts < n → length (ts ++ more) < m → BlockKeeps (pairs_in def params n before ts) (pairs_in def params m before (ts ++ more))
    pairs_keep zero m before ts l k = absurd (omega arith)
    pairs_keep (suc n) zero before ts l k = absurd (omega arith)
    pairs_keep (suc n) (suc m) before [] l k = grown (suc m) before more
    pairs_keep (suc n) (suc m) before (t ∷ ts) l k = pair_with_keeps n m (pairs_keep n m) before t ts (sign_in t.kind) (omega arith) (omega arith)

    pub block_keeps : (ts : List Lexeme) → BlockKeeps (pairs_at def params [] ts) (pairs_at def params [] (ts ++ more))
    unfolding pairs_at
    block_keeps ts = pairs_keep (suc (length ts)) (suc (length (ts ++ more))) [] ts (omega arith) (omega arith)
