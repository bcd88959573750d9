-- The faults of a sentence stand at its lexemes, and in the order of these.
use Rattle.std.proofs.Common.{◌≡◌, ◌⊎◌, inl, inr, ℕ, zero, suc, ◌+◌, ◌*◌, ◌<◌, ◌≤◌, min, Bool, true, false, not, List, [], ◌∷◌, ◌++◌, Some, is_none, arith}
use Rattle.std.specs.List.{Contains, flat_map}
use Rattle.ft_base.specs.declared.definition.Field.{Field}
use Rattle.ft_base.specs.declared.query.Param.{Param}
use Rattle.query_lex.specs.declared.lexeme.Lexeme.{Lexeme}
use Rattle.query_lex.specs.declared.lexeme.LexKind.{LexKind}
use Rattle.query_lex.specs.declared.lexeme.LexKind.TheVariants as kinds
use Rattle.query_lex.specs.declared.lexeme.Sign.TheVariants as signs
use Rattle.query_grammar.specs.declared.fault.QueryFault.{QueryFault}
use Rattle.query_grammar.specs.declared.fault.QueryFault.TheVariants.{Syntax, UnknownField, WrongKind, NoParam, TooDeep, OutOfScope, NoMemory}
use Rattle.query_grammar.specs.Answer.{number, place}
use Rattle.query_grammar.specs.Faults.{faults_at, is_foreign, is_known, lexeme_faults, name_faults, one_if, opened, pair_faults}
use Rattle.query_grammar.specs.Form.{Edge, Pair}
use Rattle.query_grammar.specs.Grammar.{IsEdge, included, excluded, Names, last as last_name, more as more_names, Pairs, none, last, more, param, sign}
use Rattle.query_grammar.specs.Meaning.{name_of, number_of_alias}
use Rattle.query_grammar.specs.Values.{param_of}

pub contains_cons : {X : Type 0} (x : X) (xs : List X) (y : X) → Contains (x ∷ xs) y → (x ≡ y) ⊎ Contains xs y
contains_cons x xs y (zero, l, e) = inl e
contains_cons x xs y (suc k, l, e) = inr (k, omega arith, e)

pub small_number : (f : QueryFault) → number f ≤ 7
small_number (Syntax at) = omega arith
small_number (UnknownField at) = omega arith
small_number (WrongKind at) = omega arith
small_number (NoParam at) = omega arith
small_number (TooDeep at) = omega arith
small_number (OutOfScope at) = omega arith
small_number NoMemory = omega arith

-- Offsets below a bound rise; from the bound on they need not.
module _ (mid bound : ℕ) where
  -- an offset lies before mid, or is the bound or behind it
  abbrev pub Placed : ℕ → Type 0
  Placed p = (p < mid) ⊎ (bound ≤ p)

  abbrev pub after : ℕ → ℕ
  after p = min (suc p) bound

  abbrev pub rank : ℕ → ℕ → ℕ
  rank p c = min (8 * p + c) (8 * bound)

  abbrev pub Rising : ℕ → ℕ → List Lexeme → Type 0
  Rising lo hi [] = lo ≤ hi
  Rising lo hi (t ∷ ts) = Placed t.at × (lo ≤ t.at) × Rising (after t.at) hi ts

  abbrev pub Up : ℕ → ℕ → List QueryFault → Type 0
  Up k m [] = k ≤ m
  Up k m (f ∷ fs) = Placed (place f) × (k ≤ rank (place f) (number f)) × Up (rank (place f) (number f)) m fs

  pub rank_low : (p c lo : ℕ) → lo ≤ p → lo ≤ bound → 8 * lo ≤ rank p c
  rank_low p c lo l k = omega arith

  pub rank_high : (p c hi : ℕ) → c ≤ 8 → after p ≤ hi → rank p c ≤ 8 * hi
  rank_high p c hi l k = omega arith

  pub rank_after : (p c : ℕ) → c ≤ 8 → rank p c ≤ 8 * after p
  rank_after p c l = omega arith

  pub rank_more : (p c d : ℕ) → c ≤ d → rank p c ≤ rank p d
  rank_more p c d l = omega arith

  pub low_after : (p lo : ℕ) → lo ≤ p → lo ≤ bound → lo ≤ after p
  low_after p lo l k = omega arith

  pub after_bound : (p : ℕ) → after p ≤ bound
  after_bound p = omega arith

  pub up_lower : (j k m : ℕ) (fs : List QueryFault) → j ≤ k → Up k m fs → Up j m fs
  up_lower j k m [] l h = omega arith
  up_lower j k m (f ∷ fs) l h = let a = h.1 in (h.0, omega arith, h.2)

  pub up_upper : (k m n : ℕ) (fs : List QueryFault) → m ≤ n → Up k m fs → Up k n fs
  up_upper k m n [] l h = omega arith
  up_upper k m n (f ∷ fs) l h = (h.0, h.1, up_upper (rank (place f) (number f)) m n fs l h.2)

  pub up_append : (k m n : ℕ) (fs gs : List QueryFault) → Up k m fs → Up m n gs → Up k n (fs ++ gs)
  up_append k m n [] gs h g = up_lower k m n gs h g
  up_append k m n (f ∷ fs) gs h g = (h.0, h.1, up_append (rank (place f) (number f)) m n fs gs h.2 g)

  pub up_if : (k m : ℕ) (b : Bool) (f : QueryFault) → Placed (place f) → k ≤ rank (place f) (number f) → rank (place f) (number f) ≤ m → Up k m (one_if b f)
  up_if k m true f p l h = (p, l, h)
  up_if k m false f p l h = omega arith

  pub rising_split : (lo hi : ℕ) (ts us : List Lexeme) → lo ≤ bound → Rising lo hi (ts ++ us) → (m : ℕ) × Rising lo m ts × Rising m hi us × (m ≤ bound)
  rising_split lo hi [] us l h = (lo, omega arith, h, l)
  rising_split lo hi (t ∷ ts) us l h = let s = rising_split (after t.at) hi ts us (after_bound t.at) h.2 in (s.0, (h.0, h.1, s.1), s.2, s.3)

  pub rising_le : (lo hi : ℕ) (ts : List Lexeme) → lo ≤ bound → Rising lo hi ts → lo ≤ hi
  rising_le lo hi [] l h = h
  rising_le lo hi (t ∷ ts) l h = let a : lo ≤ t.at = h.1 in let b : after t.at ≤ hi = rising_le (after t.at) hi ts (after_bound t.at) h.2 in let c : lo ≤ after t.at = low_after t.at lo a l in omega arith

  -- ---- faults of one lexeme

  pub up_kind : (params : List Param) (p k m : ℕ) (kind : LexKind) → Placed p → k ≤ rank p 4 → k ≤ m → rank p 8 ≤ m → Up k m (lexeme_faults params p kind)
  up_kind params p k m (kinds.Param name) h l n r = up_if k m (is_none (param_of params name)) (NoParam p) h l (let a = rank_more p 4 8 (omega arith) in omega arith)
  up_kind params p k m (kinds.ParamPrefix name) h l n r = up_if k m (is_none (param_of params name)) (NoParam p) h l (let a = rank_more p 4 8 (omega arith) in omega arith)
  up_kind params p k m (kinds.Foreign text) h l n r = let a = rank_more p 4 6 (omega arith) in let b = rank_more p 6 8 (omega arith) in (h, omega arith, omega arith)
  up_kind params p k m other h l n r = n

  pub up_at : (params : List Param) (lo hi : ℕ) (t : Lexeme) → lo ≤ bound → Rising lo hi (t ∷ []) → Up (8 * lo) (8 * hi) (faults_at params t)
  up_at params lo hi t l h =
      let a = rank_low t.at 4 lo h.1 l in
      let c = rank_high t.at 8 hi (omega arith) h.2 in
      let d = rank_more t.at 4 8 (omega arith) in
      up_kind params t.at (8 * lo) (8 * hi) t.kind h.0 a (omega arith) c

  pub up_opened : (n p k m : ℕ) → Placed p → k ≤ rank p 5 → rank p 5 ≤ m → Up k m (opened n p)
  up_opened zero p k m h l r = (h, l, r)
  up_opened (suc n) p k m h l r = omega arith

  up_flat : {X : Type 0} (f : X → List QueryFault) (x : X) (xs : List X) (k m n : ℕ) → Up k m (f x) → Up m n (flat_map f xs) → Up k n (flat_map f (x ∷ xs))
  up_flat f x xs k m n h g = up_append k m n (f x) (flat_map f xs) h g

  up_name : (fields : List Field) (lo hi : ℕ) (t : Lexeme) → lo ≤ bound → Rising lo hi (t ∷ []) → Up (8 * lo) (8 * hi) (name_faults fields t)
  up_name fields lo hi t l h = up_append (8 * lo) (rank t.at 2) (8 * hi) (one_if (is_none (number_of_alias fields (name_of t.kind))) (UnknownField t.at)) (one_if (is_foreign t.kind) (OutOfScope t.at))
      (up_if (8 * lo) (rank t.at 2) (is_none (number_of_alias fields (name_of t.kind))) (UnknownField t.at) h.0 (rank_low t.at 2 lo h.1 l) (omega arith))
      (up_if (rank t.at 2) (8 * hi) (is_foreign t.kind) (OutOfScope t.at) h.0 (rank_more t.at 2 6 (omega arith)) (rank_high t.at 6 hi (omega arith) h.2))

  pub up_names : (fields : List Field) {ts names : List Lexeme} → Names ts names → (lo hi : ℕ) → lo ≤ bound → Rising lo hi ts → Up (8 * lo) (8 * hi) (flat_map (name_faults fields) names)
  up_names fields (last_name t e) lo hi l h = up_flat (name_faults fields) t [] (8 * lo) (8 * hi) (8 * hi) (up_name fields lo hi t l h) (omega arith)
  up_names fields (more_names t p {ts = ts} {names = names} e d) lo hi l h =
      up_flat (name_faults fields) t names (8 * lo) (8 * after t.at) (8 * hi) (up_name fields lo (after t.at) t l (h.0, h.1, omega arith))
      (up_lower (8 * after t.at) (8 * after p) (8 * hi) (flat_map (name_faults fields) names) (let a = low_after p (after t.at) h.2.1 (after_bound t.at) in omega arith) (up_names fields d (after p) hi (after_bound p) h.2.2))

  pub up_edge : (params : List Param) {ts : List Lexeme} {edge : Edge} → IsEdge params ts edge → (lo hi : ℕ) → lo ≤ bound → Rising lo hi ts → Up (8 * lo) (8 * hi) (faults_at params edge.value)
  up_edge params (included t e) lo hi l h = up_at params lo hi t l h
  up_edge params (excluded p t e) lo hi l h = up_lower (8 * lo) (8 * after p) (8 * hi) (faults_at params t) (let a = low_after p lo h.1 l in omega arith) (up_at params (after p) hi t (after_bound p) h.2)

  pub up_tags : (params : List Param) (us : List Lexeme) (lo hi : ℕ) → lo ≤ bound → Rising lo hi us → Up (8 * lo) (8 * hi) (flat_map (faults_at params) us)
  up_tags params [] lo hi l h = omega arith
  up_tags params (t ∷ us) lo hi l h = up_flat (faults_at params) t us (8 * lo) (8 * after t.at) (8 * hi) (up_at params lo (after t.at) t l (h.0, h.1, omega arith)) (up_tags params us (after t.at) hi (after_bound t.at) h.2)

  -- an attribute: its name, a colon and its value
  up_pair : (params : List Param) (p q : ℕ) (name : List ℕ) (t : Lexeme) (lo hi : ℕ) → lo ≤ bound → Rising lo hi (param p name ∷ sign q signs.Colon ∷ t ∷ []) → Up (8 * lo) (8 * hi) (pair_faults params (record { at = p; name = name; value = Some t }))
  up_pair params p q name t lo hi l h = up_append (8 * lo) (8 * after p) (8 * hi) (one_if (not (is_known name)) (OutOfScope p)) (faults_at params t)
      (up_if (8 * lo) (8 * after p) (not (is_known name)) (OutOfScope p) h.0 (rank_low p 6 lo h.1 l) (rank_after p 6 (omega arith)))
      (up_lower (8 * after p) (8 * after q) (8 * hi) (faults_at params t) (let a = low_after q (after p) h.2.1 (after_bound p) in omega arith) (up_at params (after q) hi t (after_bound q) h.2.2))

  pub up_pairs : (params : List Param) {names : List (List ℕ)} {us : List Lexeme} {pairs : List Pair} → Pairs params names us pairs → (lo hi : ℕ) → lo ≤ bound → Rising lo hi us → Up (8 * lo) (8 * hi) (flat_map (pair_faults params) pairs)
  up_pairs params (none names) lo hi l h = omega arith
  up_pairs params (last names p q name t e f) lo hi l h = up_flat (pair_faults params) (record { at = p; name = name; value = Some t }) [] (8 * lo) (8 * hi) (8 * hi) (up_pair params p q name t lo hi l h) (omega arith)
  up_pairs params (more names p q r name t {pairs = pairs} e f d) lo hi l h =
      up_flat (pair_faults params) (record { at = p; name = name; value = Some t }) pairs (8 * lo) (8 * after t.at) (8 * hi)
      (up_pair params p q name t lo (after t.at) l (h.0, h.1, (h.2.0, h.2.1, (h.2.2.0, h.2.2.1, omega arith))))
      (up_lower (8 * after t.at) (8 * after r) (8 * hi) (flat_map (pair_faults params) pairs) (let a = low_after r (after t.at) h.2.2.2.1 (after_bound t.at) in omega arith) (up_pairs params d (after r) hi (after_bound r) h.2.2.2.2))
