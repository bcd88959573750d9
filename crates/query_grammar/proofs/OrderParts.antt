-- The faults of a sentence stand at its lexemes, and in the order of these: for forms within one another.
use Rattle.std.proofs.Common.{◌≡◌, ◌⊎◌, inl, inr, ℕ, ◌*◌, ◌<◌, ◌≤◌, ◌&&◌, IsTrue, List, [], ◌∷◌, ◌++◌, refl, subst, arith}
use Rattle.std.proofs.lemmas.Bool.{cases_order}
use Rattle.std.specs.List.{Contains, flat_map}
use Rattle.ft_base.specs.declared.definition.IndexDef.{IndexDef}
use Rattle.ft_base.specs.declared.query.Fields.{Fields}
use Rattle.ft_base.specs.declared.query.Param.{Param}
use Rattle.query_lex.specs.declared.lexeme.Lexeme.{Lexeme}
use Rattle.query_lex.specs.declared.lexeme.Sign.TheVariants as signs
use Rattle.query_grammar.specs.declared.fault.QueryFault.{QueryFault}
use Rattle.query_grammar.specs.declared.fault.QueryFault.TheVariants.{WrongKind, OutOfScope}
use Rattle.query_grammar.specs.Answer.{NotAfter, number, place}
use Rattle.query_grammar.specs.Faults.{arrow_faults, attribute_faults, faults_at, faults_of, has_no_order, has_other, kind_faults, lower, name_faults, needs, opened, pair_faults, start_of}
use Rattle.query_grammar.specs.Form.{Form, Edge, Pair, Single, EmptyGroup, Group, Denied, Optional as OptionalForm, Named, Range, Tags, With, Both, Either}
use Rattle.query_grammar.specs.Grammar.{Sort, Union, Inter, Unary, Part, Atom, IsEdge, Names, last as last_name, Pairs, Spells, one_side, sides, one_part, parts, minus, tilde, field, range, tags, part, bare, attributed, single, empty_group, group, is_field_name, sign}
use Rattle.query_grammar.specs.Meaning.{asks_order, fields_of, parts_of}
use Rattle.query_grammar.proofs.Order.{Placed, Rising, Up, after, after_bound, contains_cons, low_after, rank, rank_after, rank_high, rank_low, rank_more, rising_split, small_number, up_append, up_edge, up_if, up_kind, up_lower, up_names, up_opened, up_pairs, up_tags, up_upper}

module _ (def : IndexDef) (params : List Param) (mid bound : ℕ) where
  -- a form whose first lexeme may be of another kind than its fields
  pub record Starts (fields : Fields) (n lo hi : ℕ) (a : Form) : Type 0 where
    pub low : lo ≤ start_of a
    pub placed : Placed mid bound (start_of a)
    pub up : Up mid bound (rank mid bound (start_of a) 3) (8 * hi) (faults_of def params fields n a)

  abbrev pub Ordered : Sort → Fields → ℕ → ℕ → ℕ → Form → Type 0
  Ordered Union fields n lo hi a = Up mid bound (8 * lo) (8 * hi) (faults_of def params fields n a)
  Ordered Inter fields n lo hi a = Up mid bound (8 * lo) (8 * hi) (faults_of def params fields n a)
  Ordered Unary fields n lo hi a = Up mid bound (8 * lo) (8 * hi) (faults_of def params fields n a)
  Ordered Part fields n lo hi a = Starts fields n lo hi a
  Ordered Atom fields n lo hi a = Starts fields n lo hi a

  abbrev Orders : Sort → List Lexeme → Form → Type 0
  Orders s ts a = (fields : Fields) (n lo hi : ℕ) → lo ≤ bound → Rising mid bound lo hi ts → Ordered s fields n lo hi a

  weaker : (fields : Fields) (n lo hi : ℕ) (a : Form) → lo ≤ bound → Starts fields n lo hi a → Up mid bound (8 * lo) (8 * hi) (faults_of def params fields n a)
  weaker fields n lo hi a l h = up_lower mid bound (8 * lo) (rank mid bound (start_of a) 3) (8 * hi) (faults_of def params fields n a) (rank_low mid bound (start_of a) 3 lo h.low l) h.up

  -- what stands behind a sign
  behind : (p lo hi : ℕ) (fs : List QueryFault) → lo ≤ p → lo ≤ bound → Up mid bound (8 * after mid bound p) (8 * hi) fs → Up mid bound (8 * lo) (8 * hi) fs
  behind p lo hi fs l k h = let a = low_after mid bound p lo l k in up_lower mid bound (8 * lo) (8 * after mid bound p) (8 * hi) fs (omega arith) h

  -- and in front of a last sign
  before_last : (m hi q k : ℕ) (fs : List QueryFault) → m ≤ q → m ≤ bound → after mid bound q ≤ hi → Up mid bound k (8 * m) fs → Up mid bound k (8 * hi) fs
  before_last m hi q k fs l b r h = let a = low_after mid bound q m l b in up_upper mid bound k (8 * m) (8 * hi) fs (omega arith) h

  -- ---- joined

  sides_order : (p : ℕ) (ts us : List Lexeme) (a b : Form) → Orders Union ts a → Orders Inter us b → Orders Union (ts ++ sign p signs.Pipe ∷ us) (Either a b)
  sides_order p ts us a b ha hb fields n lo hi l h =
      let s = rising_split mid bound lo hi ts (sign p signs.Pipe ∷ us) l h in
      up_append mid bound (8 * lo) (8 * s.0) (8 * hi) (faults_of def params fields n a) (faults_of def params fields n b) (ha fields n lo s.0 l s.1)
      (behind p s.0 hi (faults_of def params fields n b) s.2.1 s.3 (hb fields n (after mid bound p) hi (after_bound mid bound p) s.2.2))

  parts_order : (ts us : List Lexeme) (a b : Form) → Orders Inter ts a → Orders Unary us b → Orders Inter (ts ++ us) (Both a b)
  parts_order ts us a b ha hb fields n lo hi l h =
      let s = rising_split mid bound lo hi ts us l h in
      up_append mid bound (8 * lo) (8 * s.0) (8 * hi) (faults_of def params fields n a) (faults_of def params fields n b) (ha fields n lo s.0 l s.1) (hb fields n s.0 hi s.3 s.2)

  -- ---- signs

  opened_then : (p lo hi n : ℕ) (fs : List QueryFault) → Placed mid bound p → lo ≤ p → lo ≤ bound → Up mid bound (8 * after mid bound p) (8 * hi) fs → Up mid bound (8 * lo) (8 * hi) (opened n p ++ fs)
  opened_then p lo hi n fs h l k u = up_append mid bound (8 * lo) (8 * after mid bound p) (8 * hi) (opened n p) fs
      (up_opened mid bound n p (8 * lo) (8 * after mid bound p) h (rank_low mid bound p 5 lo l k) (rank_after mid bound p 5 (omega arith))) u

  minus_order : (p : ℕ) (ts : List Lexeme) (a : Form) → Orders Unary ts a → Orders Unary (sign p signs.Minus ∷ ts) (Denied p a)
  minus_order p ts a ha fields n lo hi l h = opened_then p lo hi n (faults_of def params fields (lower n) a) h.0 h.1 l (ha fields (lower n) (after mid bound p) hi (after_bound mid bound p) h.2)

  tilde_order : (p : ℕ) (ts : List Lexeme) (a : Form) → Orders Unary ts a → Orders Unary (sign p signs.Tilde ∷ ts) (OptionalForm p a)
  tilde_order p ts a ha fields n lo hi l h = opened_then p lo hi n (faults_of def params fields (lower n) a) h.0 h.1 l (ha fields (lower n) (after mid bound p) hi (after_bound mid bound p) h.2)

  -- ---- fields

  kind_then : (fields : Fields) (lo hi : ℕ) (a : Form) (fs : List QueryFault) → lo ≤ bound → lo ≤ start_of a → Placed mid bound (start_of a) → Up mid bound (rank mid bound (start_of a) 3) (8 * hi) fs
      → Up mid bound (8 * lo) (8 * hi) (kind_faults def.fields fields a ++ fs)
  kind_then fields lo hi a fs l k h u = up_append mid bound (8 * lo) (rank mid bound (start_of a) 3) (8 * hi) (kind_faults def.fields fields a) fs
      (up_if mid bound (8 * lo) (rank mid bound (start_of a) 3) (has_other (needs a) def.fields fields) (WrongKind (start_of a)) h (rank_low mid bound (start_of a) 3 lo k l) (omega arith)) u

  field_order : (p q : ℕ) (us names ts : List Lexeme) (a : Form) → Names us names → Orders Part ts a → Orders Unary (sign p signs.At ∷ us ++ sign q signs.Colon ∷ ts) (Named p names a)
  field_order p q us names ts a d ha fields n lo hi l h =
      let s = rising_split mid bound (after mid bound p) hi us (sign q signs.Colon ∷ ts) (after_bound mid bound p) h.2 in
      let part = ha (fields_of def.fields names) (lower n) (after mid bound q) hi (after_bound mid bound q) s.2.2 in
      opened_then p lo hi n (flat_map (name_faults def.fields) names ++ (kind_faults def.fields (fields_of def.fields names) a ++ faults_of def params (fields_of def.fields names) (lower n) a)) h.0 h.1 l
      (up_append mid bound (8 * after mid bound p) (8 * s.0) (8 * hi) (flat_map (name_faults def.fields) names) (kind_faults def.fields (fields_of def.fields names) a ++ faults_of def params (fields_of def.fields names) (lower n) a)
      (up_names mid bound def.fields d (after mid bound p) s.0 (after_bound mid bound p) s.1)
      (behind q s.0 hi (kind_faults def.fields (fields_of def.fields names) a ++ faults_of def params (fields_of def.fields names) (lower n) a) s.2.1 s.3
      (kind_then (fields_of def.fields names) (after mid bound q) hi a (faults_of def params (fields_of def.fields names) (lower n) a) (after_bound mid bound q) part.low part.placed part.up)))

  -- a field of one name, and a target that begins at r
  one_order : (p q r : ℕ) (t : Lexeme) (ts : List Lexeme) (a : Form) (fs : List QueryFault) → start_of a ≡ r → (fields : Fields) (n lo hi : ℕ) → lo ≤ bound → IsTrue (is_field_name t.kind)
      → Rising mid bound lo hi (sign p signs.At ∷ t ∷ sign q signs.Colon ∷ sign r signs.RangeOpen ∷ ts)
      → Up mid bound (8 * after mid bound r) (8 * hi) fs
      → Up mid bound (8 * lo) (8 * hi) (opened n p ++ (flat_map (name_faults def.fields) (t ∷ []) ++ (kind_faults def.fields (fields_of def.fields (t ∷ [])) a ++ fs)))
  one_order p q r t ts a fs e fields n lo hi l k h u =
      let name : Rising mid bound (after mid bound p) (after mid bound t.at) (t ∷ []) = (h.2.0, h.2.1, omega arith) in
      opened_then p lo hi n (flat_map (name_faults def.fields) (t ∷ []) ++ (kind_faults def.fields (fields_of def.fields (t ∷ [])) a ++ fs)) h.0 h.1 l
      (up_append mid bound (8 * after mid bound p) (8 * after mid bound t.at) (8 * hi) (flat_map (name_faults def.fields) (t ∷ [])) (kind_faults def.fields (fields_of def.fields (t ∷ [])) a ++ fs)
      (up_names mid bound def.fields (last_name t k) (after mid bound p) (after mid bound t.at) (after_bound mid bound p) name)
      (behind q (after mid bound t.at) hi (kind_faults def.fields (fields_of def.fields (t ∷ [])) a ++ fs) h.2.2.1 (after_bound mid bound t.at)
      (kind_then (fields_of def.fields (t ∷ [])) (after mid bound q) hi a fs (after_bound mid bound q) (rw e h.2.2.2.1) (rw e h.2.2.2.0)
      (rw e (up_lower mid bound (rank mid bound r 3) (8 * after mid bound r) (8 * hi) fs (rank_after mid bound r 3 (omega arith)) u)))))

  range_order : (p q r s : ℕ) (t : Lexeme) (us vs : List Lexeme) (low high : Edge) → IsTrue (is_field_name t.kind) → IsEdge params us low → IsEdge params vs high
      → Orders Unary (sign p signs.At ∷ t ∷ sign q signs.Colon ∷ sign r signs.RangeOpen ∷ us ++ (vs ++ sign s signs.RangeClose ∷ [])) (Named p (t ∷ []) (Range r low high))
  range_order p q r s t us vs low high k d e fields n lo hi l h =
      let v = rising_split mid bound (after mid bound r) hi us (vs ++ sign s signs.RangeClose ∷ []) (after_bound mid bound r) h.2.2.2.2 in
      let w = rising_split mid bound v.0 hi vs (sign s signs.RangeClose ∷ []) v.3 v.2 in
      one_order p q r t (us ++ (vs ++ sign s signs.RangeClose ∷ [])) (Range r low high) (faults_at params low.value ++ faults_at params high.value) refl fields n lo hi l k h
      (up_append mid bound (8 * after mid bound r) (8 * v.0) (8 * hi) (faults_at params low.value) (faults_at params high.value)
      (up_edge mid bound params d (after mid bound r) v.0 (after_bound mid bound r) v.1)
      (before_last w.0 hi s (8 * v.0) (faults_at params high.value) w.2.1 w.3 w.2.2 (up_edge mid bound params e v.0 w.0 v.3 w.1)))

  tags_order : (p q r s : ℕ) (t : Lexeme) (us : List Lexeme) → IsTrue (is_field_name t.kind) → Orders Unary (sign p signs.At ∷ t ∷ sign q signs.Colon ∷ sign r signs.TagOpen ∷ us ++ sign s signs.TagClose ∷ []) (Named p (t ∷ []) (Tags r us))
  tags_order p q r s t us k fields n lo hi l h =
      let v = rising_split mid bound (after mid bound r) hi us (sign s signs.TagClose ∷ []) (after_bound mid bound r) h.2.2.2.2 in
      one_order p q r t (us ++ sign s signs.TagClose ∷ []) (Tags r us) (flat_map (faults_at params) us) refl fields n lo hi l k h
      (before_last v.0 hi s (8 * after mid bound r) (flat_map (faults_at params) us) v.2.1 v.3 v.2.2 (up_tags mid bound params us (after mid bound r) v.0 (after_bound mid bound r) v.1))

  -- ---- parts

  single_order : (t : Lexeme) → Orders Atom (t ∷ []) (Single t)
  single_order t fields n lo hi l h = record {
    low = h.1;
    placed = h.0;
    up = up_kind mid bound params t.at (rank mid bound t.at 3) (8 * hi) t.kind h.0 (rank_more mid bound t.at 3 4 (omega arith)) (rank_high mid bound t.at 3 hi (omega arith) h.2) (rank_high mid bound t.at 8 hi (omega arith) h.2);
  }

  empty_order : (p q : ℕ) → Orders Atom (sign p signs.Open ∷ sign q signs.Close ∷ []) (EmptyGroup p)
  empty_order p q fields n lo hi l h =
      let a = low_after mid bound q (after mid bound p) h.2.1 (after_bound mid bound p) in
      let b : after mid bound q ≤ hi = h.2.2 in
      let c : after mid bound p ≤ hi = omega arith in
      record { low = h.1; placed = h.0; up = up_opened mid bound n p (rank mid bound p 3) (8 * hi) h.0 (rank_more mid bound p 3 5 (omega arith)) (rank_high mid bound p 5 hi (omega arith) c) }

  group_order : (p q : ℕ) (ts : List Lexeme) (a : Form) → Orders Union ts a → Orders Atom (sign p signs.Open ∷ ts ++ sign q signs.Close ∷ []) (Group p a)
  group_order p q ts a ha fields n lo hi l h =
      let s = rising_split mid bound (after mid bound p) hi ts (sign q signs.Close ∷ []) (after_bound mid bound p) h.2 in
      record {
        low = h.1;
        placed = h.0;
        up = up_append mid bound (rank mid bound p 3) (8 * after mid bound p) (8 * hi) (opened n p) (faults_of def params fields (lower n) a)
            (up_opened mid bound n p (rank mid bound p 3) (8 * after mid bound p) h.0 (rank_more mid bound p 3 5 (omega arith)) (rank_after mid bound p 5 (omega arith)))
            (before_last s.0 hi q (8 * after mid bound p) (faults_of def params fields (lower n) a) s.2.1 s.3 s.2.2 (ha fields (lower n) (after mid bound p) s.0 (after_bound mid bound p) s.1));
      }

  attributes_order : (p q r : ℕ) (ts us : List Lexeme) (a : Form) (pairs : List Pair) → Pairs params [] us pairs → Orders Atom ts a → Orders Part (ts ++ sign p signs.Arrow ∷ sign q signs.AttrOpen ∷ us ++ sign r signs.AttrClose ∷ []) (With a p pairs)
  attributes_order p q r ts us a pairs d ha fields n lo hi l h =
      let v = rising_split mid bound lo hi (ts ++ sign p signs.Arrow ∷ sign q signs.AttrOpen ∷ us) (sign r signs.AttrClose ∷ []) l h in
      let s = rising_split mid bound lo v.0 ts (sign p signs.Arrow ∷ sign q signs.AttrOpen ∷ us) l v.1 in
      let atom = ha fields n lo s.0 l s.1 in
      record {
        low = atom.low;
        placed = atom.placed;
        up = before_last v.0 hi r (rank mid bound (start_of a) 3) (faults_of def params fields n a ++ attribute_faults params p pairs (parts_of def params fields a)) v.2.1 v.3 v.2.2
            (up_append mid bound (rank mid bound (start_of a) 3) (8 * s.0) (8 * v.0) (faults_of def params fields n a) (attribute_faults params p pairs (parts_of def params fields a)) atom.up
            (up_append mid bound (8 * s.0) (8 * after mid bound p) (8 * v.0) (arrow_faults p pairs (parts_of def params fields a)) (flat_map (pair_faults params) pairs)
            (up_if mid bound (8 * s.0) (8 * after mid bound p) (asks_order pairs && has_no_order (parts_of def params fields a)) (OutOfScope p) s.2.0 (rank_low mid bound p 6 s.0 s.2.1 s.3) (rank_after mid bound p 6 (omega arith)))
            (behind q (after mid bound p) v.0 (flat_map (pair_faults params) pairs) s.2.2.1 (after_bound mid bound p) (up_pairs mid bound params d (after mid bound q) v.0 (after_bound mid bound q) s.2.2.2))));
      }

  -- ---- all sorts

  orders : {s : Sort} {ts : List Lexeme} {a : Form} → Spells params s ts a → Orders s ts a
  orders (one_side d) = orders d
  orders (sides p {ts = ts} {us = us} {a = a} {b = b} d e) = sides_order p ts us a b (orders d) (orders e)
  orders (one_part d) = orders d
  orders (parts {ts = ts} {us = us} {a = a} {b = b} d e) = parts_order ts us a b (orders d) (orders e)
  orders (minus p {ts = ts} {a = a} d) = minus_order p ts a (orders d)
  orders (tilde p {ts = ts} {a = a} d) = tilde_order p ts a (orders d)
  orders (field p q {us = us} {names = names} {ts = ts} {a = a} d e) = field_order p q us names ts a d (orders e)
  orders (range p q r s t {us = us} {vs = vs} {low = low} {high = high} k d e) = range_order p q r s t us vs low high k d e
  orders (tags p q r s t us k d) = tags_order p q r s t us k
  orders (part {a = a} d) = λ fields n lo hi l h. weaker fields n lo hi a l (orders d fields n lo hi l h)
  orders (bare d) = orders d
  orders (attributed p q r {ts = ts} {us = us} {a = a} {pairs = pairs} d e) = attributes_order p q r ts us a pairs e (orders d)
  orders (single t k) = single_order t
  orders (empty_group p q) = empty_order p q
  orders (group p q {ts = ts} {a = a} d) = group_order p q ts a (orders d)

  pub ordered : {ts : List Lexeme} {a : Form} → Spells params Union ts a → (fields : Fields) (n lo hi : ℕ) → lo ≤ bound → Rising mid bound lo hi ts → Up mid bound (8 * lo) (8 * hi) (faults_of def params fields n a)
  ordered d fields n lo hi l h = orders d fields n lo hi l h

-- ---- what it says of one fault of a list

module _ (mid bound : ℕ) where
  abbrev Beyond : ℕ → QueryFault → Type 0
  Beyond k g = (k ≤ rank mid bound (place g) (number g)) × Placed mid bound (place g)

  one_or_more : (k : ℕ) (f : QueryFault) (fs : List QueryFault) (g : QueryFault) → Beyond k f → (Contains fs g → Beyond (rank mid bound (place f) (number f)) g) → (f ≡ g) ⊎ Contains fs g → Beyond k g
  one_or_more k f fs g h ih (inl e) = subst (λ (x : QueryFault). Beyond k x) e h
  one_or_more k f fs g h ih (inr c) = let r = ih c in let a = r.0 in let b = h.0 in (omega arith, r.1)

  up_rank : (k m : ℕ) (fs : List QueryFault) (g : QueryFault) → Up mid bound k m fs → Contains fs g → Beyond k g
  up_rank k m [] g h c = let l : c.0 < 0 = c.1 in absurd (omega arith)
  up_rank k m (f ∷ fs) g h c = one_or_more k f fs g (h.1, h.0) (λ d. up_rank (rank mid bound (place f) (number f)) m fs g h.2 d) (contains_cons f fs g c)

  -- a fault stands where lexemes are
  pub stands : (k m : ℕ) (fs : List QueryFault) (g : QueryFault) → Up mid bound k m fs → Contains fs g → Placed mid bound (place g)
  stands k m fs g h c = (up_rank k m fs g h c).1

  by_ranks : (f g : QueryFault) → number f ≤ 7 → number g ≤ 7 → place f < bound → rank mid bound (place f) (number f) ≤ rank mid bound (place g) (number g)
      → (place f ≡ place g) ⊎ ((place f < place g) ⊎ (place g < place f)) → NotAfter f g
  by_ranks f g a b l r (inl x) = inr (x, omega arith)
  by_ranks f g a b l r (inr (inl x)) = inl x
  by_ranks f g a b l r (inr (inr x)) = absurd (omega arith)

  -- the first of the faults, where it stands before the bound, comes before all others
  pub first_least : (k m : ℕ) (f : QueryFault) (fs : List QueryFault) (g : QueryFault) → Up mid bound k m (f ∷ fs) → place f < bound → Contains (f ∷ fs) g → NotAfter f g
  first_least k m f fs g h l c = by_place (contains_cons f fs g c)
    where
      by_place : (f ≡ g) ⊎ Contains fs g → NotAfter f g
      by_place (inl e) = subst (λ (x : QueryFault). NotAfter f x) e (inr (refl, omega arith))
      by_place (inr d) = by_ranks f g (small_number f) (small_number g) l (up_rank (rank mid bound (place f) (number f)) m fs g h.2 d).0 (cases_order (place f) (place g))
