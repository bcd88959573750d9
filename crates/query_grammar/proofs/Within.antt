-- An arrow of a sentence stands before attributes, whose faults the sentence has.
use Rattle.std.proofs.Common.{◌≡◌, ◌⊎◌, inl, inr, ℕ, Bool, true, false, IsTrue, List, [], ◌∷◌, ◌++◌, refl, sym, ap, ◌∙◌, append_assoc}
use Rattle.std.proofs.lemmas.Bool.{and_parts}
use Rattle.std.proofs.lemmas.List.Elements.{Contains-append_left, Contains-append_right}
use Rattle.std.specs.List.{Contains, flat_map, list_all}
use Rattle.ft_base.specs.declared.definition.IndexDef.{IndexDef}
use Rattle.ft_base.specs.declared.query.Fields.{Fields}
use Rattle.ft_base.specs.declared.query.Param.{Param}
use Rattle.query_lex.specs.declared.lexeme.Lexeme.{Lexeme}
use Rattle.query_lex.specs.declared.lexeme.LexKind.{LexKind}
use Rattle.query_lex.specs.declared.lexeme.LexKind.TheVariants as kinds
use Rattle.query_lex.specs.declared.lexeme.Sign.TheVariants as signs
use Rattle.query_grammar.specs.declared.fault.QueryFault.{QueryFault}
use Rattle.query_grammar.specs.Faults.{arrow_faults, attribute_faults, faults_of, kind_faults, lower, name_faults, opened, pair_faults}
use Rattle.query_grammar.specs.Form.{Form, Edge, Pair, Group, Denied, Optional, Named, With, Both, Side, Either}
use Rattle.query_grammar.specs.Grammar.{Sort, IsEdge, included, excluded, Names, last as last_name, more as more_names, Pairs, none, last, more, Spells, one_side, sides, one_part, parts, minus, tilde, field, range, tags, part, bare, attributed, single, empty_group, group, is_atom, is_attribute, is_edge, is_field_name, is_tag, sign}
use Rattle.query_grammar.specs.Meaning.{fields_of, parts_of}

-- where an element of two lists in turn stands
locate : (ts us pre : List Lexeme) (x : Lexeme) (rest : List Lexeme) → ts ++ us ≡ pre ++ x ∷ rest
    → ((mid : List Lexeme) × (ts ≡ pre ++ x ∷ mid) × (rest ≡ mid ++ us)) ⊎ ((mid : List Lexeme) × (us ≡ mid ++ x ∷ rest))
locate [] us pre x rest e = inr (pre, e)
locate (t ∷ ts) us [] x rest e = let a : t ≡ x = cc in let b : ts ++ us ≡ rest = cc in inl (ts, ap (λ (y : Lexeme). y ∷ ts) a, sym b)
locate (t ∷ ts) us (p ∷ pre) x rest e = further (locate ts us pre x rest tail)
  where
    head : t ≡ p
    head = cc

    tail : ts ++ us ≡ pre ++ x ∷ rest
    tail = cc

    further : ((mid : List Lexeme) × (ts ≡ pre ++ x ∷ mid) × (rest ≡ mid ++ us)) ⊎ ((mid : List Lexeme) × (us ≡ mid ++ x ∷ rest))
        → ((mid : List Lexeme) × (t ∷ ts ≡ p ∷ pre ++ x ∷ mid) × (rest ≡ mid ++ us)) ⊎ ((mid : List Lexeme) × (us ≡ mid ++ x ∷ rest))
    further (inl h) = inl (h.0, ap (λ (y : Lexeme). y ∷ ts) head ∙ ap (λ (ys : List Lexeme). p ∷ ys) h.1, h.2)
    further (inr h) = inr h

-- ---- lexemes without an arrow

abbrev is_arrow : LexKind → Bool
is_arrow (kinds.Sign signs.Arrow) = true
is_arrow other = false

abbrev NoArrow : List Lexeme → Type 0
NoArrow [] = Unit {0}
NoArrow (t ∷ ts) = (is_arrow t.kind ≡ false) × NoArrow ts

no_append : (ts us : List Lexeme) → NoArrow ts → NoArrow us → NoArrow (ts ++ us)
no_append [] us h k = k
no_append (t ∷ ts) us h k = (h.0, no_append ts us h.1 k)

no_arrow : (ts pre : List Lexeme) (p : ℕ) (rest : List Lexeme) → NoArrow ts → ts ≡ pre ++ sign p signs.Arrow ∷ rest → ⊥
no_arrow [] [] p rest h e = absurd cc
no_arrow [] (x ∷ pre) p rest h e = absurd cc
no_arrow (t ∷ ts) [] p rest h e = let same : t ≡ sign p signs.Arrow = cc in let c : true ≡ false = sym (ap (λ (y : Lexeme). is_arrow y.kind) same) ∙ h.0 in absurd cc
no_arrow (t ∷ ts) (x ∷ pre) p rest h e = let tail : ts ≡ pre ++ sign p signs.Arrow ∷ rest = cc in no_arrow ts pre p rest h.1 tail

-- an arrow stands behind them, or before them
skip : (ts us pre : List Lexeme) (p : ℕ) (rest : List Lexeme) → NoArrow ts → ts ++ us ≡ pre ++ sign p signs.Arrow ∷ rest → (mid : List Lexeme) × (us ≡ mid ++ sign p signs.Arrow ∷ rest)
skip ts us pre p rest h e = by_place (locate ts us pre (sign p signs.Arrow) rest e)
  where
    by_place : ((mid : List Lexeme) × (ts ≡ pre ++ sign p signs.Arrow ∷ mid) × (rest ≡ mid ++ us)) ⊎ ((mid : List Lexeme) × (us ≡ mid ++ sign p signs.Arrow ∷ rest)) → (mid : List Lexeme) × (us ≡ mid ++ sign p signs.Arrow ∷ rest)
    by_place (inl x) = absurd (no_arrow ts pre p x.0 h x.1)
    by_place (inr x) = x

before : (ts us pre : List Lexeme) (p : ℕ) (rest : List Lexeme) → NoArrow us → ts ++ us ≡ pre ++ sign p signs.Arrow ∷ rest → (mid : List Lexeme) × (ts ≡ pre ++ sign p signs.Arrow ∷ mid) × (rest ≡ mid ++ us)
before ts us pre p rest h e = by_place (locate ts us pre (sign p signs.Arrow) rest e)
  where
    by_place : ((mid : List Lexeme) × (ts ≡ pre ++ sign p signs.Arrow ∷ mid) × (rest ≡ mid ++ us)) ⊎ ((mid : List Lexeme) × (us ≡ mid ++ sign p signs.Arrow ∷ rest)) → (mid : List Lexeme) × (ts ≡ pre ++ sign p signs.Arrow ∷ mid) × (rest ≡ mid ++ us)
    by_place (inl x) = x
    by_place (inr x) = absurd (no_arrow us x.0 p rest h x.1)

name_kind : (k : LexKind) → is_field_name k ≡ true → is_arrow k ≡ false
name_kind (kinds.Sign s) h = absurd cc
name_kind other h = refl

atom_kind : (k : LexKind) → is_atom k ≡ true → is_arrow k ≡ false
atom_kind (kinds.Sign signs.Arrow) h = absurd cc
atom_kind other h = refl

tag_kind : (k : LexKind) → is_tag k ≡ true → is_arrow k ≡ false
tag_kind (kinds.Sign s) h = absurd cc
tag_kind other h = refl

names_no : {ts names : List Lexeme} → Names ts names → NoArrow ts
names_no (last_name t h) = (name_kind t.kind h, tt)
names_no (more_names t p h d) = (name_kind t.kind h, (refl, names_no d))

tags_no : (ts : List Lexeme) → IsTrue (list_all (λ (u : Lexeme). is_tag u.kind) ts) → NoArrow ts
tags_no [] h = tt
tags_no (t ∷ ts) h =
    let both = and_parts (is_tag t.kind) (list_all (λ (u : Lexeme). is_tag u.kind) ts) h in
    (tag_kind t.kind both.0, tags_no ts both.1)

module _ (def : IndexDef) (params : List Param) where
  edge_kind : (k : LexKind) → is_edge params k ≡ true → is_arrow k ≡ false
  edge_kind (kinds.Sign s) h = absurd cc
  edge_kind other h = refl

  attribute_kind : (name : List ℕ) (k : LexKind) → is_attribute params name k ≡ true → is_arrow k ≡ false
  attribute_kind name (kinds.Sign s) h = absurd cc
  attribute_kind name other h = refl

  edge_no : {ts : List Lexeme} {edge : Edge} → IsEdge params ts edge → NoArrow ts
  edge_no (included t h) = (edge_kind t.kind h, tt)
  edge_no (excluded p t h) = (refl, (edge_kind t.kind h, tt))

  pairs_no : {names : List (List ℕ)} {ts : List Lexeme} {pairs : List Pair} → Pairs params names ts pairs → NoArrow ts
  pairs_no (none names) = tt
  pairs_no (last names p q name t h f) = (refl, (refl, (attribute_kind name t.kind f, tt)))
  pairs_no (more names p q r name t h f d) = (refl, (refl, (attribute_kind name t.kind f, (refl, pairs_no d))))

  -- ---- the attributes behind an arrow

  pub record HasBlock (us : List Lexeme) (a : Form) : Type 0 where
    pub q : ℕ
    pub r : ℕ
    pub inner : List Lexeme
    pub tail : List Lexeme
    pub pairs : List Pair
    pub parts : us ≡ sign q signs.AttrOpen ∷ (inner ++ sign r signs.AttrClose ∷ tail)
    pub spells : Pairs params [] inner pairs
    pub among : (fields : Fields) (n : ℕ) (f : QueryFault) → Contains (flat_map (pair_faults params) pairs) f → Contains (faults_of def params fields n a) f

  abbrev HasFaults : Form → Form → Type 0
  HasFaults a b = (fields : Fields) (n : ℕ) (f : QueryFault) → ((inner : Fields) (m : ℕ) → Contains (faults_of def params inner m a) f) → Contains (faults_of def params fields n b) f

  wider : (us vs rest : List Lexeme) (a b : Form) → HasBlock us a → HasFaults a b → rest ≡ us ++ vs → HasBlock rest b
  wider us vs rest a b h g e = record {
    q = h.q;
    r = h.r;
    inner = h.inner;
    tail = h.tail ++ vs;
    pairs = h.pairs;
    parts = e ∙ (ap (λ (x : List Lexeme). x ++ vs) h.parts ∙ simp append_assoc);
    spells = h.spells;
    among = λ fields n f c. g fields n f (λ inner m. h.among inner m f c);
  }

  same_block : (us : List Lexeme) (a b : Form) → HasBlock us a → HasFaults a b → HasBlock us b
  same_block us a b h g = record { q = h.q; r = h.r; inner = h.inner; tail = h.tail; pairs = h.pairs; parts = h.parts; spells = h.spells; among = λ fields n f c. g fields n f (λ inner m. h.among inner m f c) }

  in_left : (a b : Form) → HasFaults a (Both a b)
  in_left a b fields n f h = Contains-append_left (faults_of def params fields n a) (faults_of def params fields n b) f (h fields n)

  in_right : (a b : Form) → HasFaults b (Both a b)
  in_right a b fields n f h = Contains-append_right (faults_of def params fields n a) (faults_of def params fields n b) f (h fields n)

  in_opened : (p : ℕ) (a : Form) → HasFaults a (Denied p a)
  in_opened p a fields n f h = Contains-append_right (opened n p) (faults_of def params fields (lower n) a) f (h fields (lower n))

  in_named : (p : ℕ) (names : List Lexeme) (a : Form) → HasFaults a (Named p names a)
  in_named p names a fields n f h =
      Contains-append_right (opened n p) (flat_map (name_faults def.fields) names ++ (kind_faults def.fields (fields_of def.fields names) a ++ faults_of def params (fields_of def.fields names) (lower n) a)) f
      (Contains-append_right (flat_map (name_faults def.fields) names) (kind_faults def.fields (fields_of def.fields names) a ++ faults_of def params (fields_of def.fields names) (lower n) a) f
      (Contains-append_right (kind_faults def.fields (fields_of def.fields names) a) (faults_of def params (fields_of def.fields names) (lower n) a) f (h (fields_of def.fields names) (lower n))))

  in_atom : (p : ℕ) (a : Form) (pairs : List Pair) → HasFaults a (With a p pairs)
  in_atom p a pairs fields n f h = Contains-append_left (faults_of def params fields n a) (attribute_faults params p pairs (parts_of def params fields a)) f (h fields n)

  in_pairs : (p : ℕ) (a : Form) (pairs : List Pair) (fields : Fields) (n : ℕ) (f : QueryFault) → Contains (flat_map (pair_faults params) pairs) f → Contains (faults_of def params fields n (With a p pairs)) f
  in_pairs p a pairs fields n f h = Contains-append_right (faults_of def params fields n a) (attribute_faults params p pairs (parts_of def params fields a)) f
      (Contains-append_right (arrow_faults p pairs (parts_of def params fields a)) (flat_map (pair_faults params) pairs) f h)

  abbrev Arrows : List Lexeme → Form → Type 0
  Arrows ts a = (pre : List Lexeme) (p : ℕ) (rest : List Lexeme) → ts ≡ pre ++ sign p signs.Arrow ∷ rest → HasBlock rest a

  two_arrows : (ts us : List Lexeme) (a b c : Form) → Arrows ts a → Arrows us b → HasFaults a c → HasFaults b c → Arrows (ts ++ us) c
  two_arrows ts us a b c ha hb fa fb pre p rest e = by_place (locate ts us pre (sign p signs.Arrow) rest e)
    where
      by_place : ((mid : List Lexeme) × (ts ≡ pre ++ sign p signs.Arrow ∷ mid) × (rest ≡ mid ++ us)) ⊎ ((mid : List Lexeme) × (us ≡ mid ++ sign p signs.Arrow ∷ rest)) → HasBlock rest c
      by_place (inl x) = wider x.0 us rest a c (ha pre p x.0 x.1) fa x.2
      by_place (inr x) = same_block rest b c (hb x.0 p rest x.1) fb

  behind_none : (ts us : List Lexeme) (a b : Form) → NoArrow ts → Arrows us a → HasFaults a b → Arrows (ts ++ us) b
  behind_none ts us a b h ha fa pre p rest e = let x = skip ts us pre p rest h e in same_block rest a b (ha x.0 p rest x.1) fa

  before_none : (ts us : List Lexeme) (a b : Form) → NoArrow us → Arrows ts a → HasFaults a b → Arrows (ts ++ us) b
  before_none ts us a b h ha fa pre p rest e = let x = before ts us pre p rest h e in wider x.0 us rest a b (ha pre p x.0 x.1) fa x.2

  none_at_all : (ts : List Lexeme) (a : Form) → NoArrow ts → Arrows ts a
  none_at_all ts a h pre p rest e = absurd (no_arrow ts pre p rest h e)

  -- the arrow of attributes itself
  own_arrow : (p q r : ℕ) (us : List Lexeme) (a : Form) (pairs : List Pair) → Pairs params [] us pairs → Arrows (sign p signs.Arrow ∷ sign q signs.AttrOpen ∷ (us ++ sign r signs.AttrClose ∷ [])) (With a p pairs)
  own_arrow p q r us a pairs d [] o rest e = let same : sign q signs.AttrOpen ∷ (us ++ sign r signs.AttrClose ∷ []) ≡ rest = cc in
      record { q = q; r = r; inner = us; tail = []; pairs = pairs; parts = sym same; spells = d; among = in_pairs p a pairs }
  own_arrow p q r us a pairs d (x ∷ pre) o rest e =
      let tail : sign q signs.AttrOpen ∷ (us ++ sign r signs.AttrClose ∷ []) ≡ pre ++ sign o signs.Arrow ∷ rest = cc in
      absurd (no_arrow (sign q signs.AttrOpen ∷ (us ++ sign r signs.AttrClose ∷ [])) pre o rest (refl, no_append us (sign r signs.AttrClose ∷ []) (pairs_no d) (refl, tt)) tail)

  attributed_arrow : (p q r : ℕ) (ts us : List Lexeme) (a : Form) (pairs : List Pair) → Pairs params [] us pairs → Arrows ts a → Arrows (ts ++ sign p signs.Arrow ∷ sign q signs.AttrOpen ∷ us ++ sign r signs.AttrClose ∷ []) (With a p pairs)
  attributed_arrow p q r ts us a pairs d ha pre o rest e =
      by_place (locate ts (sign p signs.Arrow ∷ sign q signs.AttrOpen ∷ (us ++ sign r signs.AttrClose ∷ [])) pre (sign o signs.Arrow) rest (whole ∙ e))
    where
      whole : ts ++ (sign p signs.Arrow ∷ sign q signs.AttrOpen ∷ (us ++ sign r signs.AttrClose ∷ [])) ≡ ts ++ sign p signs.Arrow ∷ sign q signs.AttrOpen ∷ us ++ sign r signs.AttrClose ∷ []
      whole = simp append_assoc

      by_place : ((mid : List Lexeme) × (ts ≡ pre ++ sign o signs.Arrow ∷ mid) × (rest ≡ mid ++ (sign p signs.Arrow ∷ sign q signs.AttrOpen ∷ (us ++ sign r signs.AttrClose ∷ []))))
          ⊎ ((mid : List Lexeme) × (sign p signs.Arrow ∷ sign q signs.AttrOpen ∷ (us ++ sign r signs.AttrClose ∷ []) ≡ mid ++ sign o signs.Arrow ∷ rest)) → HasBlock rest (With a p pairs)
      by_place (inl x) = wider x.0 (sign p signs.Arrow ∷ sign q signs.AttrOpen ∷ (us ++ sign r signs.AttrClose ∷ [])) rest a (With a p pairs) (ha pre o x.0 x.1) (in_atom p a pairs) x.2
      by_place (inr x) = own_arrow p q r us a pairs d x.0 o rest x.1

  pub arrows : {s : Sort} {ts : List Lexeme} {a : Form} → Spells params s ts a → Arrows ts a
  arrows (one_side {a = a} d) = λ pre p rest e. same_block rest a (Side a) (arrows d pre p rest e) (λ fields n f h. h fields n)
  arrows (sides p {ts = ts} {us = us} {a = a} {b = b} d e) = two_arrows ts (sign p signs.Pipe ∷ us) a b (Either a b) (arrows d) (behind_none (sign p signs.Pipe ∷ []) us b b (refl, tt) (arrows e) (λ fields n f h. h fields n)) (in_left a b) (in_right a b)
  arrows (one_part d) = arrows d
  arrows (parts {ts = ts} {us = us} {a = a} {b = b} d e) = two_arrows ts us a b (Both a b) (arrows d) (arrows e) (in_left a b) (in_right a b)
  arrows (minus p {ts = ts} {a = a} d) = behind_none (sign p signs.Minus ∷ []) ts a (Denied p a) (refl, tt) (arrows d) (in_opened p a)
  arrows (tilde p {ts = ts} {a = a} d) = behind_none (sign p signs.Tilde ∷ []) ts a (Optional p a) (refl, tt) (arrows d) (in_opened p a)
  arrows (field p q {us = us} {names = names} {ts = ts} {a = a} d e) = behind_none (sign p signs.At ∷ us) (sign q signs.Colon ∷ ts) a (Named p names a) (refl, names_no d)
      (behind_none (sign q signs.Colon ∷ []) ts a a (refl, tt) (arrows e) (λ fields n f h. h fields n)) (in_named p names a)
  arrows (range p q r s t {us = us} {vs = vs} h d e) = none_at_all (sign p signs.At ∷ t ∷ sign q signs.Colon ∷ sign r signs.RangeOpen ∷ us ++ (vs ++ sign s signs.RangeClose ∷ [])) _
      (refl, (name_kind t.kind h, (refl, (refl, no_append us (vs ++ sign s signs.RangeClose ∷ []) (edge_no d) (no_append vs (sign s signs.RangeClose ∷ []) (edge_no e) (refl, tt))))))
  arrows (tags p q r s t us h k) = none_at_all (sign p signs.At ∷ t ∷ sign q signs.Colon ∷ sign r signs.TagOpen ∷ us ++ sign s signs.TagClose ∷ []) _
      (refl, (name_kind t.kind h, (refl, (refl, no_append us (sign s signs.TagClose ∷ []) (tags_no us k) (refl, tt)))))
  arrows (part d) = arrows d
  arrows (bare d) = arrows d
  arrows (attributed p q r {ts = ts} {us = us} {a = a} {pairs = pairs} d e) = attributed_arrow p q r ts us a pairs e (arrows d)
  arrows (single t h) = none_at_all (t ∷ []) _ (atom_kind t.kind h, tt)
  arrows (empty_group p q) = none_at_all (sign p signs.Open ∷ sign q signs.Close ∷ []) _ (refl, (refl, tt))
  arrows (group p q {ts = ts} {a = a} d) = before_none (sign p signs.Open ∷ ts) (sign q signs.Close ∷ []) a (Group p a) (refl, tt) (behind_none (sign p signs.Open ∷ []) ts a a (refl, tt) (arrows d) (λ fields n f h. h fields n)) (in_opened p a)
