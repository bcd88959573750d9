-- The attributes in their braces: what is read of them is spelled.
use Rattle.std.proofs.Common.{◌≡◌, ℕ, zero, suc, List, [], ◌∷◌, ◌++◌, length, drop, Bool, true, false, cond, IsTrue, ◌||◌, not, Option, Some, None, refl, sym, ap, subst, ◌∙◌, append_assoc, append-nil, map, lit<, pos, arith}
use Rattle.std.specs.List.{flat_map}
use Rattle.std.specs.Prelude.{codes}
use Rattle.std.specs.Str.{bytes_eq}
use Rattle.std.proofs.lemmas.Slice.Eq.{bytes_eq-Decides}
use Rattle.query_grammar.specs.declared.fault.QueryFault.{QueryFault}
use Rattle.std.proofs.lemmas.Fmt.{decimal_digit}
use Rattle.ft_base.specs.Number.{int_of}
use Rattle.ft_base.specs.declared.definition.IndexDef.{IndexDef}
use Rattle.ft_base.specs.declared.query.Param.{Param}
use Rattle.query_lex.specs.declared.lexeme.Lexeme.{Lexeme}
use Rattle.query_lex.specs.declared.lexeme.LexKind.TheVariants as kinds
use Rattle.query_lex.specs.declared.lexeme.Sign.{Sign}
use Rattle.query_lex.specs.declared.lexeme.Sign.TheVariants as signs
use Rattle.query_grammar.specs.Answer.{place_of}
use Rattle.query_grammar.specs.Faults.{pair_faults}
use Rattle.query_grammar.specs.Form.{Pair}
use Rattle.query_grammar.specs.Grammar.{Pairs, none, last, more, has_name, is_attribute, param, sign}
use Rattle.query_grammar.specs.Meaning.{asks_order}
use Rattle.query_grammar.specs.Values.{fits_attribute}
use Rattle.query_grammar.specs.Reading.{Block, Closed, Open, attribute_value, behind_name, behind_pair, named_pair, names_of, next_param, next_sign, pair_with, pairs_at, pairs_in}
use Rattle.query_grammar.proofs.Signs.{Late, lexeme, param_front, sign_front}

-- ---- a value for each name

abbrev fitting : Bool → List ℕ
fitting b = cond b (codes "true") (codes "1")

pub one_spelled : int_of (codes "1") ≡ Some (pos 1)
unfolding int_of
one_spelled = rw (decimal_digit 1 (lit< tt)) refl

fits_by : (name : List ℕ) (slop order weight : Bool) → bytes_eq name (codes "slop") ≡ slop → bytes_eq name (codes "inorder") ≡ order → bytes_eq name (codes "weight") ≡ weight
    → (slop ≡ true → order ≡ true → ⊥) → fits_attribute name (fitting (bytes_eq name (codes "inorder"))) ≡ true
fits_by name true true weight es eo ew h = absurd (h refl refl)
fits_by name true false weight es eo ew h = rw (es, eo, one_spelled) refl
fits_by name false true weight es eo ew h = rw (es, eo) refl
fits_by name false false true es eo ew h = rw (es, eo, ew) refl
fits_by name false false false es eo ew h = rw (es, eo, ew) refl

not_both : (name : List ℕ) → bytes_eq name (codes "slop") ≡ true → bytes_eq name (codes "inorder") ≡ true → ⊥
not_both name a b =
    let e : name ≡ codes "slop" = (bytes_eq-Decides name (codes "slop")).0 a in
    let f : name ≡ codes "inorder" = (bytes_eq-Decides name (codes "inorder")).0 b in
    let g : codes "slop" ≡ codes "inorder" = sym e ∙ f in
    let h : length (codes "slop") ≡ length (codes "inorder") = ap length g in
    absurd (omega arith)

abbrev pub pair_names : List Pair → List (List ℕ)
pair_names pairs = map (λ (pair : Pair). pair.name) pairs

-- the accumulated names, in either order
abbrev pub Same : List Pair → List (List ℕ) → Type 0
Same before names = (x : List ℕ) → has_name (pair_names before) x ≡ has_name names x

or_swap : (a b c : Bool) → (a || (b || c)) ≡ (b || (a || c))
or_swap true true c = refl
or_swap true false c = refl
or_swap false b c = refl

-- the names of attributes, with one more
pub named_last : (before : List Pair) (p : Pair) (x : List ℕ) → has_name (pair_names (before ++ p ∷ [])) x ≡ (bytes_eq x p.name || has_name (pair_names before) x)
named_last [] p x = refl
named_last (q ∷ before) p x =
    ap (λ (b : Bool). bytes_eq x q.name || b) (named_last before p x) ∙ or_swap (bytes_eq x q.name) (bytes_eq x p.name) (has_name (pair_names before) x)

pub same_more : (before : List Pair) (names : List (List ℕ)) (p : Pair) → Same before names → Same (before ++ p ∷ []) (p.name ∷ names)
same_more before names p h x = named_last before p x ∙ ap (λ (b : Bool). bytes_eq x p.name || b) (h x)

module _ (def : IndexDef) (params : List Param) where
  pub fits : (name : List ℕ) → is_attribute params name (kinds.Raw (fitting (bytes_eq name (codes "inorder")))) ≡ true
  fits name = fits_by name (bytes_eq name (codes "slop")) (bytes_eq name (codes "inorder")) (bytes_eq name (codes "weight")) refl refl refl (not_both name)

  -- the same to the faults of attributes
  abbrev pub Alike : List Pair → List Pair → Type 0
  Alike old new = (flat_map (pair_faults params) old ≡ flat_map (pair_faults params) new) × (asks_order old ≡ asks_order new)

  alike_more : (p : Pair) (old new : List Pair) → Alike old new → Alike (p ∷ old) (p ∷ new)
  alike_more p old new h = (ap (λ (fs : List QueryFault). pair_faults params p ++ fs) h.0, ap (λ (b : Bool). (bytes_eq p.name (codes "slop") || bytes_eq p.name (codes "inorder")) || b) h.1)

  pub record Closes (names : List (List ℕ)) (before : List Pair) (ts : List Lexeme) (pairs : List Pair) (rest : List Lexeme) : Type 0 where
    pub front : List Lexeme
    pub at : ℕ
    pub new : List Pair
    pub parts : ts ≡ front ++ sign at signs.AttrClose ∷ rest
    pub spells : Pairs params names front new
    pub is : pairs ≡ before ++ new

  pub record Breaks (end : ℕ) (names : List (List ℕ)) (before : List Pair) (ts : List Lexeme) (pairs : List Pair) (rest : List Lexeme) : Type 0 where
    pub front : List Lexeme
    pub others : List Lexeme
    pub old : List Pair
    pub new : List Pair
    pub parts : ts ≡ front ++ rest
    pub spells : Pairs params names (front ++ others) new
    pub late : Late end others
    pub is : pairs ≡ before ++ old
    pub alike : Alike old new

  module _ (end : ℕ) where
    abbrev pub BlockSpelled : List (List ℕ) → List Pair → List Lexeme → Block def params → Type 0
    BlockSpelled names before ts (Closed pairs rest) = Closes names before ts pairs rest
    BlockSpelled names before ts (Open pairs rest) = Breaks end names before ts pairs rest

    here : (names : List (List ℕ)) (before : List Pair) (ts : List Lexeme) → Breaks end names before ts before ts
    here names before ts = record { front = []; others = []; old = []; new = []; parts = refl; spells = none names; late = tt; is = sym (append-nil before); alike = (refl, refl) }

    -- an attribute whose value is still to come
    valued : (names : List (List ℕ)) (before : List Pair) (p : ℕ) (name : List ℕ) (ts : List Lexeme) → IsTrue (not (has_name names name))
        → Breaks end names before (param p name ∷ ts) (before ++ record { at = p; name = name; value = None } ∷ []) ts
    valued names before p name ts h = record {
      front = param p name ∷ [];
      others = sign end signs.Colon ∷ lexeme end (kinds.Raw (fitting (bytes_eq name (codes "inorder")))) ∷ [];
      old = record { at = p; name = name; value = None } ∷ [];
      new = record { at = p; name = name; value = Some (lexeme end (kinds.Raw (fitting (bytes_eq name (codes "inorder"))))) } ∷ [];
      parts = refl;
      spells = last names p end name (lexeme end (kinds.Raw (fitting (bytes_eq name (codes "inorder"))))) h (fits name);
      late = (refl, (refl, tt));
      is = refl;
      alike = (refl, refl);
    }

    colon_valued : (names : List (List ℕ)) (before : List Pair) (p q : ℕ) (name : List ℕ) (ts : List Lexeme) → IsTrue (not (has_name names name))
        → Breaks end names before (param p name ∷ sign q signs.Colon ∷ ts) (before ++ record { at = p; name = name; value = None } ∷ []) ts
    colon_valued names before p q name ts h = record {
      front = param p name ∷ sign q signs.Colon ∷ [];
      others = lexeme end (kinds.Raw (fitting (bytes_eq name (codes "inorder")))) ∷ [];
      old = record { at = p; name = name; value = None } ∷ [];
      new = record { at = p; name = name; value = Some (lexeme end (kinds.Raw (fitting (bytes_eq name (codes "inorder"))))) } ∷ [];
      parts = refl;
      spells = last names p q name (lexeme end (kinds.Raw (fitting (bytes_eq name (codes "inorder"))))) h (fits name);
      late = (refl, tt);
      is = refl;
      alike = (refl, refl);
    }

    abbrev Follows : (List Pair → List Lexeme → Block def params) → Type 0
    Follows others = (names : List (List ℕ)) (before : List Pair) (ts : List Lexeme) → Same before names → BlockSpelled names before ts (others before ts)

    -- behind an attribute and a semicolon
    behind_semi : (names : List (List ℕ)) (before : List Pair) (p q r : ℕ) (name : List ℕ) (t : Lexeme) (ts : List Lexeme) (block : Block def params)
        → IsTrue (not (has_name names name)) → IsTrue (is_attribute params name t.kind)
        → BlockSpelled (name ∷ names) (before ++ record { at = p; name = name; value = Some t } ∷ []) ts block
        → BlockSpelled names before (param p name ∷ sign q signs.Colon ∷ t ∷ sign r signs.Semi ∷ ts) block
    behind_semi names before p q r name t ts (Closed pairs rest) h k b = record {
      front = param p name ∷ sign q signs.Colon ∷ t ∷ sign r signs.Semi ∷ b.front;
      at = b.at;
      new = record { at = p; name = name; value = Some t } ∷ b.new;
      parts = ap (λ (x : List Lexeme). param p name ∷ sign q signs.Colon ∷ t ∷ sign r signs.Semi ∷ x) b.parts;
      spells = more names p q r name t h k b.spells;
      is = b.is ∙ append_assoc before (record { at = p; name = name; value = Some t } ∷ []) b.new;
    }
    behind_semi names before p q r name t ts (Open pairs rest) h k b = record {
      front = param p name ∷ sign q signs.Colon ∷ t ∷ sign r signs.Semi ∷ b.front;
      others = b.others;
      old = record { at = p; name = name; value = Some t } ∷ b.old;
      new = record { at = p; name = name; value = Some t } ∷ b.new;
      parts = ap (λ (x : List Lexeme). param p name ∷ sign q signs.Colon ∷ t ∷ sign r signs.Semi ∷ x) b.parts;
      spells = more names p q r name t h k b.spells;
      late = b.late;
      is = b.is ∙ append_assoc before (record { at = p; name = name; value = Some t } ∷ []) b.old;
      alike = alike_more (record { at = p; name = name; value = Some t }) b.old b.new b.alike;
    }

    module _ (others : List Pair → List Lexeme → Block def params) (ih : Follows others) where
      behind_pair_spelled : (names : List (List ℕ)) (before : List Pair) (p q : ℕ) (name : List ℕ) (t : Lexeme) (ts : List Lexeme) (o : Option Sign) → next_sign ts ≡ o
          → Same before names → IsTrue (not (has_name names name)) → IsTrue (is_attribute params name t.kind)
          → BlockSpelled names before (param p name ∷ sign q signs.Colon ∷ t ∷ ts)
          (behind_pair def params (others (before ++ record { at = p; name = name; value = Some t } ∷ [])) (before ++ record { at = p; name = name; value = Some t } ∷ []) o ts)
      behind_pair_spelled names before p q name t ts (Some signs.Semi) e s h k =
          subst (λ (x : List Lexeme). BlockSpelled names before (param p name ∷ sign q signs.Colon ∷ t ∷ x) (others (before ++ record { at = p; name = name; value = Some t } ∷ []) (drop 1 ts))) (sym (sign_front ts signs.Semi e))
          (behind_semi names before p q (place_of 0 ts) name t (drop 1 ts) (others (before ++ record { at = p; name = name; value = Some t } ∷ []) (drop 1 ts)) h k
          (ih (name ∷ names) (before ++ record { at = p; name = name; value = Some t } ∷ []) (drop 1 ts) (same_more before names (record { at = p; name = name; value = Some t }) s)))
      behind_pair_spelled names before p q name t ts (Some signs.AttrClose) e s h k = record {
        front = param p name ∷ sign q signs.Colon ∷ t ∷ [];
        at = place_of 0 ts;
        new = record { at = p; name = name; value = Some t } ∷ [];
        parts = ap (λ (x : List Lexeme). param p name ∷ sign q signs.Colon ∷ t ∷ x) (sign_front ts signs.AttrClose e);
        spells = last names p q name t h k;
        is = refl;
      }
      behind_pair_spelled names before p q name t ts o e s h k = record {
        front = param p name ∷ sign q signs.Colon ∷ t ∷ [];
        others = [];
        old = record { at = p; name = name; value = Some t } ∷ [];
        new = record { at = p; name = name; value = Some t } ∷ [];
        parts = refl;
        spells = last names p q name t h k;
        late = tt;
        is = refl;
        alike = (refl, refl);
      }

      value_spelled : (names : List (List ℕ)) (before : List Pair) (p q : ℕ) (name : List ℕ) (ts : List Lexeme) → Same before names → IsTrue (not (has_name names name))
          → BlockSpelled names before (param p name ∷ sign q signs.Colon ∷ ts) (attribute_value def params others before p name ts)
      value_spelled names before p q name [] s h = colon_valued names before p q name [] h
      value_spelled names before p q name (t ∷ ts) s h = by_test (is_attribute params name t.kind) refl
        where
          by_test : (b : Bool) → is_attribute params name t.kind ≡ b → BlockSpelled names before (param p name ∷ sign q signs.Colon ∷ t ∷ ts)
              (cond b (behind_pair def params (others (before ++ record { at = p; name = name; value = Some t } ∷ [])) (before ++ record { at = p; name = name; value = Some t } ∷ []) (next_sign ts) ts)
              (Open (before ++ record { at = p; name = name; value = None } ∷ []) (t ∷ ts)))
          by_test true k = behind_pair_spelled names before p q name t ts (next_sign ts) refl s h k
          by_test false k = colon_valued names before p q name (t ∷ ts) h

      behind_name_spelled : (names : List (List ℕ)) (before : List Pair) (p : ℕ) (name : List ℕ) (ts : List Lexeme) (o : Option Sign) → next_sign ts ≡ o → Same before names → IsTrue (not (has_name names name))
          → BlockSpelled names before (param p name ∷ ts) (behind_name def params others before p name o ts)
      behind_name_spelled names before p name ts (Some signs.Colon) e s h =
          subst (λ (x : List Lexeme). BlockSpelled names before (param p name ∷ x) (attribute_value def params others before p name (drop 1 ts))) (sym (sign_front ts signs.Colon e))
          (value_spelled names before p (place_of 0 ts) name (drop 1 ts) s h)
      behind_name_spelled names before p name ts o e s h = valued names before p name ts h

      fresh : (names : List (List ℕ)) (before : List Pair) (name : List ℕ) → Same before names → has_name (names_of def params before) name ≡ false → IsTrue (not (has_name names name))
      fresh names before name s e = ap not (sym (s name) ∙ e)

      named_spelled : (names : List (List ℕ)) (before : List Pair) (ts : List Lexeme) (o : Option (List ℕ)) → next_param ts ≡ o → Same before names → BlockSpelled names before ts (named_pair def params others before o ts)
      named_spelled names before ts None e s = here names before ts
      named_spelled names before ts (Some name) e s = by_test (has_name (names_of def params before) name) refl
        where
          by_test : (b : Bool) → has_name (names_of def params before) name ≡ b
              → BlockSpelled names before ts (cond b (Open before ts) (behind_name def params others before (place_of 0 ts) name (next_sign (drop 1 ts)) (drop 1 ts)))
          by_test true k = here names before ts
          by_test false k = subst (λ (x : List Lexeme). BlockSpelled names before x (behind_name def params others before (place_of 0 ts) name (next_sign (drop 1 ts)) (drop 1 ts))) (sym (param_front ts name e))
              (behind_name_spelled names before (place_of 0 ts) name (drop 1 ts) (next_sign (drop 1 ts)) refl s (fresh names before name s k))

      pair_spelled : (names : List (List ℕ)) (before : List Pair) (ts : List Lexeme) (o : Option Sign) → next_sign ts ≡ o → Same before names → BlockSpelled names before ts (pair_with def params others before o ts)
      pair_spelled names before ts (Some signs.AttrClose) e s = record { front = []; at = place_of 0 ts; new = []; parts = sign_front ts signs.AttrClose e; spells = none names; is = sym (append-nil before) }
      pair_spelled names before ts o e s = named_spelled names before ts (next_param ts) refl s

    pairs_spelled : (n : ℕ) → Follows (pairs_in def params n)
    pairs_spelled zero names before ts s = here names before ts
    pairs_spelled (suc n) names before ts s = pair_spelled (λ pairs us. pairs_in def params n pairs us) (pairs_spelled n) names before ts (next_sign ts) refl s

    pub block_spelled : (ts : List Lexeme) → BlockSpelled [] [] ts (pairs_at def params [] ts)
    unfolding pairs_at
    block_spelled ts = pairs_spelled (suc (length ts)) [] [] ts (λ x. refl)
