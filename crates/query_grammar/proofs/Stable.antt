-- A reading of parts stays as it is when lexemes come behind, up to the end of what it saw.
use Rattle.std.proofs.Common.{◌≡◌, ◌⊎◌, inl, inr, ℕ, zero, suc, ◌<◌, ◌≤◌, Bool, true, false, cond, ◌&&◌, List, [], ◌∷◌, ◌++◌, length, Option, Some, None, Ok, Err, refl, sym, ap, subst, ◌∙◌, arith}
use Rattle.std.specs.List.{Contains, flat_map}
use Rattle.ft_base.specs.declared.definition.IndexDef.{IndexDef}
use Rattle.ft_base.specs.declared.query.Param.{Param}
use Rattle.ft_base.specs.declared.query.Query.{Query}
use Rattle.ft_base.specs.Reading.{◌>>=◌}
use Rattle.query_lex.specs.declared.lexeme.Lexeme.{Lexeme}
use Rattle.query_lex.specs.declared.lexeme.Sign.{Sign}
use Rattle.query_lex.specs.declared.lexeme.Sign.TheVariants as signs
use Rattle.query_grammar.specs.declared.fault.QueryFault.{QueryFault}
use Rattle.query_grammar.specs.declared.fault.QueryFault.TheVariants.{OutOfScope}
use Rattle.query_grammar.specs.Faults.{attribute_faults, has_no_order, one_if, pair_faults}
use Rattle.query_grammar.specs.Form.{Pair}
use Rattle.query_grammar.specs.Grammar.{sign}
use Rattle.query_grammar.specs.Meaning.{asks_order, attributed}
use Rattle.query_grammar.specs.Reading.{Cut, Read, Reader, Block, Closed, Open, begins_unary, behind_bar, broken_by, chain_at, joined_at, pairs_at, sign_in, with_block}
use Rattle.query_grammar.proofs.Chains.{Leaves, joined_none, joined_some, joint_within, leaves_less}
use Rattle.query_grammar.proofs.Growing.{pairs_in_block, Grown}
use Rattle.query_grammar.proofs.Keeps.{Keeping, Keeps, Says, Severs, keeps_along, keeps_bind, keeps_wider, nil_ok}
use Rattle.query_grammar.proofs.Low.{Low, broken_low, joined_low, reach, unless_low}
use Rattle.query_grammar.proofs.Sound.{Chain, Sides, Parts, HasJoint, joint, joint_is, side}

module _ (def : IndexDef) (params : List Param) (more : List Lexeme) where
  abbrev pub KeepsAll : List Lexeme → Read (List Query) → Read (List Query) → Type 0
  KeepsAll ts r s = Keeps def params {A = List Query} ts more r s

  -- ---- chains

  joint_more : (c : Chain) (t : Lexeme) (ts us : List Lexeme) → joint c (t ∷ ts) ≡ Some us → joint c (t ∷ ts ++ more) ≡ Some (us ++ more)
  joint_more Sides t ts us e = by_sign (sign_in t.kind) e
    where
      by_sign : (o : Option Sign) → behind_bar o (t ∷ ts) ≡ Some us → behind_bar o (t ∷ ts ++ more) ≡ Some (us ++ more)
      by_sign (Some signs.Pipe) e = let same : ts ≡ us = cc in ap (λ (x : List Lexeme). Some (x ++ more)) same
      by_sign o e = absurd cc
  joint_more Parts t ts us e = by_test (begins_unary (t ∷ ts)) e
    where
      by_test : (b : Bool) → cond {A = Option (List Lexeme)} b (Some (t ∷ ts)) None ≡ Some us → cond {A = Option (List Lexeme)} b (Some (t ∷ ts ++ more)) None ≡ Some (us ++ more)
      by_test true e = let same : t ∷ ts ≡ us = cc in ap (λ (x : List Lexeme). Some (x ++ more)) same
      by_test false e = absurd cc

  none_more : (c : Chain) (t : Lexeme) (ts : List Lexeme) → joint c (t ∷ ts) ≡ None → joint c (t ∷ ts ++ more) ≡ None
  none_more Sides t ts e = by_sign (sign_in t.kind) e
    where
      by_sign : (o : Option Sign) → behind_bar o (t ∷ ts) ≡ None → behind_bar o (t ∷ ts ++ more) ≡ None
      by_sign (Some signs.Pipe) e = absurd cc
      by_sign o e = refl
  none_more Parts t ts e = by_test (begins_unary (t ∷ ts)) e
    where
      by_test : (b : Bool) → cond {A = Option (List Lexeme)} b (Some (t ∷ ts)) None ≡ None → cond {A = Option (List Lexeme)} b (Some (t ∷ ts ++ more)) None ≡ None
      by_test true e = absurd cc
      by_test false e = refl

  nothing_joint : (c : Chain) → joint c [] ≡ None
  nothing_joint Sides = refl
  nothing_joint Parts = refl

  module _ (next : Reader) (c : Chain) (leaves : Leaves next) (low : Low next) (keep : Keeping def params more {A = List Query} next) where
    next_ends : (ts : List Lexeme) (qs : List Query) (rest : List Lexeme) → next ts ≡ Ok (qs, rest) → (front : List Lexeme) × (ts ≡ front ++ rest)
    next_ends ts qs rest e = let h = leaves ts rest qs e in (h.0, h.1)

    abbrev JoinedKeep : ℕ → Type 0
    JoinedKeep n = (qs : List Query) (ts : List Lexeme) → length ts < n → KeepsAll ts (joined_at (joint c) next (side c) qs ts) (joined_at (joint c) next (side c) qs (ts ++ more))

    joined_behind : (n : ℕ) → JoinedKeep n → (qs : List Query) (us : List Lexeme) → length us ≤ n
        → KeepsAll us (next us >>= λ x. joined_at (joint c) next (side c) (qs ++ side c x.0) x.1) (next (us ++ more) >>= λ x. joined_at (joint c) next (side c) (qs ++ side c x.0) x.1)
    joined_behind n ih qs us l = keeps_bind def params {A = List Query} {B = List Query} us more (λ x. joined_at (joint c) next (side c) (qs ++ side c x.0) x.1) (λ x. joined_at (joint c) next (side c) (qs ++ side c x.0) x.1)
        (λ ps rest. joined_low def params next c low (qs ++ side c ps) rest) (λ ps rest. joined_low def params next c low (qs ++ side c ps) rest) (next us) (next (us ++ more)) (keep us) (next_ends us)
        (λ ps rest e. let h = leaves us rest ps e in let k : length rest < length us = leaves_less us rest h.0 h.1 h.2 in ih (qs ++ side c ps) rest (omega arith))

    joined_cons : (n : ℕ) → JoinedKeep n → (qs : List Query) (t : Lexeme) (ts : List Lexeme) → length (t ∷ ts) ≤ n → (found : Option (List Lexeme)) → joint c (t ∷ ts) ≡ found
        → KeepsAll (t ∷ ts) (joined_at (joint c) next (side c) qs (t ∷ ts)) (joined_at (joint c) next (side c) qs (t ∷ ts ++ more))
    joined_cons n ih qs t ts l None e = keeps_along def params {A = List Query} (t ∷ ts) more (Ok (qs, t ∷ ts)) (Ok (qs, t ∷ ts ++ more)) (joined_at (joint c) next (side c) qs (t ∷ ts)) (joined_at (joint c) next (side c) qs (t ∷ ts ++ more))
        (joined_none def params next c leaves qs (t ∷ ts) e) (joined_none def params next c leaves qs (t ∷ ts ++ more) (none_more c t ts e)) refl
    joined_cons n ih qs t ts l (Some us) e =
        let w : length us ≤ length (t ∷ ts) = joint_within def params c (t ∷ ts) us e in
        let h : HasJoint def params c (t ∷ ts) us = joint_is def params c (t ∷ ts) us e in
        keeps_along def params {A = List Query} (t ∷ ts) more (next us >>= λ x. joined_at (joint c) next (side c) (qs ++ side c x.0) x.1) (next (us ++ more) >>= λ x. joined_at (joint c) next (side c) (qs ++ side c x.0) x.1)
        (joined_at (joint c) next (side c) qs (t ∷ ts)) (joined_at (joint c) next (side c) qs (t ∷ ts ++ more))
        (joined_some def params next c leaves qs (t ∷ ts) us e) (joined_some def params next c leaves qs (t ∷ ts ++ more) (us ++ more) (joint_more c t ts us e))
        (subst (λ (x : List Lexeme). KeepsAll x (next us >>= λ x. joined_at (joint c) next (side c) (qs ++ side c x.0) x.1) (next (us ++ more) >>= λ x. joined_at (joint c) next (side c) (qs ++ side c x.0) x.1)) (sym h.is)
        (keeps_wider def params {A = List Query} h.between us more (next us >>= λ x. joined_at (joint c) next (side c) (qs ++ side c x.0) x.1) (next (us ++ more) >>= λ x. joined_at (joint c) next (side c) (qs ++ side c x.0) x.1)
        (joined_behind n ih qs us (omega arith))))

    joined_keep : (n : ℕ) → JoinedKeep n
    joined_keep zero qs ts l = absurd (omega arith)
    joined_keep (suc n) qs [] l = keeps_along def params {A = List Query} [] more (Ok (qs, [])) (joined_at (joint c) next (side c) qs more) (joined_at (joint c) next (side c) qs []) (joined_at (joint c) next (side c) qs more)
        (joined_none def params next c leaves qs [] (nothing_joint c)) refl
        (nil_ok def params {A = List Query} (λ ts. joined_at (joint c) next (side c) qs ts) (joined_low def params next c low qs) qs (joined_none def params next c leaves qs [] (nothing_joint c)) [] more)
    joined_keep (suc n) qs (t ∷ ts) l = joined_cons n (joined_keep n) qs t ts (omega arith) (joint c (t ∷ ts)) refl

    pub chain_keeps : Keeping def params more {A = List Query} (chain_at (joint c) next (side c))
    unfolding chain_at
    chain_keeps ts = keeps_bind def params {A = List Query} {B = List Query} ts more (λ x. joined_at (joint c) next (side c) (side c x.0) x.1) (λ x. joined_at (joint c) next (side c) (side c x.0) x.1)
        (λ qs rest. joined_low def params next c low (side c qs) rest) (λ qs rest. joined_low def params next c low (side c qs) rest) (next ts) (next (ts ++ more)) (keep ts) (next_ends ts)
        (λ qs rest e. joined_keep (suc (length rest)) (side c qs) rest (omega arith))

  -- ---- attributes

  contains_head : (f : QueryFault) (fs : List QueryFault) → Contains (f ∷ fs) f
  contains_head f fs = (0, omega arith, refl)

  -- the first fault of attributes that break off is told whatever follows, or is one of an attribute
  pub first_told : (p q : ℕ) (quote : Bool) (qs : List Query) (us : List Lexeme) (pairs : List Pair) (b : Block def params) (f : QueryFault) (fs : List QueryFault)
      → attribute_faults params p pairs qs ≡ f ∷ fs → pairs_at def params [] us ≡ Open pairs [] → Grown def params pairs more b
      → Says f (with_block def params p quote qs b) ⊎ Severs def params (sign p signs.Arrow ∷ sign q signs.AttrOpen ∷ us) f
  first_told p q quote qs us pairs b f fs e r g = by_order (asks_order pairs) refl (has_no_order qs) refl
    where
      says : (b : Block def params) (hs : List QueryFault) → attribute_faults params p (pairs_in_block def params b) qs ≡ f ∷ hs → Says f (with_block def params p quote qs b)
      says (Closed ps rest) hs k = rw k refl
      says (Open ps rest) hs k = rw k refl

      head_is : (x : QueryFault) (xs : List QueryFault) → x ∷ xs ≡ f ∷ fs → x ≡ f
      head_is x xs k = cc

      severed : flat_map (pair_faults params) pairs ≡ f ∷ fs → Severs def params (sign p signs.Arrow ∷ sign q signs.AttrOpen ∷ us) f
      severed k = record { before = []; p = p; q = q; us = us; pairs = pairs; parts = refl; read = r; among = subst (λ (xs : List QueryFault). Contains xs f) (sym k) (contains_head f fs) }

      by_order : (x : Bool) → asks_order pairs ≡ x → (y : Bool) → has_no_order qs ≡ y → Says f (with_block def params p quote qs b) ⊎ Severs def params (sign p signs.Arrow ∷ sign q signs.AttrOpen ∷ us) f
      by_order true a true n =
          let same : OutOfScope p ≡ f = head_is (OutOfScope p) (flat_map (pair_faults params) pairs) (sym (ap (λ (c : Bool). one_if (c && has_no_order qs) (OutOfScope p) ++ flat_map (pair_faults params) pairs) a ∙ ap (λ (c : Bool). one_if c (OutOfScope p) ++ flat_map (pair_faults params) pairs) n) ∙ e) in
          inl (says b (flat_map (pair_faults params) (pairs_in_block def params b))
          (ap (λ (c : Bool). one_if (c && has_no_order qs) (OutOfScope p) ++ flat_map (pair_faults params) (pairs_in_block def params b)) (g.extends.asks a)
          ∙ ap (λ (c : Bool). one_if c (OutOfScope p) ++ flat_map (pair_faults params) (pairs_in_block def params b)) n
          ∙ ap (λ (x : QueryFault). x ∷ flat_map (pair_faults params) (pairs_in_block def params b)) same))
      by_order true a false n = inr (severed (sym (ap (λ (c : Bool). one_if (c && has_no_order qs) (OutOfScope p) ++ flat_map (pair_faults params) pairs) a ∙ ap (λ (c : Bool). one_if c (OutOfScope p) ++ flat_map (pair_faults params) pairs) n) ∙ e))
      by_order false a y n = inr (severed (sym (ap (λ (c : Bool). one_if (c && has_no_order qs) (OutOfScope p) ++ flat_map (pair_faults params) pairs) a) ∙ e))

  -- the block takes some of what is behind, or is as it was
  pub cut_block : (p : ℕ) (quote : Bool) (qs : List Query) (pairs : List Pair) (b : Block def params) (f : QueryFault) (fs : List QueryFault) → attribute_faults params p pairs qs ≡ f ∷ fs → Grown def params pairs more b
      → (reach (with_block def params p quote qs b) ≤ length more) ⊎ (with_block def params p quote qs b ≡ Err (Cut f more))
  cut_block p quote qs pairs (Closed ps rest) f fs e g =
      let l : length rest < length more = g.reach in
      let m = unless_low {A = List Query} (attribute_faults params p ps qs) rest (Ok (attributed params quote ps qs, rest)) (omega arith) in inl (omega arith)
  cut_block p quote qs pairs (Open ps rest) f fs e g = by_reach g.reach
    where
      by_reach : (length rest < length more) ⊎ ((rest ≡ more) × (ps ≡ pairs)) → (reach (with_block def params p quote qs (Open ps rest)) ≤ length more) ⊎ (with_block def params p quote qs (Open ps rest) ≡ Err (Cut f more))
      by_reach (inl l) = let m = broken_low def params (attribute_faults params p ps qs) rest in inl (omega arith)
      by_reach (inr l) = inr (ap (λ (xs : List Pair). Err (broken_by def params (attribute_faults params p xs qs) rest)) l.1
          ∙ ap (λ (xs : List QueryFault). Err (broken_by def params xs rest)) e ∙ ap (λ (x : List Lexeme). Err (Cut f x)) l.0)

  pub reach_block : (p : ℕ) (quote : Bool) (qs : List Query) (pairs : List Pair) (b : Block def params) → attribute_faults params p pairs qs ≡ [] → Grown def params pairs more b → reach (with_block def params p quote qs b) ≤ length more
  reach_block p quote qs pairs (Closed ps rest) e g =
      let l : length rest < length more = g.reach in
      let m = unless_low {A = List Query} (attribute_faults params p ps qs) rest (Ok (attributed params quote ps qs, rest)) (omega arith) in omega arith
  reach_block p quote qs pairs (Open ps rest) e g = by_reach g.reach
    where
      by_reach : (length rest < length more) ⊎ ((rest ≡ more) × (ps ≡ pairs)) → reach {A = List Query} (Err (broken_by def params (attribute_faults params p ps qs) rest)) ≤ length more
      by_reach (inl l) = let m = broken_low def params (attribute_faults params p ps qs) rest in omega arith
      by_reach (inr l) = let m : length rest ≡ length more = ap length l.0 in
          subst (λ (fs : List QueryFault). reach {A = List Query} (Err (broken_by def params fs rest)) ≤ length more) (sym (ap (λ (xs : List Pair). attribute_faults params p xs qs) l.1 ∙ e)) (omega arith)

  -- nothing behind: the same block
  pub grown_nil : (pairs : List Pair) (b : Block def params) → Grown def params pairs [] b → b ≡ Open pairs []
  grown_nil pairs (Closed ps rest) g = let l : length rest < 0 = g.reach in absurd (omega arith)
  grown_nil pairs (Open ps rest) g = by_reach g.reach
    where
      by_reach : (length rest < 0) ⊎ ((rest ≡ []) × (ps ≡ pairs)) → ◌≡◌ {A = Block def params} (Open ps rest) (Open pairs [])
      by_reach (inl l) = absurd (omega arith)
      by_reach (inr l) = cc
