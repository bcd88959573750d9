-- How a chain goes on, and that each reading takes a lexeme at least.
use Rattle.std.proofs.Common.{◌≡◌, ℕ, zero, suc, ◌+◌, ◌<◌, ◌≤◌, Bool, true, false, ◌||◌, IsTrue, List, [], ◌∷◌, ◌++◌, length, Option, Some, None, Ok, Err, refl, ap, ◌∙◌, length-append, arith}
use Rattle.ft_base.specs.declared.definition.IndexDef.{IndexDef}
use Rattle.ft_base.specs.declared.query.Fields.{Fields}
use Rattle.ft_base.specs.declared.query.Param.{Param}
use Rattle.ft_base.specs.declared.query.Query.{Query}
use Rattle.ft_base.specs.Reading.{◌>>=◌}
use Rattle.query_lex.specs.declared.lexeme.Lexeme.{Lexeme}
use Rattle.query_lex.specs.declared.lexeme.Sign.TheVariants as signs
use Rattle.query_grammar.specs.Form.{Form}
use Rattle.query_grammar.specs.Grammar.{Sort, Spells, one_side, sides, one_part, parts, minus, tilde, field, range, tags, part, bare, attributed, single, empty_group, group, is_atom, sign}
use Rattle.query_grammar.specs.Reading.{Read, Reader, begins_by_sign, deeper, joined_at, joined_in, joined_with, sign_in, sort_at}
use Rattle.query_grammar.proofs.Sound.{Chain, IsPart, LeadPart, joint, joint_is, side}
use Rattle.query_grammar.proofs.SoundUnary.{read_spelled}
use Rattle.query_grammar.proofs.Targets.{Spelled}

-- what is spelled begins with a lexeme that begins a part
abbrev pub Begun : List Lexeme → Type 0
Begun [] = ⊥
Begun (t ∷ ts) = IsTrue (begins_by_sign (sign_in t.kind) || is_atom t.kind)

pub begun_append : (ts us : List Lexeme) → Begun ts → Begun (ts ++ us)
begun_append [] us h = absurd h
begun_append (t ∷ ts) us h = h

or_true : (a b : Bool) → b ≡ true → (a || b) ≡ true
or_true true b h = refl
or_true false b h = h

pub sentence_begun : {params : List Param} {s : Sort} {ts : List Lexeme} {a : Form} → Spells params s ts a → Begun ts
sentence_begun (one_side d) = sentence_begun d
sentence_begun (sides p {ts = ts} {us = us} d e) = begun_append ts (sign p signs.Pipe ∷ us) (sentence_begun d)
sentence_begun (one_part d) = sentence_begun d
sentence_begun (parts {ts = ts} {us = us} d e) = begun_append ts us (sentence_begun d)
sentence_begun (minus p d) = refl
sentence_begun (tilde p d) = refl
sentence_begun (field p q n d) = refl
sentence_begun (range p q r s t h d e) = refl
sentence_begun (tags p q r s t us h k) = refl
sentence_begun (part d) = sentence_begun d
sentence_begun (bare d) = sentence_begun d
sentence_begun (attributed p q r {ts = ts} {us = us} d e) = begun_append (ts ++ sign p signs.Arrow ∷ sign q signs.AttrOpen ∷ us) (sign r signs.AttrClose ∷ []) (begun_append ts (sign p signs.Arrow ∷ sign q signs.AttrOpen ∷ us) (sentence_begun d))
sentence_begun (single t h) = or_true (begins_by_sign (sign_in t.kind)) (is_atom t.kind) h
sentence_begun (empty_group p q) = refl
sentence_begun (group p q d) = refl

pub some_lexeme : (ts : List Lexeme) → Begun ts → 0 < length ts
some_lexeme [] h = absurd h
some_lexeme (t ∷ ts) h = omega arith

-- what a reading leaves is what stood behind
abbrev pub Leaves : Reader → Type 0
Leaves next = (ts rest : List Lexeme) (qs : List Query) → next ts ≡ Ok (qs, rest) → (front : List Lexeme) × (ts ≡ front ++ rest) × Begun front

pub leaves_less : (ts rest front : List Lexeme) → ts ≡ front ++ rest → Begun front → length rest < length ts
leaves_less ts rest front e h =
    let l : length ts ≡ length front + length rest = ap length e ∙ length-append front rest in
    let k : 0 < length front = some_lexeme front h in
    omega arith

module _ (def : IndexDef) (params : List Param) where
  pub read_leaves : (fields : Fields) (n : ℕ) (s : Sort) → Leaves (sort_at def params (deeper def params n) fields s)
  read_leaves fields n s ts rest qs e = along (sort_at def params (deeper def params n) fields s ts) (read_spelled def params 0 fields n s ts) e
    where
      along : (r : Read (List Query)) → Spelled (IsPart def params 0 fields n s) (LeadPart def params 0 fields n s) ts r → r ≡ Ok (qs, rest) → (front : List Lexeme) × (ts ≡ front ++ rest) × Begun front
      along (Ok x) h e = let same : x.1 ≡ rest = ap (λ (y : List Query × List Lexeme). y.1) (pair_is x (qs, rest) e) in (h.front, h.parts ∙ ap (λ (y : List Lexeme). h.front ++ y) same, sentence_begun h.is.spells)
        where
          pair_is : (x y : List Query × List Lexeme) → ◌≡◌ {A = Read (List Query)} (Ok x) (Ok y) → x ≡ y
          pair_is x y e = cc
      along (Err stop) h e = absurd cc

  pub joint_within : (c : Chain) (ts us : List Lexeme) → joint c ts ≡ Some us → length us ≤ length ts
  joint_within c ts us e = let h = joint_is def params c ts us e in let l : length ts ≡ length h.between + length us = ap length h.is ∙ length-append h.between us in omega arith

  module _ (next : Reader) (c : Chain) (leaves : Leaves next) where
    shortens : (ts : List Lexeme) (x : List Query × List Lexeme) → next ts ≡ Ok x → length x.1 < length ts
    shortens ts x e = let h = leaves ts x.1 x.0 e in leaves_less ts x.1 h.0 h.1 h.2

    -- ---- the number of steps never shows
    abbrev Same : ℕ → ℕ → Type 0
    Same f g = (qs : List Query) (ts : List Lexeme) → length ts < f → length ts < g → joined_in (joint c) next (side c) f qs ts ≡ joined_in (joint c) next (side c) g qs ts

    same_behind : (f g : ℕ) → Same f g → (qs : List Query) (us : List Lexeme) → length us ≤ f → length us ≤ g → (r : Read (List Query)) → next us ≡ r
        → (r >>= λ x. joined_in (joint c) next (side c) f (qs ++ side c x.0) x.1) ≡ (r >>= λ x. joined_in (joint c) next (side c) g (qs ++ side c x.0) x.1)
    same_behind f g ih qs us lf lg (Err e) h = refl
    same_behind f g ih qs us lf lg (Ok x) h = let s : length x.1 < length us = shortens us x h in ih (qs ++ side c x.0) x.1 (omega arith) (omega arith)

    same_joined : (f g : ℕ) → Same f g → (qs : List Query) (ts : List Lexeme) → length ts ≤ f → length ts ≤ g → (found : Option (List Lexeme)) → joint c ts ≡ found
        → joined_with (λ ps us. joined_in (joint c) next (side c) f ps us) next (side c) qs ts found ≡ joined_with (λ ps us. joined_in (joint c) next (side c) g ps us) next (side c) qs ts found
    same_joined f g ih qs ts lf lg None e = refl
    same_joined f g ih qs ts lf lg (Some us) e = let w : length us ≤ length ts = joint_within c ts us e in same_behind f g ih qs us (omega arith) (omega arith) (next us) refl

    enough : (f g : ℕ) → Same f g
    enough zero g qs ts lf lg = absurd (omega arith)
    enough (suc f) zero qs ts lf lg = absurd (omega arith)
    enough (suc f) (suc g) qs ts lf lg = same_joined f g (enough f g) qs ts (omega arith) (omega arith) (joint c ts) refl

    pub joined_none : (qs : List Query) (ts : List Lexeme) → joint c ts ≡ None → joined_at (joint c) next (side c) qs ts ≡ Ok (qs, ts)
    unfolding joined_at
    joined_none qs ts e = ap (λ (o : Option (List Lexeme)). joined_with (λ ps us. joined_in (joint c) next (side c) (length ts) ps us) next (side c) qs ts o) e

    joined_behind : (f : ℕ) (qs : List Query) (us : List Lexeme) → length us ≤ f → (r : Read (List Query)) → next us ≡ r
        → (r >>= λ x. joined_in (joint c) next (side c) f (qs ++ side c x.0) x.1) ≡ (r >>= λ x. joined_at (joint c) next (side c) (qs ++ side c x.0) x.1)
    unfolding joined_at
    joined_behind f qs us lf (Err e) h = refl
    joined_behind f qs us lf (Ok x) h = let s : length x.1 < length us = shortens us x h in enough f (suc (length x.1)) (qs ++ side c x.0) x.1 (omega arith) (omega arith)

    pub joined_some : (qs : List Query) (ts us : List Lexeme) → joint c ts ≡ Some us → joined_at (joint c) next (side c) qs ts ≡ (next us >>= λ x. joined_at (joint c) next (side c) (qs ++ side c x.0) x.1)
    unfolding joined_at
    joined_some qs ts us e =
        let w : length us ≤ length ts = joint_within c ts us e in
        ap (λ (o : Option (List Lexeme)). joined_with (λ ps vs. joined_in (joint c) next (side c) (length ts) ps vs) next (side c) qs ts o) e
        ∙ joined_behind (length ts) qs us w (next us) refl
