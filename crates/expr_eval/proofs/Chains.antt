-- How a chain goes on: the fuel never shows.
use Rattle.std.proofs.Common.{◌≡◌, ℕ, zero, suc, ◌<◌, ◌≤◌, List, [], ◌∷◌, ◌++◌, length, Option, Some, None, Ok, Err, refl, sym, ap, subst, ◌∙◌, arith}
use Rattle.std.proofs.lemmas.List.{length-append}
use Rattle.expr_eval.specs.declared.token.Kind.{Kind}
use Rattle.expr_eval.specs.declared.tree.Op.{Op}
use Rattle.expr_eval.specs.declared.token.Chain.{Chain}
use Rattle.expr_eval.specs.declared.token.Chain.TheVariants.{Ors, Ands, Sums, Products}
use Rattle.expr_eval.specs.declared.tree.Expr.{Expr}
use Rattle.expr_eval.specs.declared.tree.Expr.TheVariants as tree
use Rattle.expr_eval.specs.declared.fault.Fault.{Fault}
use Rattle.expr_eval.specs.declared.fault.Fault.TheVariants as faults
use Rattle.expr_eval.specs.Grammar.{Sort, operand, joins}
use Rattle.ft_base.specs.Reading.{◌>>=◌}
use Rattle.expr_eval.specs.Tokens.{kinds}
use Rattle.expr_eval.specs.Reading.{Stop, Syntax, TooDeep, Read, Reader, sign_at, joined_at, others_in, others_at, compared_at, sort_at, deeper, Fails}
use Rattle.expr_eval.proofs.Sound.{Spelled, Took, spells_some, sign_is, IsWhole, a_chain, a_negation, a_signed, read_spelled}

took_of : (n : ℕ) (s : Sort) (ts rest : List Kind) (a : Expr) (r : Read Expr) → Spelled n s ts r → r ≡ Ok (a, rest) → Took n s ts rest a
took_of n s ts rest a r h e = subst (λ (x : Read Expr). Spelled n s ts x) e h

took_shorter : (n : ℕ) (s : Sort) (ts rest : List Kind) (a : Expr) → Took n s ts rest a → length rest < length ts
took_shorter n s ts rest a t =
    let len : length ts ≡ length (t.front ++ rest) = ap length t.parts in
    let some : 0 < length t.front = spells_some t.spells in
    omega (arith, length-append t.front rest)

abbrev pub Shortens : Reader → Type 0
Shortens next = (ts rest : List Kind) (a : Expr) → next ts ≡ Ok (a, rest) → length rest < length ts

pub read_shortens : (n : ℕ) (s : Sort) → IsWhole s → Shortens (sort_at (deeper n) s)
read_shortens n s w ts rest a e = took_shorter n s ts rest a (took_of n s ts rest a (sort_at (deeper n) s ts) (read_spelled n s w ts) e)

pub whole_operand : (c : Chain) → IsWhole (operand c)
whole_operand Ors = a_chain Ands
whole_operand Ands = a_negation
whole_operand Sums = a_chain Products
whole_operand Products = a_signed

module _ (next : Reader) (c : Chain) (shortens : Shortens next) where
  abbrev Same : ℕ → ℕ → Type 0
  Same f g = (a : Expr) (ts : List Kind) → length ts ≤ f → length ts ≤ g → others_in next c f a ts ≡ others_in next c g a ts

  same_behind : (f g : ℕ) → Same f g → (o : Op) (a : Expr) (us : List Kind) → length us ≤ f → length us ≤ g → (r : Read Expr) → next us ≡ r
      → (r >>= λ x. others_in next c f (tree.Binary o a x.0) x.1) ≡ (r >>= λ x. others_in next c g (tree.Binary o a x.0) x.1)
  same_behind f g ih o a us lf lg (Err e) h = refl
  same_behind f g ih o a us lf lg (Ok x) h =
      let short : length x.1 < length us = shortens us x.1 x.0 h in
      ih (tree.Binary o a x.0) x.1 (omega arith) (omega arith)

  same_joined : (f g : ℕ) → Same f g → (a : Expr) (ts : List Kind) → length ts ≤ suc f → length ts ≤ suc g → (found : Option (Op × List Kind)) → sign_at (joins c) ts ≡ found
      → joined_at (λ b us. others_in next c f b us) next a ts found ≡ joined_at (λ b us. others_in next c g b us) next a ts found
  same_joined f g ih a ts lf lg None e = refl
  same_joined f g ih a ts lf lg (Some s) e =
      let len : length ts ≡ suc (length s.1) = ap length (sign_is (joins c) ts s e).is in
      same_behind f g ih s.0 a s.1 (omega arith) (omega arith) (next s.1) refl

  nothing_behind : (f : ℕ) (a : Expr) → others_in next c f a [] ≡ Ok (a, [])
  unfolding sign_at
  nothing_behind zero a = refl
  nothing_behind (suc f) a = refl

  enough : (f g : ℕ) → Same f g
  enough zero g a [] lf lg = sym (nothing_behind g a)
  enough zero g a (t ∷ ts) lf lg = absurd (omega arith)
  enough (suc f) zero a [] lf lg = nothing_behind (suc f) a
  enough (suc f) zero a (t ∷ ts) lf lg = absurd (omega arith)
  enough (suc f) (suc g) a ts lf lg = same_joined f g (enough f g) a ts lf lg (sign_at (joins c) ts) refl

  pub others_none : (a : Expr) (ts : List Kind) → sign_at (joins c) ts ≡ None → others_at next c a ts ≡ Ok (a, ts)
  unfolding others_at
  others_none a [] e = refl
  others_none a (t ∷ ts) e = ap (λ (o : Option (Op × List Kind)). joined_at (λ b us. others_in next c (length ts) b us) next a (t ∷ ts) o) e

  others_behind : (f : ℕ) (o : Op) (a : Expr) (us : List Kind) → length us ≤ f → (r : Read Expr) → next us ≡ r
      → (r >>= λ x. others_in next c f (tree.Binary o a x.0) x.1) ≡ (r >>= λ x. others_at next c (tree.Binary o a x.0) x.1)
  unfolding others_at
  others_behind f o a us lf (Err e) h = refl
  others_behind f o a us lf (Ok x) h =
      let short : length x.1 < length us = shortens us x.1 x.0 h in
      enough f (length x.1) (tree.Binary o a x.0) x.1 (omega arith) (omega arith)

  pub others_some : (a : Expr) (ts us : List Kind) (o : Op) → sign_at (joins c) ts ≡ Some (o, us) → others_at next c a ts ≡ (next us >>= λ x. others_at next c (tree.Binary o a x.0) x.1)
  unfolding others_at sign_at
  others_some a [] us o e = absurd cc
  others_some a (t ∷ ts) us o e =
      let len : length (t ∷ ts) ≡ suc (length us) = ap length (sign_is (joins c) (t ∷ ts) (o, us) e).is in
      ap (λ (x : Option (Op × List Kind)). joined_at (λ b vs. others_in next c (length ts) b vs) next a (t ∷ ts) x) e
      ∙ others_behind (length ts) o a us (omega arith) (next us) refl

  pub others_ok : (a b : Expr) (ts us vs : List Kind) (o : Op) → sign_at (joins c) ts ≡ Some (o, us) → next us ≡ Ok (b, vs) → others_at next c a ts ≡ others_at next c (tree.Binary o a b) vs
  others_ok a b ts us vs o e h = others_some a ts us o e ∙ ap (λ (r : Read Expr). r >>= λ x. others_at next c (tree.Binary o a x.0) x.1) h

  abbrev with_right : Op → Expr → Expr × List Kind → Read Expr
  with_right o a x = Ok (tree.Binary o a x.0, x.1)

  abbrev with_others : Op → Expr → Expr × List Kind → Read Expr
  with_others o a x = others_at next c (tree.Binary o a x.0) x.1

  -- one more operand, and then the others
  pub others_joined : (a b : Expr) (ts us vs : List Kind) (o : Op) → sign_at (joins c) ts ≡ Some (o, us) → compared_at next a [] (Some (o, us)) ≡ Ok (b, vs) → others_at next c a ts ≡ others_at next c b vs
  others_joined a b ts us vs o e h = others_some a ts us o e ∙ by_read (next us) h
    where
      by_read : (r : Read Expr) → (r >>= with_right o a) ≡ Ok (b, vs) → (r >>= with_others o a) ≡ others_at next c b vs
      by_read (Ok x) h = let same : (tree.Binary o a x.0, x.1) ≡ (b, vs) = cc in ap (λ (y : Expr × List Kind). others_at next c y.0 y.1) same
      by_read (Err stop) h = absurd cc

  stops_joined : (a : Expr) (ts us : List Kind) (o : Op) (stop : Stop) → sign_at (joins c) ts ≡ Some (o, us) → compared_at next a [] (Some (o, us)) ≡ Err stop → others_at next c a ts ≡ Err stop
  stops_joined a ts us o stop e h = others_some a ts us o e ∙ by_read (next us) h
    where
      by_read : (r : Read Expr) → (r >>= with_right o a) ≡ Err stop → (r >>= with_others o a) ≡ Err stop
      by_read (Ok x) h = absurd cc
      by_read (Err found) h = let same : found ≡ stop = cc in ap (λ (s : Stop). Err s) same

  pub others_stop : (a : Expr) (ts us : List Kind) (o : Op) (f : Fault) → sign_at (joins c) ts ≡ Some (o, us) → Fails f (compared_at next a [] (Some (o, us))) → Fails f (others_at next c a ts)
  others_stop a ts us o faults.NoMemory e h = tt
  others_stop a ts us o (faults.Syntax x) e h = stops_joined a ts us o (Syntax (kinds x.now)) e h
  others_stop a ts us o (faults.TooDeep x) e h = stops_joined a ts us o (TooDeep (kinds x.now)) e h
