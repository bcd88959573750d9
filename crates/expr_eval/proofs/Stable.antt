-- A reading stays as it is when tokens come behind, or levels are added, up to the end of what it saw.
use Rattle.std.proofs.Common.{◌≡◌, ℕ, zero, suc, ◌<◌, ◌≤◌, Bool, true, false, cond, List, [], ◌∷◌, ◌++◌, length, Option, Some, None, Ok, Err, refl, sym, ap, subst, arith}
use Rattle.std.proofs.lemmas.List.{length-append}
use Rattle.expr_eval.specs.declared.token.Kind.{Kind}
use Rattle.expr_eval.specs.declared.token.Kind.TheVariants as token
use Rattle.expr_eval.specs.declared.tree.Func.{Func}
use Rattle.expr_eval.specs.declared.tree.Op.{Op}
use Rattle.expr_eval.specs.declared.tree.Op.TheVariants.{Or, And, Equal, Differ, AtMost, AtLeast, Below, Above, Plus, Minus, Times}
use Rattle.expr_eval.specs.declared.token.Chain.{Chain}
use Rattle.expr_eval.specs.declared.token.Chain.TheVariants.{Ors, Ands, Sums, Products}
use Rattle.expr_eval.specs.declared.tree.Expr.{Expr}
use Rattle.expr_eval.specs.declared.tree.Expr.TheVariants as tree
use Rattle.expr_eval.specs.Grammar.{Sort, Chained, Negation, Comparison, Signed, Item, Group, joins, compares}
use Rattle.ft_base.specs.Reading.{◌>>=◌}
use Rattle.expr_eval.specs.Reading.{Syntax, TooDeep, Read, Reader, sign_at, joined_at, others_in, others_at, chain_at, opened_at, closed_at, group_at, parens_at, item_at, signed_at, compared_at, product_at, sum_at, comparison_at, negation_at, sort_at, deeper}
use Rattle.expr_eval.proofs.Sound.{Spelled, read_spelled, sign_is, IsWhole, a_chain, a_negation, a_signed, an_item}
use Rattle.expr_eval.proofs.Chains.{Shortens, read_shortens, others_none, others_some}

-- the tokens from where a reading stopped
abbrev pub left : Read Expr → List Kind
left (Ok x) = x.1
left (Err (Syntax rest)) = rest
left (Err (TooDeep rest)) = rest

-- the second reading is the first with more tokens behind; where D doesn't hold, a fault of depth may differ
abbrev pub Extends : Type 0 → List Kind → Read Expr → Read Expr → Type 0
Extends D more (Ok x) r = r ≡ Ok (x.0, x.1 ++ more)
Extends D more (Err (Syntax rest)) r = r ≡ Err (Syntax (rest ++ more))
Extends D more (Err (TooDeep rest)) r = D → r ≡ Err (TooDeep (rest ++ more))

-- where all tokens were seen and more come, only that no less is read
abbrev pub KeepsBy : Type 0 → List Kind → List Kind → Read Expr → Type 0
KeepsBy same (t ∷ rest) more r = same
KeepsBy same [] [] r = same
KeepsBy same [] (t ∷ more) r = length (left r) ≤ length (t ∷ more)

abbrev pub Keeps : Type 0 → List Kind → Read Expr → Read Expr → Type 0
Keeps D more r r' = KeepsBy (Extends D more r r') (left r) more r'

module _ (D : Type 0) where
  -- what goes on behind: no more tokens than before are left
  abbrev Lessens : (Expr × List Kind → Read Expr) → Type 0
  Lessens f = (a : Expr) (rest : List Kind) → length (left (f (a, rest))) ≤ length rest

  lessens_bind : (f : Expr × List Kind → Read Expr) → Lessens f → (r : Read Expr) (n : ℕ) → length (left r) ≤ n → length (left (r >>= f)) ≤ n
  lessens_bind f h (Ok x) n l = let k : length (left (f (x.0, x.1))) ≤ length x.1 = h x.0 x.1 in omega arith
  lessens_bind f h (Err (Syntax rest)) n l = l
  lessens_bind f h (Err (TooDeep rest)) n l = l

  -- at the end of the tokens nothing is left
  nothing_left : (more : List Kind) (r r' : Read Expr) → length (left r) ≤ 0 → (t : Kind) → length (left r') ≤ length (t ∷ more) → Keeps D (t ∷ more) r r'
  nothing_left more (Ok (a, [])) r' h t l = l
  nothing_left more (Ok (a, x ∷ xs)) r' h t l = absurd (omega arith)
  nothing_left more (Err (Syntax [])) r' h t l = l
  nothing_left more (Err (Syntax (x ∷ xs))) r' h t l = absurd (omega arith)
  nothing_left more (Err (TooDeep [])) r' h t l = l
  nothing_left more (Err (TooDeep (x ∷ xs))) r' h t l = absurd (omega arith)

  -- every claim on two readings is one on how they go on
  pub keeps_bind : (more : List Kind) (f f' : Expr × List Kind → Read Expr) → Lessens f → Lessens f' → (r r' : Read Expr) → Keeps D more r r'
      → ((a : Expr) (rest : List Kind) → r ≡ Ok (a, rest) → Keeps D more (f (a, rest)) (f' (a, rest ++ more)))
      → Keeps D more (r >>= f) (r' >>= f')
  keeps_bind more f f' lf lf' (Ok (a, t ∷ rest)) r' h g = rw h (g a (t ∷ rest) refl)
  keeps_bind [] f f' lf lf' (Ok (a, [])) r' h g = rw h (g a [] refl)
  keeps_bind (t ∷ more) f f' lf lf' (Ok (a, [])) r' h g = nothing_left more (f (a, [])) (r' >>= f') (lf a []) t (lessens_bind f' lf' r' (length (t ∷ more)) h)
  keeps_bind more f f' lf lf' (Err (Syntax (t ∷ rest))) r' h g = rw h refl
  keeps_bind [] f f' lf lf' (Err (Syntax [])) r' h g = rw h refl
  keeps_bind (t ∷ more) f f' lf lf' (Err (Syntax [])) r' h g = lessens_bind f' lf' r' (length (t ∷ more)) h
  keeps_bind more f f' lf lf' (Err (TooDeep (t ∷ rest))) r' h g = λ d. ap (λ (r : Read Expr). r >>= f') (h d)
  keeps_bind [] f f' lf lf' (Err (TooDeep [])) r' h g = λ d. ap (λ (r : Read Expr). r >>= f') (h d)
  keeps_bind (t ∷ more) f f' lf lf' (Err (TooDeep [])) r' h g = lessens_bind f' lf' r' (length (t ∷ more)) h

spelled_lessens : (n : ℕ) (s : Sort) (ts : List Kind) (r : Read Expr) → Spelled n s ts r → length (left r) ≤ length ts
spelled_lessens n s ts (Ok x) h = let e : length ts ≡ length (h.front ++ x.1) = ap length h.parts in omega (arith, length-append h.front x.1)
spelled_lessens n s ts (Err (Syntax rest)) h = let e : length ts ≡ length (h.front ++ rest) = ap length h.parts in omega (arith, length-append h.front rest)
spelled_lessens n s ts (Err (TooDeep rest)) h = let e : length ts ≡ length (h.front ++ rest) = ap length h.parts in omega (arith, length-append h.front rest)

pub read_lessens : (n : ℕ) (s : Sort) → IsWhole s → (ts : List Kind) → length (left (sort_at (deeper n) s ts)) ≤ length ts
read_lessens n s w ts = spelled_lessens n s ts (sort_at (deeper n) s ts) (read_spelled n s w ts)

module _ (next : Reader) (c : Chain) (low : (ts : List Kind) → length (left (next ts)) ≤ length ts) where
  joined_lessens : (others : Expr → Reader) → ((b : Expr) (us : List Kind) → length (left (others b us)) ≤ length us) → (a : Expr) (ts : List Kind) (found : Option (Op × List Kind)) → sign_at (joins c) ts ≡ found
      → length (left (joined_at others next a ts found)) ≤ length ts
  joined_lessens others ih a ts None e = omega arith
  joined_lessens others ih a ts (Some s) e =
      let len : length ts ≡ suc (length s.1) = ap length (sign_is (joins c) ts s e).is in
      let l : length (left (next s.1)) ≤ length s.1 = low s.1 in
      lessens_bind (Unit {0}) (λ x. others (tree.Binary s.0 a x.0) x.1) (λ b rest. ih (tree.Binary s.0 a b) rest) (next s.1) (length ts) (omega arith)

  others_in_lessens : (fuel : ℕ) (a : Expr) (ts : List Kind) → length (left (others_in next c fuel a ts)) ≤ length ts
  others_in_lessens zero a ts = omega arith
  others_in_lessens (suc fuel) a ts = joined_lessens (λ b us. others_in next c fuel b us) (others_in_lessens fuel) a ts (sign_at (joins c) ts) refl

  pub others_lessens : (a : Expr) (ts : List Kind) → length (left (others_at next c a ts)) ≤ length ts
  unfolding others_at
  others_lessens a ts = others_in_lessens (length ts) a ts

closed_lessens : (a : Expr) (ts : List Kind) → length (left (closed_at a ts)) ≤ length ts
unfolding closed_at
closed_lessens a [] = omega arith
closed_lessens a (token.Sign o ∷ ts) = omega arith
closed_lessens a (token.Number x ∷ ts) = omega arith
closed_lessens a (token.Text x ∷ ts) = omega arith
closed_lessens a (token.Property x ∷ ts) = omega arith
closed_lessens a (token.Name x ∷ ts) = omega arith
closed_lessens a (token.Open ∷ ts) = omega arith
closed_lessens a (token.Close ∷ ts) = omega arith
closed_lessens a (token.Bad ∷ ts) = omega arith
closed_lessens a (token.Bang ∷ ts) = omega arith

compared_lessens : (next : Reader) (low : (ts : List Kind) → length (left (next ts)) ≤ length ts) (a : Expr) (ts : List Kind) (found : Option (Op × List Kind)) → sign_at compares ts ≡ found → length (left (compared_at next a ts found)) ≤ length ts
compared_lessens next low a ts None e = omega arith
compared_lessens next low a ts (Some s) e =
    let len : length ts ≡ suc (length s.1) = ap length (sign_is compares ts s e).is in
    let l : length (left (next s.1)) ≤ length s.1 = low s.1 in
    lessens_bind (Unit {0}) (λ x. Ok (tree.Binary s.0 a x.0, x.1)) (λ b rest. omega arith) (next s.1) (length ts) (omega arith)

module _ (D : Type 0) (more : List Kind) where
  keeps_ok : (a : Expr) (rest : List Kind) (r : Read Expr) → r ≡ Ok (a, rest ++ more) → Keeps D more (Ok (a, rest)) r
  keeps_ok a (t ∷ rest) r e = e
  keeps_ok a [] r e = by_more more e
    where
      by_more : (m : List Kind) → r ≡ Ok (a, m) → KeepsBy (r ≡ Ok (a, m)) [] m r
      by_more [] e = e
      by_more (t ∷ m) e = rw e (omega arith)

  keeps_syntax : (rest : List Kind) (r : Read Expr) → r ≡ Err (Syntax (rest ++ more)) → Keeps D more (Err (Syntax rest)) r
  keeps_syntax (t ∷ rest) r e = e
  keeps_syntax [] r e = by_more more e
    where
      by_more : (m : List Kind) → r ≡ Err (Syntax m) → KeepsBy (r ≡ Err (Syntax m)) [] m r
      by_more [] e = e
      by_more (t ∷ m) e = rw e (omega arith)

  -- signs in front
  sign_more : (p : Op → Bool) (t : Kind) (ts : List Kind) (s : Op × List Kind) → sign_at p (t ∷ ts) ≡ Some s → sign_at p (t ∷ ts ++ more) ≡ Some (s.0, s.1 ++ more)
  unfolding sign_at
  sign_more p (token.Sign o) ts s e = by_test (p o) e
    where
      by_test : (b : Bool) → cond {A = Option (Op × List Kind)} b (Some (o, ts)) None ≡ Some s → cond {A = Option (Op × List Kind)} b (Some (o, ts ++ more)) None ≡ Some (s.0, s.1 ++ more)
      by_test true e = let same : (o, ts) ≡ s = cc in ap (λ (x : Op × List Kind). Some (x.0, x.1 ++ more)) same
      by_test false e = absurd cc
  sign_more p (token.Number x) ts s e = absurd cc
  sign_more p (token.Text x) ts s e = absurd cc
  sign_more p (token.Property x) ts s e = absurd cc
  sign_more p (token.Name x) ts s e = absurd cc
  sign_more p token.Open ts s e = absurd cc
  sign_more p token.Close ts s e = absurd cc
  sign_more p token.Bad ts s e = absurd cc
  sign_more p token.Bang ts s e = absurd cc

  none_more : (p : Op → Bool) (t : Kind) (ts : List Kind) → sign_at p (t ∷ ts) ≡ None → sign_at p (t ∷ ts ++ more) ≡ None
  unfolding sign_at
  none_more p (token.Sign o) ts e = by_test (p o) e
    where
      by_test : (b : Bool) → cond {A = Option (Op × List Kind)} b (Some (o, ts)) None ≡ None → cond {A = Option (Op × List Kind)} b (Some (o, ts ++ more)) None ≡ None
      by_test true e = absurd cc
      by_test false e = refl
  none_more p (token.Number x) ts e = refl
  none_more p (token.Text x) ts e = refl
  none_more p (token.Property x) ts e = refl
  none_more p (token.Name x) ts e = refl
  none_more p token.Open ts e = refl
  none_more p token.Close ts e = refl
  none_more p token.Bad ts e = refl
  none_more p token.Bang ts e = refl

  keeps_along : (q q' r r' : Read Expr) → r ≡ q → r' ≡ q' → Keeps D more q q' → Keeps D more r r'
  keeps_along q q' r r' e e' h = subst (λ (x : Read Expr). Keeps D more x r') (sym e) (subst (λ (x : Read Expr). Keeps D more q x) (sym e') h)

module _ (D : Type 0) (more : List Kind) (next next' : Reader) (c : Chain) (short : Shortens next) (short' : Shortens next')
    (low : (ts : List Kind) → length (left (next ts)) ≤ length ts) (low' : (ts : List Kind) → length (left (next' ts)) ≤ length ts)
    (keep : (ts : List Kind) → Keeps D more (next ts) (next' (ts ++ more))) where
  others_end : (a : Expr) (m : List Kind) → Keeps D m (Ok (a, [])) (others_at next' c a m)
  unfolding sign_at
  others_end a [] = others_none next' c short' a [] refl
  others_end a (t ∷ m) = others_lessens next' c low' a (t ∷ m)

  abbrev OthersKeep : ℕ → Type 0
  OthersKeep f = (a : Expr) (ts : List Kind) → length ts ≤ f → Keeps D more (others_at next c a ts) (others_at next' c a (ts ++ more))

  others_joined : (f : ℕ) → OthersKeep f → (a : Expr) (t : Kind) (ts : List Kind) → length ts ≤ f → (found : Option (Op × List Kind)) → sign_at (joins c) (t ∷ ts) ≡ found
      → Keeps D more (others_at next c a (t ∷ ts)) (others_at next' c a (t ∷ ts ++ more))
  others_joined f ih a t ts l None e =
      keeps_along D more (Ok (a, t ∷ ts)) (Ok (a, t ∷ ts ++ more)) (others_at next c a (t ∷ ts)) (others_at next' c a (t ∷ ts ++ more))
      (others_none next c short a (t ∷ ts) e) (others_none next' c short' a (t ∷ ts ++ more) (none_more D more (joins c) t ts e)) (keeps_ok D more a (t ∷ ts) (Ok (a, t ∷ ts ++ more)) refl)
  others_joined f ih a t ts l (Some s) e =
      let len : length (t ∷ ts) ≡ suc (length s.1) = ap length (sign_is (joins c) (t ∷ ts) s e).is in
      keeps_along D more (next s.1 >>= λ x. others_at next c (tree.Binary s.0 a x.0) x.1) (next' (s.1 ++ more) >>= λ x. others_at next' c (tree.Binary s.0 a x.0) x.1) (others_at next c a (t ∷ ts)) (others_at next' c a (t ∷ ts ++ more))
      (others_some next c short a (t ∷ ts) s.1 s.0 e) (others_some next' c short' a (t ∷ ts ++ more) (s.1 ++ more) s.0 (sign_more D more (joins c) t ts s e))
      (keeps_bind D more (λ x. others_at next c (tree.Binary s.0 a x.0) x.1) (λ x. others_at next' c (tree.Binary s.0 a x.0) x.1)
      (λ b rest. others_lessens next c low (tree.Binary s.0 a b) rest) (λ b rest. others_lessens next' c low' (tree.Binary s.0 a b) rest)
      (next s.1) (next' (s.1 ++ more)) (keep s.1)
      (λ b rest h. let k : length rest < length s.1 = short s.1 rest b h in ih (tree.Binary s.0 a b) rest (omega arith)))

  others_keep : (f : ℕ) → OthersKeep f
  unfolding sign_at
  others_keep f a [] l = keeps_along D more (Ok (a, [])) (others_at next' c a more) (others_at next c a []) (others_at next' c a more) (others_none next c short a [] refl) refl (others_end a more)
  others_keep zero a (t ∷ ts) l = absurd (omega arith)
  others_keep (suc f) a (t ∷ ts) l = others_joined f (others_keep f) a t ts (omega arith) (sign_at (joins c) (t ∷ ts)) refl

  pub chain_keeps : (ts : List Kind) → Keeps D more (chain_at next c ts) (chain_at next' c (ts ++ more))
  unfolding chain_at
  chain_keeps ts = keeps_bind D more (λ x. others_at next c x.0 x.1) (λ x. others_at next' c x.0 x.1)
      (λ b rest. others_lessens next c low b rest) (λ b rest. others_lessens next' c low' b rest) (next ts) (next' (ts ++ more)) (keep ts)
      (λ b rest h. others_keep (length rest) b rest (omega arith))

-- ---- levels

-- what the inner level of each keeps
abbrev pub DeepersKeep : Type 0 → List Kind → ℕ → ℕ → Type 0
DeepersKeep D more zero zero = Unit {0}
DeepersKeep D more zero (suc m) = D → ⊥
DeepersKeep D more (suc n) zero = ⊥
DeepersKeep D more (suc n) (suc m) = (s : Sort) → IsWhole s → (ts : List Kind) → Keeps D more (sort_at (deeper n) s ts) (sort_at (deeper m) s (ts ++ more))

module _ (D : Type 0) (more : List Kind) where
  closed_end : (a : Expr) (m : List Kind) → Keeps D m (Err (Syntax [])) (closed_at a m)
  unfolding closed_at
  closed_end a [] = refl
  closed_end a (t ∷ m) = closed_lessens a (t ∷ m)

  closed_keeps : (a : Expr) (ts : List Kind) → Keeps D more (closed_at a ts) (closed_at a (ts ++ more))
  unfolding closed_at
  closed_keeps a [] = closed_end a more
  closed_keeps a (token.Close ∷ ts) = keeps_ok D more a ts (Ok (a, ts ++ more)) refl
  closed_keeps a (token.Open ∷ ts) = refl
  closed_keeps a (token.Bang ∷ ts) = refl
  closed_keeps a (token.Bad ∷ ts) = refl
  closed_keeps a (token.Sign o ∷ ts) = refl
  closed_keeps a (token.Number x ∷ ts) = refl
  closed_keeps a (token.Text x ∷ ts) = refl
  closed_keeps a (token.Property x ∷ ts) = refl
  closed_keeps a (token.Name x ∷ ts) = refl

  group_lessens : (n : ℕ) (ts : List Kind) → length (left (group_at (λ s. sort_at (deeper n) s) ts)) ≤ length ts
  unfolding group_at
  group_lessens n [] = omega arith
  group_lessens n (token.Open ∷ ts) =
      let l : length (left (sort_at (deeper n) (Chained Ors) ts)) ≤ length ts = read_lessens n (Chained Ors) (a_chain Ors) ts in
      lessens_bind D (λ x. closed_at x.0 x.1) closed_lessens (sort_at (deeper n) (Chained Ors) ts) (suc (length ts)) (omega arith)
  group_lessens n (token.Number x ∷ ts) = omega arith
  group_lessens n (token.Text x ∷ ts) = omega arith
  group_lessens n (token.Property x ∷ ts) = omega arith
  group_lessens n (token.Name x ∷ ts) = omega arith
  group_lessens n (token.Close ∷ ts) = omega arith
  group_lessens n (token.Bad ∷ ts) = omega arith
  group_lessens n (token.Bang ∷ ts) = omega arith
  group_lessens n (token.Sign o ∷ ts) = omega arith

  group_end : (n : ℕ) (m : List Kind) → Keeps D m (Err (Syntax [])) (group_at (λ s. sort_at (deeper n) s) m)
  unfolding group_at
  group_end n [] = refl
  group_end n (t ∷ m) = group_lessens n (t ∷ m)

  group_keeps : (n m : ℕ) → DeepersKeep D more (suc n) (suc m) → (ts : List Kind) → Keeps D more (group_at (λ s. sort_at (deeper n) s) ts) (group_at (λ s. sort_at (deeper m) s) (ts ++ more))
  unfolding group_at
  group_keeps n m h [] = group_end m more
  group_keeps n m h (token.Open ∷ ts) = keeps_bind D more (λ x. closed_at x.0 x.1) (λ x. closed_at x.0 x.1) closed_lessens closed_lessens (sort_at (deeper n) (Chained Ors) ts) (sort_at (deeper m) (Chained Ors) (ts ++ more)) (h (Chained Ors) (a_chain Ors) ts)
      (λ a rest e. closed_keeps a rest)
  group_keeps n m h (token.Number x ∷ ts) = refl
  group_keeps n m h (token.Text x ∷ ts) = refl
  group_keeps n m h (token.Property x ∷ ts) = refl
  group_keeps n m h (token.Name x ∷ ts) = refl
  group_keeps n m h (token.Close ∷ ts) = refl
  group_keeps n m h (token.Bad ∷ ts) = refl
  group_keeps n m h (token.Bang ∷ ts) = refl
  group_keeps n m h (token.Sign o ∷ ts) = refl

  call_keeps : (n m : ℕ) → DeepersKeep D more n m → (f : Func) (ts : List Kind)
      → Keeps D more (parens_at (deeper n) (token.Name f ∷ ts) ts >>= λ x. Ok (tree.Call f x.0, x.1)) (parens_at (deeper m) (token.Name f ∷ ts ++ more) (ts ++ more) >>= λ x. Ok (tree.Call f x.0, x.1))
  call_keeps zero zero h f ts = λ d. refl
  call_keeps zero (suc m) h f ts = λ d. absurd (h d)
  call_keeps (suc n) zero h f ts = absurd h
  call_keeps (suc n) (suc m) h f ts = keeps_bind D more (λ x. Ok (tree.Call f x.0, x.1)) (λ x. Ok (tree.Call f x.0, x.1)) (λ a rest. omega arith) (λ a rest. omega arith)
      (group_at (λ s. sort_at (deeper n) s) ts) (group_at (λ s. sort_at (deeper m) s) (ts ++ more)) (group_keeps n m h ts) (λ a rest e. keeps_ok D more (tree.Call f a) rest (Ok (tree.Call f a, rest ++ more)) refl)

  open_keeps : (n m : ℕ) → DeepersKeep D more n m → (ts : List Kind)
      → Keeps D more (parens_at (deeper n) (token.Open ∷ ts) (token.Open ∷ ts)) (parens_at (deeper m) (token.Open ∷ ts ++ more) (token.Open ∷ ts ++ more))
  open_keeps zero zero h ts = λ d. refl
  open_keeps zero (suc m) h ts = λ d. absurd (h d)
  open_keeps (suc n) zero h ts = absurd h
  open_keeps (suc n) (suc m) h ts = group_keeps n m h (token.Open ∷ ts)

  item_end : (m : ℕ) (x : List Kind) → Keeps D x (Err (Syntax [])) (item_at (deeper m) x)
  unfolding item_at
  item_end m [] = refl
  item_end m (t ∷ x) = read_lessens m Item an_item (t ∷ x)

  item_keeps : (n m : ℕ) → DeepersKeep D more n m → (ts : List Kind) → Keeps D more (item_at (deeper n) ts) (item_at (deeper m) (ts ++ more))
  unfolding item_at
  item_keeps n m h [] = item_end m more
  item_keeps n m h (token.Number x ∷ ts) = keeps_ok D more (tree.Num x) ts (Ok (tree.Num x, ts ++ more)) refl
  item_keeps n m h (token.Text x ∷ ts) = keeps_ok D more (tree.Text x) ts (Ok (tree.Text x, ts ++ more)) refl
  item_keeps n m h (token.Property x ∷ ts) = keeps_ok D more (tree.Prop x) ts (Ok (tree.Prop x, ts ++ more)) refl
  item_keeps n m h (token.Name f ∷ ts) = call_keeps n m h f ts
  item_keeps n m h (token.Open ∷ ts) = open_keeps n m h ts
  item_keeps n m h (token.Close ∷ ts) = refl
  item_keeps n m h (token.Bad ∷ ts) = refl
  item_keeps n m h (token.Bang ∷ ts) = refl
  item_keeps n m h (token.Sign o ∷ ts) = refl

  minus_keeps : (n m : ℕ) → DeepersKeep D more n m → (ts : List Kind)
      → Keeps D more (opened_at (deeper n) Signed (token.Sign Minus ∷ ts) ts >>= λ x. Ok (tree.Neg x.0, x.1)) (opened_at (deeper m) Signed (token.Sign Minus ∷ ts ++ more) (ts ++ more) >>= λ x. Ok (tree.Neg x.0, x.1))
  minus_keeps zero zero h ts = λ d. refl
  minus_keeps zero (suc m) h ts = λ d. absurd (h d)
  minus_keeps (suc n) zero h ts = absurd h
  minus_keeps (suc n) (suc m) h ts = keeps_bind D more (λ x. Ok (tree.Neg x.0, x.1)) (λ x. Ok (tree.Neg x.0, x.1)) (λ a rest. omega arith) (λ a rest. omega arith)
      (sort_at (deeper n) Signed ts) (sort_at (deeper m) Signed (ts ++ more)) (h Signed a_signed ts) (λ a rest e. keeps_ok D more (tree.Neg a) rest (Ok (tree.Neg a, rest ++ more)) refl)

  bang_keeps : (n m : ℕ) → DeepersKeep D more n m → (ts : List Kind)
      → Keeps D more (opened_at (deeper n) Negation (token.Bang ∷ ts) ts >>= λ x. Ok (tree.Not x.0, x.1)) (opened_at (deeper m) Negation (token.Bang ∷ ts ++ more) (ts ++ more) >>= λ x. Ok (tree.Not x.0, x.1))
  bang_keeps zero zero h ts = λ d. refl
  bang_keeps zero (suc m) h ts = λ d. absurd (h d)
  bang_keeps (suc n) zero h ts = absurd h
  bang_keeps (suc n) (suc m) h ts = keeps_bind D more (λ x. Ok (tree.Not x.0, x.1)) (λ x. Ok (tree.Not x.0, x.1)) (λ a rest. omega arith) (λ a rest. omega arith)
      (sort_at (deeper n) Negation ts) (sort_at (deeper m) Negation (ts ++ more)) (h Negation a_negation ts) (λ a rest e. keeps_ok D more (tree.Not a) rest (Ok (tree.Not a, rest ++ more)) refl)

  signed_end : (n m : ℕ) (x : List Kind) → Keeps D x (signed_at (deeper n) []) (signed_at (deeper m) x)
  unfolding signed_at item_at
  signed_end n m [] = refl
  signed_end n m (t ∷ x) = read_lessens m Signed a_signed (t ∷ x)

  signed_keeps : (n m : ℕ) → DeepersKeep D more n m → (ts : List Kind) → Keeps D more (signed_at (deeper n) ts) (signed_at (deeper m) (ts ++ more))
  unfolding signed_at
  signed_keeps n m h [] = signed_end n m more
  signed_keeps n m h (token.Sign Minus ∷ ts) = minus_keeps n m h ts
  signed_keeps n m h (token.Sign Or ∷ ts) = item_keeps n m h (token.Sign Or ∷ ts)
  signed_keeps n m h (token.Sign And ∷ ts) = item_keeps n m h (token.Sign And ∷ ts)
  signed_keeps n m h (token.Sign Equal ∷ ts) = item_keeps n m h (token.Sign Equal ∷ ts)
  signed_keeps n m h (token.Sign Below ∷ ts) = item_keeps n m h (token.Sign Below ∷ ts)
  signed_keeps n m h (token.Sign Differ ∷ ts) = item_keeps n m h (token.Sign Differ ∷ ts)
  signed_keeps n m h (token.Sign AtMost ∷ ts) = item_keeps n m h (token.Sign AtMost ∷ ts)
  signed_keeps n m h (token.Sign AtLeast ∷ ts) = item_keeps n m h (token.Sign AtLeast ∷ ts)
  signed_keeps n m h (token.Sign Above ∷ ts) = item_keeps n m h (token.Sign Above ∷ ts)
  signed_keeps n m h (token.Sign Plus ∷ ts) = item_keeps n m h (token.Sign Plus ∷ ts)
  signed_keeps n m h (token.Sign Times ∷ ts) = item_keeps n m h (token.Sign Times ∷ ts)
  signed_keeps n m h (token.Number x ∷ ts) = item_keeps n m h (token.Number x ∷ ts)
  signed_keeps n m h (token.Text x ∷ ts) = item_keeps n m h (token.Text x ∷ ts)
  signed_keeps n m h (token.Property x ∷ ts) = item_keeps n m h (token.Property x ∷ ts)
  signed_keeps n m h (token.Name x ∷ ts) = item_keeps n m h (token.Name x ∷ ts)
  signed_keeps n m h (token.Open ∷ ts) = item_keeps n m h (token.Open ∷ ts)
  signed_keeps n m h (token.Close ∷ ts) = item_keeps n m h (token.Close ∷ ts)
  signed_keeps n m h (token.Bad ∷ ts) = item_keeps n m h (token.Bad ∷ ts)
  signed_keeps n m h (token.Bang ∷ ts) = item_keeps n m h (token.Bang ∷ ts)

  products_keep : (n m : ℕ) → DeepersKeep D more n m → (ts : List Kind) → Keeps D more (product_at (deeper n) ts) (product_at (deeper m) (ts ++ more))
  products_keep n m h = chain_keeps D more (signed_at (deeper n)) (signed_at (deeper m)) Products (read_shortens n Signed a_signed) (read_shortens m Signed a_signed) (read_lessens n Signed a_signed) (read_lessens m Signed a_signed) (signed_keeps n m h)

  sums_keep : (n m : ℕ) → DeepersKeep D more n m → (ts : List Kind) → Keeps D more (sum_at (deeper n) ts) (sum_at (deeper m) (ts ++ more))
  sums_keep n m h = chain_keeps D more (product_at (deeper n)) (product_at (deeper m)) Sums (read_shortens n (Chained Products) (a_chain Products)) (read_shortens m (Chained Products) (a_chain Products))
      (read_lessens n (Chained Products) (a_chain Products)) (read_lessens m (Chained Products) (a_chain Products)) (products_keep n m h)

  low_sums : (n : ℕ) (ts : List Kind) → length (left (sum_at (deeper n) ts)) ≤ length ts
  low_sums n = read_lessens n (Chained Sums) (a_chain Sums)

  compared_joined : (n m : ℕ) → DeepersKeep D more n m → (a : Expr) (t : Kind) (ts : List Kind) (found : Option (Op × List Kind)) → sign_at compares (t ∷ ts) ≡ found
      → Keeps D more (compared_at (sum_at (deeper n)) a (t ∷ ts) found) (compared_at (sum_at (deeper m)) a (t ∷ ts ++ more) (sign_at compares (t ∷ ts ++ more)))
  compared_joined n m h a t ts None e = keeps_along D more (Ok (a, t ∷ ts)) (Ok (a, t ∷ ts ++ more)) (Ok (a, t ∷ ts)) (compared_at (sum_at (deeper m)) a (t ∷ ts ++ more) (sign_at compares (t ∷ ts ++ more)))
      refl (ap (λ (f : Option (Op × List Kind)). compared_at (sum_at (deeper m)) a (t ∷ ts ++ more) f) (none_more D more compares t ts e)) (keeps_ok D more a (t ∷ ts) (Ok (a, t ∷ ts ++ more)) refl)
  compared_joined n m h a t ts (Some s) e = keeps_along D more (compared_at (sum_at (deeper n)) a (t ∷ ts) (Some s)) (compared_at (sum_at (deeper m)) a (t ∷ ts ++ more) (Some (s.0, s.1 ++ more))) (compared_at (sum_at (deeper n)) a (t ∷ ts) (Some s)) (compared_at (sum_at (deeper m)) a (t ∷ ts ++ more) (sign_at compares (t ∷ ts ++ more)))
      refl (ap (λ (f : Option (Op × List Kind)). compared_at (sum_at (deeper m)) a (t ∷ ts ++ more) f) (sign_more D more compares t ts s e))
      (keeps_bind D more (λ x. Ok (tree.Binary s.0 a x.0, x.1)) (λ x. Ok (tree.Binary s.0 a x.0, x.1)) (λ b rest. omega arith) (λ b rest. omega arith)
      (sum_at (deeper n) s.1) (sum_at (deeper m) (s.1 ++ more)) (sums_keep n m h s.1) (λ b rest e. keeps_ok D more (tree.Binary s.0 a b) rest (Ok (tree.Binary s.0 a b, rest ++ more)) refl))

  compared_end : (n m : ℕ) (a : Expr) (x : List Kind) → Keeps D x (compared_at (sum_at (deeper n)) a [] (sign_at compares [])) (compared_at (sum_at (deeper m)) a x (sign_at compares x))
  unfolding sign_at
  compared_end n m a [] = refl
  compared_end n m a (t ∷ x) = compared_lessens (sum_at (deeper m)) (low_sums m) a (t ∷ x) (sign_at compares (t ∷ x)) refl

  compared_keeps : (n m : ℕ) → DeepersKeep D more n m → (a : Expr) (ts : List Kind) → Keeps D more (compared_at (sum_at (deeper n)) a ts (sign_at compares ts)) (compared_at (sum_at (deeper m)) a (ts ++ more) (sign_at compares (ts ++ more)))
  compared_keeps n m h a [] = compared_end n m a more
  compared_keeps n m h a (t ∷ ts) = compared_joined n m h a t ts (sign_at compares (t ∷ ts)) refl

  comparison_keeps : (n m : ℕ) → DeepersKeep D more n m → (ts : List Kind) → Keeps D more (comparison_at (deeper n) ts) (comparison_at (deeper m) (ts ++ more))
  unfolding comparison_at
  comparison_keeps n m h ts = keeps_bind D more (λ a. compared_at (sum_at (deeper n)) a.0 a.1 (sign_at compares a.1)) (λ a. compared_at (sum_at (deeper m)) a.0 a.1 (sign_at compares a.1))
      (λ a rest. compared_lessens (sum_at (deeper n)) (low_sums n) a rest (sign_at compares rest) refl) (λ a rest. compared_lessens (sum_at (deeper m)) (low_sums m) a rest (sign_at compares rest) refl)
      (sum_at (deeper n) ts) (sum_at (deeper m) (ts ++ more)) (sums_keep n m h ts) (λ a rest e. compared_keeps n m h a rest)

  negation_end : (n m : ℕ) (x : List Kind) → Keeps D x (negation_at (deeper n) []) (negation_at (deeper m) x)
  unfolding negation_at comparison_at chain_at signed_at item_at
  negation_end n m [] = refl
  negation_end n m (t ∷ x) = read_lessens m Negation a_negation (t ∷ x)

  negation_keeps : (n m : ℕ) → DeepersKeep D more n m → (ts : List Kind) → Keeps D more (negation_at (deeper n) ts) (negation_at (deeper m) (ts ++ more))
  unfolding negation_at
  negation_keeps n m h [] = negation_end n m more
  negation_keeps n m h (token.Bang ∷ ts) = bang_keeps n m h ts
  negation_keeps n m h (token.Number x ∷ ts) = comparison_keeps n m h (token.Number x ∷ ts)
  negation_keeps n m h (token.Text x ∷ ts) = comparison_keeps n m h (token.Text x ∷ ts)
  negation_keeps n m h (token.Property x ∷ ts) = comparison_keeps n m h (token.Property x ∷ ts)
  negation_keeps n m h (token.Name x ∷ ts) = comparison_keeps n m h (token.Name x ∷ ts)
  negation_keeps n m h (token.Open ∷ ts) = comparison_keeps n m h (token.Open ∷ ts)
  negation_keeps n m h (token.Close ∷ ts) = comparison_keeps n m h (token.Close ∷ ts)
  negation_keeps n m h (token.Bad ∷ ts) = comparison_keeps n m h (token.Bad ∷ ts)
  negation_keeps n m h (token.Sign o ∷ ts) = comparison_keeps n m h (token.Sign o ∷ ts)

  ands_keep : (n m : ℕ) → DeepersKeep D more n m → (ts : List Kind) → Keeps D more (chain_at (negation_at (deeper n)) Ands ts) (chain_at (negation_at (deeper m)) Ands (ts ++ more))
  ands_keep n m h = chain_keeps D more (negation_at (deeper n)) (negation_at (deeper m)) Ands (read_shortens n Negation a_negation) (read_shortens m Negation a_negation) (read_lessens n Negation a_negation) (read_lessens m Negation a_negation) (negation_keeps n m h)

  ors_keep : (n m : ℕ) → DeepersKeep D more n m → (ts : List Kind) → Keeps D more (chain_at (chain_at (negation_at (deeper n)) Ands) Ors ts) (chain_at (chain_at (negation_at (deeper m)) Ands) Ors (ts ++ more))
  ors_keep n m h = chain_keeps D more (chain_at (negation_at (deeper n)) Ands) (chain_at (negation_at (deeper m)) Ands) Ors (read_shortens n (Chained Ands) (a_chain Ands)) (read_shortens m (Chained Ands) (a_chain Ands)) (read_lessens n (Chained Ands) (a_chain Ands)) (read_lessens m (Chained Ands) (a_chain Ands)) (ands_keep n m h)

  sort_keeps : (n m : ℕ) → DeepersKeep D more n m → (s : Sort) → IsWhole s → (ts : List Kind) → Keeps D more (sort_at (deeper n) s ts) (sort_at (deeper m) s (ts ++ more))
  sort_keeps n m h (Chained Products) w = products_keep n m h
  sort_keeps n m h (Chained Sums) w = sums_keep n m h
  sort_keeps n m h (Chained Ands) w = ands_keep n m h
  sort_keeps n m h (Chained Ors) w = ors_keep n m h
  sort_keeps n m h Negation w = negation_keeps n m h
  sort_keeps n m h Comparison w = comparison_keeps n m h
  sort_keeps n m h Signed w = signed_keeps n m h
  sort_keeps n m h Item w = item_keeps n m h
  sort_keeps n m h Group w = elim w [ ]

-- so many levels more
abbrev pub above : ℕ → ℕ → ℕ
above zero k = k
above (suc n) k = suc (above n k)

levels_keep : (more : List Kind) (n k : ℕ) → DeepersKeep (k ≡ 0) more n (above n k)
levels_keep more zero zero = tt
levels_keep more zero (suc k) = λ e. absurd cc
levels_keep more (suc n) k = λ s w ts. sort_keeps (k ≡ 0) more n (above n k) (levels_keep more n k) s w ts

pub read_keeps : (more : List Kind) (n k : ℕ) (s : Sort) → IsWhole s → (ts : List Kind) → Keeps (k ≡ 0) more (sort_at (deeper n) s ts) (sort_at (deeper (above n k)) s (ts ++ more))
read_keeps more n k s w ts = sort_keeps (k ≡ 0) more n (above n k) (levels_keep more n k) s w ts
