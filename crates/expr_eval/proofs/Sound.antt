-- What is read is spelled; and what was read before a fault begins a sentence.
use Rattle.std.proofs.Common.{◌≡◌, ℕ, zero, suc, ◌<◌, Bool, true, false, cond, IsTrue, List, [], ◌∷◌, ◌++◌, length, Option, Some, None, Ok, Err, refl, sym, ap, subst, ◌∙◌, append_assoc, arith}
use Rattle.std.proofs.lemmas.List.{append-nil, length-append}
use Rattle.expr_eval.specs.declared.token.Kind.{Kind}
use Rattle.expr_eval.specs.declared.token.Kind.TheVariants as token
use Rattle.expr_eval.specs.declared.tree.Func.{Func}
use Rattle.expr_eval.specs.declared.tree.Op.{Op}
use Rattle.expr_eval.specs.declared.tree.Op.TheVariants.{Or, And, Equal, Differ, AtMost, AtLeast, Below, Above, Plus, Minus, Times}
use Rattle.expr_eval.specs.declared.token.Chain.{Chain}
use Rattle.expr_eval.specs.declared.token.Chain.TheVariants.{Ors, Ands, Sums, Products}
use Rattle.expr_eval.specs.declared.tree.Expr.{Expr}
use Rattle.expr_eval.specs.declared.tree.Expr.TheVariants as tree
use Rattle.expr_eval.specs.Grammar.{Sort, Chained, Negation, Comparison, Signed, Item, Group, operand, joins, compares, Spells, one, more, negated, plain, alone, compared, minus, unsigned, number, text, property, call, grouped, group}
use Rattle.ft_base.specs.Reading.{◌>>=◌}
use Rattle.expr_eval.specs.Reading.{Syntax, TooDeep, Read, Reader, Deeper, sign_at, joined_at, others_in, others_at, chain_at, opened_at, closed_at, group_at, parens_at, item_at, signed_at, compared_at, product_at, sum_at, comparison_at, negation_at, sort_at, deeper}

-- a sentence has a token
pub spells_some : {n : ℕ} {s : Sort} {ts : List Kind} {a : Expr} → Spells n s ts a → 0 < length ts
spells_some (one c d) = spells_some d
spells_some (more c o {ts = ts} {us = us} h d e) = omega (arith, length-append ts (token.Sign o ∷ us))
spells_some (negated d) = omega arith
spells_some (plain d) = spells_some d
spells_some (alone d) = spells_some d
spells_some (compared o {ts = ts} {us = us} h d e) = omega (arith, length-append ts (token.Sign o ∷ us))
spells_some (minus d) = omega arith
spells_some (unsigned d) = spells_some d
spells_some (number k) = omega arith
spells_some (text s) = omega arith
spells_some (property s) = omega arith
spells_some (call f d) = omega arith
spells_some (grouped d) = spells_some d
spells_some (group d) = omega arith

-- one more level does no harm
pub raise : {n : ℕ} {s : Sort} {ts : List Kind} {a : Expr} → Spells n s ts a → Spells (suc n) s ts a
raise (one c d) = one c (raise d)
raise (more c o h d e) = more c o h (raise d) (raise e)
raise (negated d) = negated (raise d)
raise (plain d) = plain (raise d)
raise (alone d) = alone (raise d)
raise (compared o h d e) = compared o h (raise d) (raise e)
raise (minus d) = minus (raise d)
raise (unsigned d) = unsigned (raise d)
raise (number k) = number k
raise (text s) = text s
raise (property s) = property s
raise (call f d) = call f (raise d)
raise (grouped d) = grouped (raise d)
raise (group d) = group (raise d)

-- the tokens begin a sentence of the sort
pub record Starts (n : ℕ) (s : Sort) (front : List Kind) : Type 0 where
  pub others : List Kind
  pub tree : Expr
  pub spells : Spells n s (front ++ others) tree

abbrev pub StartsDeep : ℕ → Sort → List Kind → List Kind → Type 0
StartsDeep n s front [] = ⊥
StartsDeep n s front (t ∷ rest) = Starts (suc n) s (front ++ t ∷ [])

pub record Took (n : ℕ) (s : Sort) (ts rest : List Kind) (a : Expr) : Type 0 where
  pub front : List Kind
  pub parts : ts ≡ front ++ rest
  pub spells : Spells n s front a

pub record Stuck (n : ℕ) (s : Sort) (ts rest : List Kind) : Type 0 where
  pub front : List Kind
  pub parts : ts ≡ front ++ rest
  pub starts : Starts n s front

pub record StuckDeep (n : ℕ) (s : Sort) (ts rest : List Kind) : Type 0 where
  pub front : List Kind
  pub parts : ts ≡ front ++ rest
  pub starts : Starts n s front
  pub goes_on : StartsDeep n s front rest

abbrev pub Spelled : ℕ → Sort → List Kind → Read Expr → Type 0
Spelled n s ts (Ok x) = Took n s ts x.1 x.0
Spelled n s ts (Err (Syntax rest)) = Stuck n s ts rest
Spelled n s ts (Err (TooDeep rest)) = StuckDeep n s ts rest

abbrev pub Reads : ℕ → Sort → Reader → Type 0
Reads n s r = (ts : List Kind) → Spelled n s ts (r ts)

-- whatever begins a sentence of one sort, behind these tokens begins one of the other
abbrev pub Wraps : ℕ → Sort → List Kind → ℕ → Sort → Type 0
Wraps n s before m s' = (front : List Kind) → Starts n s front → Starts m s' (before ++ front)

deep : (n m : ℕ) (s s' : Sort) (before front rest : List Kind) → Wraps (suc n) s before (suc m) s' → StartsDeep n s front rest → StartsDeep m s' (before ++ front) rest
deep n m s s' before front [] w h = h
deep n m s s' before front (t ∷ rest) w h = subst (λ (x : List Kind). Starts (suc m) s' x) (sym (append_assoc before front (t ∷ []))) (w (front ++ t ∷ []) h)

-- what comes of a reading that goes on behind another
pub bind_spelled : (n m : ℕ) (s s' : Sort) (before ts : List Kind) (f : Expr × List Kind → Read Expr) (r : Read Expr)
    → Spelled n s ts r → Wraps n s before m s' → Wraps (suc n) s before (suc m) s'
    → ((a : Expr) (rest : List Kind) → Took n s ts rest a → Spelled m s' (before ++ ts) (f (a, rest)))
    → Spelled m s' (before ++ ts) (r >>= f)
bind_spelled n m s s' before ts f (Ok x) h w v g = g x.0 x.1 h
bind_spelled n m s s' before ts f (Err (Syntax rest)) h w v g =
    record { front = before ++ h.front; parts = ap (λ (x : List Kind). before ++ x) h.parts ∙ sym (append_assoc before h.front rest); starts = w h.front h.starts }
bind_spelled n m s s' before ts f (Err (TooDeep rest)) h w v g =
    record { front = before ++ h.front; parts = ap (λ (x : List Kind). before ++ x) h.parts ∙ sym (append_assoc before h.front rest); starts = w h.front h.starts; goes_on = deep n m s s' before h.front rest v h.goes_on }

-- a sign that is found stands at the head and passes
pub record HasSign (p : Op → Bool) (ts : List Kind) (s : Op × List Kind) : Type 0 where
  pub is : ts ≡ token.Sign s.0 ∷ s.1
  pub passes : IsTrue (p s.0)

sign_if_is : (p : Op → Bool) (b : Bool) (o : Op) (ts : List Kind) (s : Op × List Kind) → p o ≡ b → cond b (Some (o, ts)) None ≡ Some s → HasSign p (token.Sign o ∷ ts) s
sign_if_is p true o ts s h e =
    let same : (o, ts) ≡ s = cc in
    subst (λ (x : Op × List Kind). HasSign p (token.Sign o ∷ ts) x) same (record { is = refl; passes = h })
sign_if_is p false o ts s h e = absurd cc

pub sign_is : (p : Op → Bool) (ts : List Kind) (s : Op × List Kind) → sign_at p ts ≡ Some s → HasSign p ts s
unfolding sign_at
sign_is p [] s e = absurd cc
sign_is p (token.Sign o ∷ ts) s e = sign_if_is p (p o) o ts s refl e
sign_is p (token.Number x ∷ ts) s e = absurd cc
sign_is p (token.Text x ∷ ts) s e = absurd cc
sign_is p (token.Property x ∷ ts) s e = absurd cc
sign_is p (token.Name x ∷ ts) s e = absurd cc
sign_is p (token.Open ∷ ts) s e = absurd cc
sign_is p (token.Close ∷ ts) s e = absurd cc
sign_is p (token.Bad ∷ ts) s e = absurd cc
sign_is p (token.Bang ∷ ts) s e = absurd cc

-- ---- chains

module _ (n : ℕ) (c : Chain) (next : Reader) (next_reads : Reads n (operand c) next) where
  behind : (o : Op) (front : List Kind) (a : Expr) → IsTrue (joins c o) → Spells n (Chained c) front a → Wraps n (operand c) (front ++ token.Sign o ∷ []) n (Chained c)
  behind o front a h d after w = record {
    others = w.others;
    tree = tree.Binary o a w.tree;
    spells = subst (λ (x : List Kind). Spells n (Chained c) x (tree.Binary o a w.tree)) (simp append_assoc) (more c o h d w.spells);
  }

  behind_deep : (o : Op) (front : List Kind) (a : Expr) → IsTrue (joins c o) → Spells n (Chained c) front a → Wraps (suc n) (operand c) (front ++ token.Sign o ∷ []) (suc n) (Chained c)
  behind_deep o front a h d after w = record {
    others = w.others;
    tree = tree.Binary o a w.tree;
    spells = subst (λ (x : List Kind). Spells (suc n) (Chained c) x (tree.Binary o a w.tree)) (simp append_assoc) (more c o h (raise d) w.spells);
  }

  took : (front ts : List Kind) (a : Expr) → Spells n (Chained c) front a → Took n (Chained c) (front ++ ts) ts a
  took front ts a d = record { front = front; parts = refl; spells = d }

  abbrev Follows : (Expr → Reader) → Type 0
  Follows others = (front ts : List Kind) (a : Expr) → Spells n (Chained c) front a → Spelled n (Chained c) (front ++ ts) (others a ts)

  joined_spelled : (others : Expr → Reader) → Follows others → (front ts : List Kind) (a : Expr) (found : Option (Op × List Kind)) → sign_at (joins c) ts ≡ found → Spells n (Chained c) front a
      → Spelled n (Chained c) (front ++ ts) (joined_at others next a ts found)
  joined_spelled others ih front ts a None e d = took front ts a d
  joined_spelled others ih front ts a (Some s) e d =
      let h = sign_is (joins c) ts s e in
      let whole : (front ++ token.Sign s.0 ∷ []) ++ s.1 ≡ front ++ ts = rw h.is (append_assoc front (token.Sign s.0 ∷ []) s.1) in
      subst (λ (x : List Kind). Spelled n (Chained c) x (next s.1 >>= λ x. others (tree.Binary s.0 a x.0) x.1)) whole
      (bind_spelled n n (operand c) (Chained c) (front ++ token.Sign s.0 ∷ []) s.1 (λ x. others (tree.Binary s.0 a x.0) x.1) (next s.1) (next_reads s.1)
      (behind s.0 front a h.passes d) (behind_deep s.0 front a h.passes d)
      (λ b rest t.
      let both : (front ++ token.Sign s.0 ∷ t.front) ++ rest ≡ (front ++ token.Sign s.0 ∷ []) ++ s.1 = rw t.parts (simp append_assoc) in
      subst (λ (x : List Kind). Spelled n (Chained c) x (others (tree.Binary s.0 a b) rest)) both
      (ih (front ++ token.Sign s.0 ∷ t.front) rest (tree.Binary s.0 a b) (more c s.0 h.passes d t.spells))))

  pub others_spelled : (fuel : ℕ) → Follows (others_in next c fuel)
  others_spelled zero front ts a d = took front ts a d
  others_spelled (suc fuel) front ts a d = joined_spelled (λ b us. others_in next c fuel b us) (others_spelled fuel) front ts a (sign_at (joins c) ts) refl d

  single : Wraps n (operand c) [] n (Chained c)
  single front w = record { others = w.others; tree = w.tree; spells = one c w.spells }

  single_deep : Wraps (suc n) (operand c) [] (suc n) (Chained c)
  single_deep front w = record { others = w.others; tree = w.tree; spells = one c w.spells }

  pub chain_spelled : Reads n (Chained c) (chain_at next c)
  unfolding chain_at others_at
  chain_spelled ts = bind_spelled n n (operand c) (Chained c) [] ts (λ x. others_at next c x.0 x.1) (next ts) (next_reads ts) single single_deep
      (λ a rest t. subst (λ (x : List Kind). Spelled n (Chained c) x (others_at next c a rest)) (sym t.parts) (others_spelled (length rest) t.front rest a (one c t.spells)))

-- ---- items

-- At level 0 a group has no sentence, so what is read there is only said of the other sorts.
pub data IsWhole : Sort → Type 0 where
  a_chain : (c : Chain) → IsWhole (Chained c)
  a_negation : IsWhole Negation
  a_comparison : IsWhole Comparison
  a_signed : IsWhole Signed
  an_item : IsWhole Item

abbrev pub DeeperReads : ℕ → Deeper → Type 0
DeeperReads n None = Unit {0}
DeeperReads zero (Some inner) = ⊥
DeeperReads (suc n) (Some inner) = (s : Sort) → IsWhole s → Reads n s (inner s)

spelled_item : (n : ℕ) → Spells n Item (token.Text [] ∷ []) (tree.Text [])
spelled_item n = text []

spelled_chain : (n : ℕ) (c : Chain) → Spells n (operand c) (token.Text [] ∷ []) (tree.Text []) → Starts n (Chained c) []
spelled_chain n c d = record { others = token.Text [] ∷ []; tree = tree.Text []; spells = one c d }

spelled_products : (n : ℕ) → Spells n (Chained Products) (token.Text [] ∷ []) (tree.Text [])
spelled_products n = one Products (unsigned (text []))

spelled_sums : (n : ℕ) → Spells n (Chained Sums) (token.Text [] ∷ []) (tree.Text [])
spelled_sums n = one Sums (spelled_products n)

spelled_negation : (n : ℕ) → Spells n Negation (token.Text [] ∷ []) (tree.Text [])
spelled_negation n = plain (alone (spelled_sums n))

spelled_ors : (n : ℕ) → Spells n (Chained Ors) (token.Text [] ∷ []) (tree.Text [])
spelled_ors n = one Ors (one Ands (spelled_negation n))

starts_item : (n : ℕ) → Starts n Item []
starts_item n = record { others = token.Text [] ∷ []; tree = tree.Text []; spells = text [] }

starts_ors : (n : ℕ) → Starts n (Chained Ors) []
starts_ors n = record { others = token.Text [] ∷ []; tree = tree.Text []; spells = spelled_ors n }

here : (n : ℕ) (s : Sort) (ts : List Kind) → Starts n s [] → Stuck n s ts ts
here n s ts w = record { front = []; parts = refl; starts = w }

-- an open group, and what it takes to close it
in_group : (n : ℕ) → Wraps n (Chained Ors) (token.Open ∷ []) (suc n) Group
in_group n front w = record {
  others = w.others ++ token.Close ∷ [];
  tree = w.tree;
  spells = subst (λ (x : List Kind). Spells (suc n) Group (token.Open ∷ x) w.tree) (append_assoc front w.others (token.Close ∷ [])) (group w.spells);
}

closed_spelled : (n : ℕ) (front ts : List Kind) (a : Expr) → Spells n (Chained Ors) front a → Spelled (suc n) Group (token.Open ∷ front ++ ts) (closed_at a ts)
unfolding closed_at
closed_spelled n front (token.Close ∷ ts) a d = record { front = token.Open ∷ front ++ token.Close ∷ []; parts = simp append_assoc; spells = group d }
closed_spelled n front [] a d = record { front = token.Open ∷ front; parts = refl; starts = in_group n front (record { others = []; tree = a; spells = rw append-nil d }) }
closed_spelled n front (token.Number x ∷ ts) a d = record { front = token.Open ∷ front; parts = refl; starts = in_group n front (record { others = []; tree = a; spells = rw append-nil d }) }
closed_spelled n front (token.Text x ∷ ts) a d = record { front = token.Open ∷ front; parts = refl; starts = in_group n front (record { others = []; tree = a; spells = rw append-nil d }) }
closed_spelled n front (token.Property x ∷ ts) a d = record { front = token.Open ∷ front; parts = refl; starts = in_group n front (record { others = []; tree = a; spells = rw append-nil d }) }
closed_spelled n front (token.Name x ∷ ts) a d = record { front = token.Open ∷ front; parts = refl; starts = in_group n front (record { others = []; tree = a; spells = rw append-nil d }) }
closed_spelled n front (token.Open ∷ ts) a d = record { front = token.Open ∷ front; parts = refl; starts = in_group n front (record { others = []; tree = a; spells = rw append-nil d }) }
closed_spelled n front (token.Bang ∷ ts) a d = record { front = token.Open ∷ front; parts = refl; starts = in_group n front (record { others = []; tree = a; spells = rw append-nil d }) }
closed_spelled n front (token.Bad ∷ ts) a d = record { front = token.Open ∷ front; parts = refl; starts = in_group n front (record { others = []; tree = a; spells = rw append-nil d }) }
closed_spelled n front (token.Sign x ∷ ts) a d = record { front = token.Open ∷ front; parts = refl; starts = in_group n front (record { others = []; tree = a; spells = rw append-nil d }) }

starts_group : (n : ℕ) → Starts (suc n) Group []
starts_group n = record { others = token.Open ∷ token.Text [] ∷ token.Close ∷ []; tree = tree.Text []; spells = group (spelled_ors n) }

group_spelled : (n : ℕ) (inner : Sort → Reader) → ((s : Sort) → IsWhole s → Reads n s (inner s)) → Reads (suc n) Group (group_at inner)
unfolding group_at
group_spelled n inner h (token.Open ∷ ts) = bind_spelled n (suc n) (Chained Ors) Group (token.Open ∷ []) ts (λ x. closed_at x.0 x.1) (inner (Chained Ors) ts) (h (Chained Ors) (a_chain Ors) ts) (in_group n) (in_group (suc n))
    (λ a rest t. rw t.parts (closed_spelled n t.front rest a t.spells))
group_spelled n inner h [] = here (suc n) Group [] (starts_group n)
group_spelled n inner h (token.Number x ∷ ts) = here (suc n) Group (token.Number x ∷ ts) (starts_group n)
group_spelled n inner h (token.Text x ∷ ts) = here (suc n) Group (token.Text x ∷ ts) (starts_group n)
group_spelled n inner h (token.Property x ∷ ts) = here (suc n) Group (token.Property x ∷ ts) (starts_group n)
group_spelled n inner h (token.Name x ∷ ts) = here (suc n) Group (token.Name x ∷ ts) (starts_group n)
group_spelled n inner h (token.Close ∷ ts) = here (suc n) Group (token.Close ∷ ts) (starts_group n)
group_spelled n inner h (token.Bad ∷ ts) = here (suc n) Group (token.Bad ∷ ts) (starts_group n)
group_spelled n inner h (token.Bang ∷ ts) = here (suc n) Group (token.Bang ∷ ts) (starts_group n)
group_spelled n inner h (token.Sign x ∷ ts) = here (suc n) Group (token.Sign x ∷ ts) (starts_group n)

in_call : (n : ℕ) (f : Func) → Wraps n Group (token.Name f ∷ []) n Item
in_call n f front w = record { others = w.others; tree = tree.Call f w.tree; spells = call f w.spells }

as_item : (n : ℕ) → Wraps n Group [] n Item
as_item n front w = record { others = w.others; tree = w.tree; spells = grouped w.spells }

group_as_item : (n : ℕ) (ts : List Kind) (r : Read Expr) → Spelled n Group ts r → Spelled n Item ts r
group_as_item n ts (Ok x) h = record { front = h.front; parts = h.parts; spells = grouped h.spells }
group_as_item n ts (Err (Syntax rest)) h = record { front = h.front; parts = h.parts; starts = as_item n h.front h.starts }
group_as_item n ts (Err (TooDeep rest)) h = record { front = h.front; parts = h.parts; starts = as_item n h.front h.starts; goes_on = deep n n Group Item [] h.front rest (as_item (suc n)) h.goes_on }

call_spelled : (n : ℕ) (f : Func) (d : Deeper) → DeeperReads n d → (ts : List Kind) → Spelled n Item (token.Name f ∷ ts) (parens_at d (token.Name f ∷ ts) ts >>= λ x. Ok (tree.Call f x.0, x.1))
call_spelled n f None h ts = record { front = []; parts = refl; starts = starts_item n; goes_on = in_call (suc n) f [] (starts_group n) }
call_spelled zero f (Some inner) h ts = absurd h
call_spelled (suc n) f (Some inner) h ts = bind_spelled (suc n) (suc n) Group Item (token.Name f ∷ []) ts (λ x. Ok (tree.Call f x.0, x.1)) (group_at inner ts) (group_spelled n inner h ts) (in_call (suc n) f) (in_call (suc (suc n)) f)
    (λ a rest t. record { front = token.Name f ∷ t.front; parts = ap (λ (x : List Kind). token.Name f ∷ x) t.parts; spells = call f t.spells })

open_spelled : (n : ℕ) (d : Deeper) → DeeperReads n d → (ts : List Kind) → Spelled n Item (token.Open ∷ ts) (parens_at d (token.Open ∷ ts) (token.Open ∷ ts))
open_spelled n None h ts = record { front = []; parts = refl; starts = starts_item n; goes_on = as_item (suc n) (token.Open ∷ []) (in_group n [] (starts_ors n)) }
open_spelled zero (Some inner) h ts = absurd h
open_spelled (suc n) (Some inner) h ts = group_as_item (suc n) (token.Open ∷ ts) (group_at inner (token.Open ∷ ts)) (group_spelled n inner h (token.Open ∷ ts))

item_spelled : (n : ℕ) (d : Deeper) → DeeperReads n d → Reads n Item (item_at d)
unfolding item_at
item_spelled n d h [] = here n Item [] (starts_item n)
item_spelled n d h (token.Number x ∷ ts) = record { front = token.Number x ∷ []; parts = refl; spells = number x }
item_spelled n d h (token.Text x ∷ ts) = record { front = token.Text x ∷ []; parts = refl; spells = text x }
item_spelled n d h (token.Property x ∷ ts) = record { front = token.Property x ∷ []; parts = refl; spells = property x }
item_spelled n d h (token.Name f ∷ ts) = call_spelled n f d h ts
item_spelled n d h (token.Open ∷ ts) = open_spelled n d h ts
item_spelled n d h (token.Close ∷ ts) = here n Item (token.Close ∷ ts) (starts_item n)
item_spelled n d h (token.Bad ∷ ts) = here n Item (token.Bad ∷ ts) (starts_item n)
item_spelled n d h (token.Bang ∷ ts) = here n Item (token.Bang ∷ ts) (starts_item n)
item_spelled n d h (token.Sign o ∷ ts) = here n Item (token.Sign o ∷ ts) (starts_item n)

-- ---- signs before an operand, comparisons, whole levels

abbrev Rule : Sort → Sort → Type 0
Rule s s' = (m : ℕ) (ts : List Kind) (a : Expr) → Spells m s ts a → Spells m s' ts a

recast : (n : ℕ) (s s' : Sort) → Rule s s' → (ts : List Kind) (r : Read Expr) → Spelled n s ts r → Spelled n s' ts r
recast n s s' rule ts (Ok x) h = record { front = h.front; parts = h.parts; spells = rule n h.front x.0 h.spells }
recast n s s' rule ts (Err (Syntax rest)) h = record { front = h.front; parts = h.parts; starts = record { others = h.starts.others; tree = h.starts.tree; spells = rule n (h.front ++ h.starts.others) h.starts.tree h.starts.spells } }
recast n s s' rule ts (Err (TooDeep rest)) h = record {
  front = h.front;
  parts = h.parts;
  starts = record { others = h.starts.others; tree = h.starts.tree; spells = rule n (h.front ++ h.starts.others) h.starts.tree h.starts.spells };
  goes_on = deep n n s s' [] h.front rest (λ front w. record { others = w.others; tree = w.tree; spells = rule (suc n) (front ++ w.others) w.tree w.spells }) h.goes_on;
}

starts_signed : (n : ℕ) → Starts n Signed []
starts_signed n = record { others = token.Text [] ∷ []; tree = tree.Text []; spells = unsigned (text []) }

starts_negation : (n : ℕ) → Starts n Negation []
starts_negation n = record { others = token.Text [] ∷ []; tree = tree.Text []; spells = spelled_negation n }

in_minus : (n : ℕ) → Wraps n Signed (token.Sign Minus ∷ []) (suc n) Signed
in_minus n front w = record { others = w.others; tree = tree.Neg w.tree; spells = minus w.spells }

in_bang : (n : ℕ) → Wraps n Negation (token.Bang ∷ []) (suc n) Negation
in_bang n front w = record { others = w.others; tree = tree.Not w.tree; spells = negated w.spells }

minus_spelled : (n : ℕ) (d : Deeper) → DeeperReads n d → (ts : List Kind) → Spelled n Signed (token.Sign Minus ∷ ts) (opened_at d Signed (token.Sign Minus ∷ ts) ts >>= λ x. Ok (tree.Neg x.0, x.1))
minus_spelled n None h ts = record { front = []; parts = refl; starts = starts_signed n; goes_on = in_minus n [] (starts_signed n) }
minus_spelled zero (Some inner) h ts = absurd h
minus_spelled (suc n) (Some inner) h ts = bind_spelled n (suc n) Signed Signed (token.Sign Minus ∷ []) ts (λ x. Ok (tree.Neg x.0, x.1)) (inner Signed ts) (h Signed a_signed ts) (in_minus n) (in_minus (suc n))
    (λ a rest t. record { front = token.Sign Minus ∷ t.front; parts = ap (λ (x : List Kind). token.Sign Minus ∷ x) t.parts; spells = minus t.spells })

bang_spelled : (n : ℕ) (d : Deeper) → DeeperReads n d → (ts : List Kind) → Spelled n Negation (token.Bang ∷ ts) (opened_at d Negation (token.Bang ∷ ts) ts >>= λ x. Ok (tree.Not x.0, x.1))
bang_spelled n None h ts = record { front = []; parts = refl; starts = starts_negation n; goes_on = in_bang n [] (starts_negation n) }
bang_spelled zero (Some inner) h ts = absurd h
bang_spelled (suc n) (Some inner) h ts = bind_spelled n (suc n) Negation Negation (token.Bang ∷ []) ts (λ x. Ok (tree.Not x.0, x.1)) (inner Negation ts) (h Negation a_negation ts) (in_bang n) (in_bang (suc n))
    (λ a rest t. record { front = token.Bang ∷ t.front; parts = ap (λ (x : List Kind). token.Bang ∷ x) t.parts; spells = negated t.spells })

signed_item : (n : ℕ) (d : Deeper) → DeeperReads n d → (ts : List Kind) → Spelled n Signed ts (item_at d ts)
signed_item n d h ts = recast n Item Signed (λ m us a e. unsigned e) ts (item_at d ts) (item_spelled n d h ts)

signed_spelled : (n : ℕ) (d : Deeper) → DeeperReads n d → Reads n Signed (signed_at d)
unfolding signed_at
signed_spelled n d h [] = signed_item n d h []
signed_spelled n d h (token.Sign Minus ∷ ts) = minus_spelled n d h ts
signed_spelled n d h (token.Sign Or ∷ ts) = signed_item n d h (token.Sign Or ∷ ts)
signed_spelled n d h (token.Sign And ∷ ts) = signed_item n d h (token.Sign And ∷ ts)
signed_spelled n d h (token.Sign Equal ∷ ts) = signed_item n d h (token.Sign Equal ∷ ts)
signed_spelled n d h (token.Sign Below ∷ ts) = signed_item n d h (token.Sign Below ∷ ts)
signed_spelled n d h (token.Sign Differ ∷ ts) = signed_item n d h (token.Sign Differ ∷ ts)
signed_spelled n d h (token.Sign AtMost ∷ ts) = signed_item n d h (token.Sign AtMost ∷ ts)
signed_spelled n d h (token.Sign AtLeast ∷ ts) = signed_item n d h (token.Sign AtLeast ∷ ts)
signed_spelled n d h (token.Sign Above ∷ ts) = signed_item n d h (token.Sign Above ∷ ts)
signed_spelled n d h (token.Sign Plus ∷ ts) = signed_item n d h (token.Sign Plus ∷ ts)
signed_spelled n d h (token.Sign Times ∷ ts) = signed_item n d h (token.Sign Times ∷ ts)
signed_spelled n d h (token.Number x ∷ ts) = signed_item n d h (token.Number x ∷ ts)
signed_spelled n d h (token.Text x ∷ ts) = signed_item n d h (token.Text x ∷ ts)
signed_spelled n d h (token.Property x ∷ ts) = signed_item n d h (token.Property x ∷ ts)
signed_spelled n d h (token.Name x ∷ ts) = signed_item n d h (token.Name x ∷ ts)
signed_spelled n d h (token.Open ∷ ts) = signed_item n d h (token.Open ∷ ts)
signed_spelled n d h (token.Close ∷ ts) = signed_item n d h (token.Close ∷ ts)
signed_spelled n d h (token.Bad ∷ ts) = signed_item n d h (token.Bad ∷ ts)
signed_spelled n d h (token.Bang ∷ ts) = signed_item n d h (token.Bang ∷ ts)

products_spelled : (n : ℕ) (d : Deeper) → DeeperReads n d → Reads n (Chained Products) (product_at d)
products_spelled n d h = chain_spelled n Products (signed_at d) (signed_spelled n d h)

sums_spelled : (n : ℕ) (d : Deeper) → DeeperReads n d → Reads n (Chained Sums) (sum_at d)
sums_spelled n d h = chain_spelled n Sums (product_at d) (products_spelled n d h)

as_comparison : (n : ℕ) → Wraps n (Chained Sums) [] n Comparison
as_comparison n front w = record { others = w.others; tree = w.tree; spells = alone w.spells }

in_comparison : (n : ℕ) (o : Op) (front : List Kind) (a : Expr) → IsTrue (compares o) → Spells n (Chained Sums) front a → Wraps n (Chained Sums) (front ++ token.Sign o ∷ []) n Comparison
in_comparison n o front a h d after w = record {
  others = w.others;
  tree = tree.Binary o a w.tree;
  spells = subst (λ (x : List Kind). Spells n Comparison x (tree.Binary o a w.tree)) (simp append_assoc) (compared o h d w.spells);
}

compared_spelled : (n : ℕ) (next : Reader) → Reads n (Chained Sums) next → (front ts : List Kind) (a : Expr) → Spells n (Chained Sums) front a → (found : Option (Op × List Kind)) → sign_at compares ts ≡ found
    → Spelled n Comparison (front ++ ts) (compared_at next a ts found)
compared_spelled n next h front ts a d None e = record { front = front; parts = refl; spells = alone d }
compared_spelled n next h front ts a d (Some s) e =
    let g = sign_is compares ts s e in
    let whole : (front ++ token.Sign s.0 ∷ []) ++ s.1 ≡ front ++ ts = rw g.is (append_assoc front (token.Sign s.0 ∷ []) s.1) in
    subst (λ (x : List Kind). Spelled n Comparison x (next s.1 >>= λ x. Ok (tree.Binary s.0 a x.0, x.1))) whole
    (bind_spelled n n (Chained Sums) Comparison (front ++ token.Sign s.0 ∷ []) s.1 (λ x. Ok (tree.Binary s.0 a x.0, x.1)) (next s.1) (h s.1)
    (in_comparison n s.0 front a g.passes d) (in_comparison (suc n) s.0 front a g.passes (raise d))
    (λ b rest t. record { front = front ++ token.Sign s.0 ∷ t.front; parts = rw t.parts (simp append_assoc); spells = compared s.0 g.passes d t.spells }))

comparison_spelled : (n : ℕ) (d : Deeper) → DeeperReads n d → Reads n Comparison (comparison_at d)
unfolding comparison_at
comparison_spelled n d h ts = bind_spelled n n (Chained Sums) Comparison [] ts (λ a. compared_at (sum_at d) a.0 a.1 (sign_at compares a.1)) (sum_at d ts) (sums_spelled n d h ts) (as_comparison n) (as_comparison (suc n))
    (λ a rest t. subst (λ (x : List Kind). Spelled n Comparison x (compared_at (sum_at d) a rest (sign_at compares rest))) (sym t.parts)
    (compared_spelled n (sum_at d) (sums_spelled n d h) t.front rest a t.spells (sign_at compares rest) refl))

plain_negation : (n : ℕ) (d : Deeper) → DeeperReads n d → (ts : List Kind) → Spelled n Negation ts (comparison_at d ts)
plain_negation n d h ts = recast n Comparison Negation (λ m us a e. plain e) ts (comparison_at d ts) (comparison_spelled n d h ts)

negation_spelled : (n : ℕ) (d : Deeper) → DeeperReads n d → Reads n Negation (negation_at d)
unfolding negation_at
negation_spelled n d h [] = plain_negation n d h []
negation_spelled n d h (token.Bang ∷ ts) = bang_spelled n d h ts
negation_spelled n d h (token.Sign o ∷ ts) = plain_negation n d h (token.Sign o ∷ ts)
negation_spelled n d h (token.Number x ∷ ts) = plain_negation n d h (token.Number x ∷ ts)
negation_spelled n d h (token.Text x ∷ ts) = plain_negation n d h (token.Text x ∷ ts)
negation_spelled n d h (token.Property x ∷ ts) = plain_negation n d h (token.Property x ∷ ts)
negation_spelled n d h (token.Name x ∷ ts) = plain_negation n d h (token.Name x ∷ ts)
negation_spelled n d h (token.Open ∷ ts) = plain_negation n d h (token.Open ∷ ts)
negation_spelled n d h (token.Close ∷ ts) = plain_negation n d h (token.Close ∷ ts)
negation_spelled n d h (token.Bad ∷ ts) = plain_negation n d h (token.Bad ∷ ts)

pub sort_spelled : (n : ℕ) (d : Deeper) → DeeperReads n d → (s : Sort) → IsWhole s → Reads n s (sort_at d s)
sort_spelled n d h (Chained Products) w = products_spelled n d h
sort_spelled n d h (Chained Sums) w = sums_spelled n d h
sort_spelled n d h (Chained Ands) w = chain_spelled n Ands (negation_at d) (negation_spelled n d h)
sort_spelled n d h (Chained Ors) w = chain_spelled n Ors (chain_at (negation_at d) Ands) (chain_spelled n Ands (negation_at d) (negation_spelled n d h))
sort_spelled n d h Negation w = negation_spelled n d h
sort_spelled n d h Comparison w = comparison_spelled n d h
sort_spelled n d h Signed w = signed_spelled n d h
sort_spelled n d h Item w = item_spelled n d h
sort_spelled n d h Group w = elim w [ ]

pub levels_spelled : (n : ℕ) → DeeperReads n (deeper n)
levels_spelled zero = tt
levels_spelled (suc n) = λ s w. sort_spelled n (deeper n) (levels_spelled n) s w

-- what is read with so many levels
pub read_spelled : (n : ℕ) (s : Sort) → IsWhole s → Reads n s (sort_at (deeper n) s)
read_spelled n s w = sort_spelled n (deeper n) (levels_spelled n) s w
