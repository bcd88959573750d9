-- Beginnings of lists and whose entries are in them, and lists of what passes know.
use Rattle.std.proofs.Common.{◌≡◌, ℕ, zero, suc, ◌<◌, ◌≤◌, ◌≢◌, List, [], ◌∷◌, ◌++◌, length, get_or, set, drop, sym, refl, ap, ◌∙◌, subst, inl, inr, ◌⊎◌, ⊎_elim, arith, append_assoc}
use mathlib.Core.Option.{some, some-injective, some-ne-none}
use lib.ListN.{get_elem?}
use Rattle.atomic_table.specs.Table.{rest}
use Rattle.atomic_table.proofs.Lists.{at_set}
use Rattle.turn_gate.specs.Log.{StartsWith, NoneBy, AllBy, OthersSince}

module _ {E : Type 0} where
  -- of two beginnings of one list the longer goes on from the shorter
  pub goes_from : (xs ys end more : List E) → xs ++ end ≡ ys ++ more → length xs ≤ length ys
      → (between : List E) × (ys ≡ xs ++ between) × (end ≡ between ++ more)
  goes_from [] ys end more e l = (ys, refl, e)
  goes_from (x ∷ xs) [] end more e l = absurd (omega arith)
  goes_from (x ∷ xs) (y ∷ ys) end more e l =
      let t = goes_from xs ys end more (ap (drop 1) e) (omega arith) in
      let h : y ≡ x = ap (λ (z : List E). get_or z 0 x) (sym e) in
      (t.0, (λ i. h i ∷ t.1 i), t.2)

  -- a longer log has the same beginnings
  pub StartsWith-append : (log seen more : List E) → StartsWith log seen → StartsWith (log ++ more) seen
  StartsWith-append log seen more s = (s.0 ++ more, ap (λ (l : List E). l ++ more) s.1 ∙ append_assoc seen s.0 more)

  -- a list with no entry of anyone is empty
  pub NoneBy-all : (by : E → ℕ) (xs : List E) → ((id : ℕ) → NoneBy by id xs) → xs ≡ []
  NoneBy-all by [] none = refl
  NoneBy-all by (x ∷ xs) none = absurd ((none (by x)).0 refl)

  module _ (by : E → ℕ) (id : ℕ) where
    pub NoneBy-append : (xs ys : List E) → NoneBy by id xs → NoneBy by id ys → NoneBy by id (xs ++ ys)
    NoneBy-append [] ys a b = b
    NoneBy-append (x ∷ xs) ys a b = (a.0, NoneBy-append xs ys a.1 b)

    -- the end of a list
    pub NoneBy-end : (xs ys : List E) → NoneBy by id (xs ++ ys) → NoneBy by id ys
    NoneBy-end [] ys a = a
    NoneBy-end (x ∷ xs) ys a = NoneBy-end xs ys a.1

    -- where each entry is another caller's, none is this one's
    pub NoneBy-other : (other : ℕ) → other ≢ id → (xs : List E) → AllBy by other xs → NoneBy by id xs
    NoneBy-other other ne [] a = tt
    NoneBy-other other ne (x ∷ xs) a = ((λ e. ne (sym a.0 ∙ e)), NoneBy-other other ne xs a.1)

    -- entries of another caller are more entries of others
    pub OthersSince-append : (seen log more : List E) → OthersSince by id seen log → NoneBy by id more → OthersSince by id seen (log ++ more)
    OthersSince-append seen log more s none = (
      s.0 ++ more,
      ap (λ (l : List E). l ++ more) s.1 ∙ append_assoc seen s.0 more,
      NoneBy-append s.0 more s.2 none,
    )

-- a fact of each member, once one of them is another
pub each_set : {A : Type 0} (P : ℕ → A → Type 0) (l : List A) (i : ℕ) (a : A) → P i a
    → ((j : ℕ) (b : A) → j ≢ i → get_elem? l j ≡ some b → P j b) → (j : ℕ) (b : A) → get_elem? (set l i a) j ≡ some b → P j b
each_set P l i a here there j b e =
    ⊎_elim (λ (t : (j ≡ i) × (a ≡ b)). subst (λ x. P x b) (sym t.0) (subst (P i) t.1 here))
    (λ (t : (j ≢ i) × (get_elem? l j ≡ some b)). there j b t.0 t.1) (at_set l i j a b e)

-- a place with a member is within the list
pub inside : {A : Type 0} (l : List A) (i : ℕ) (a : A) → get_elem? l i ≡ some a → i < length l
inside [] i a e = absurd (some-ne-none a (sym e))
inside (x ∷ xs) zero a e = omega arith
inside (x ∷ xs) (suc i) a e = omega (arith, inside xs i a e)

-- a member of a list with one more at its end is an old one or that one
pub snoc_at : {A : Type 0} (l : List A) (a b : A) (j : ℕ) → get_elem? (l ++ a ∷ []) j ≡ some b
    → (get_elem? l j ≡ some b) ⊎ ((j ≡ length l) × (a ≡ b))
snoc_at [] a b zero e = inr (refl, some-injective a b e)
snoc_at [] a b (suc j) e = absurd (some-ne-none b (sym e))
snoc_at (x ∷ xs) a b zero e = inl e
snoc_at (x ∷ xs) a b (suc j) e = ⊎_elim inl (λ t. inr (omega (arith, t.0), t.1)) (snoc_at xs a b j e)

-- a list whose first member is known is that member and the rest
pub first_and_rest : {A : Type 0} (held more : List (ℕ × A)) (x : ℕ × A) → held ≡ x ∷ more → held ≡ x ∷ rest held
first_and_rest held more x is = is ∙ ap (λ l. x ∷ rest l) (sym is)
