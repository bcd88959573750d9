-- What entries say of the ids that they have.
use Rattle.std.proofs.Common.{◌≡◌, ◌≢◌, ℕ, ◌≤◌, Bool, true, false, cond, ◌&&◌, ◌||◌, eqb, List, [], ◌∷◌, Some, None, refl, sym, ap, ◌∙◌, arith, inl, inr}
use Rattle.std.specs.Prelude.{nat_eq}
use Rattle.std.specs.Map.{lookup}
use Rattle.std.proofs.lemmas.Bool.Decides.{eqb_tells, nat_tests}
use Rattle.inverted_list.specs.Listing.{RisesAbove}
use Rattle.id_iters.specs.Entries.{has_entry, wanted}

eqb_no : (a b : ℕ) → a ≢ b → eqb a b ≡ false
eqb_no a b h = grind (arith, nat_tests)

pub some_is_none : {A : Type 0} (x : A) → Some x ≡ None → ⊥
some_is_none x h = cc

module _ {P : Type 0} (wants : P → Bool) where
  -- an entry with another id says nothing of an id
  pub passed : (id : ℕ) (e : ℕ × P) (es : List (ℕ × P)) → id ≢ e.0 → has_entry wants (e ∷ es) id ≡ has_entry wants es id
  passed id e es h = ap (λ b. (b && wants e.1) || has_entry wants es id) (eqb_no id e.0 h)

  -- entries have no id below the first
  pub none_below : (low id : ℕ) (es : List (ℕ × P)) → RisesAbove low es → id ≤ low → has_entry wants es id ≡ false
  none_below low id [] rises h = refl
  none_below low id (e ∷ es) rises h =
      passed id e es (λ same. omega (arith, h, same, rises.0)) ∙ none_below e.0 id es rises.1 (omega (arith, h, rises.0))

  -- an id that entries have is that of the one entry with the id
  pub has_at_low : (low id : ℕ) (es : List (ℕ × P)) → RisesAbove low es → has_entry wants es id ≡ wanted wants (lookup (nat_eq id) es)
  has_at_low low id [] rises = refl
  has_at_low low id (e ∷ es) rises =
      elim (eqb_tells id e.0) [
        | inl i ↦
            ap (λ b. (b && wants e.1) || has_entry wants es id) i.0
            ∙ ap (λ b. wants e.1 || b) (none_below e.0 id es rises.1 (omega (arith, i.1)))
            ∙ or_false (wants e.1)
            ∙ ap (λ b. wanted wants (cond b (Some e.1) (lookup (nat_eq id) es))) (sym i.0)
        | inr i ↦
            ap (λ b. (b && wants e.1) || has_entry wants es id) i.0
            ∙ has_at_low e.0 id es rises.1
            ∙ ap (λ b. wanted wants (cond b (Some e.1) (lookup (nat_eq id) es))) (sym i.0)
      ]
    where
      or_false : (b : Bool) → (b || false) ≡ b
      or_false true = refl
      or_false false = refl
