-- A list of this event that is put in the place of another, or none, leaves all lists come from what they were.
use Rattle.std.specs.Prelude.{◌≡◌, ◌≤◌, ◌==◌, ℕ, ℤ, List, [], ◌∷◌, Bool, true, false, Option, None, Some, length, refl}
use Rattle.std.proofs.Common.{sym, ap, ◌∙◌, subst, inl, inr, arith}
use Rattle.std.proofs.lemmas.Bool.{cases_Bool}
use Rattle.std.specs.Ordering.{int_eq}
use Rattle.gc_splice.specs.Growing.{ComesFrom}
use Rattle.gc_splice.proofs.GrowingLaws.{comes_fresh, comes_same}
use Rattle.inverted_list.specs.Listing.{Listing}
use Rattle.numeric_ranges.specs.Ranges.{Rows, list_at, with_list}
use Rattle.posting_block.specs.declared.hits.NumHit.{NumHit}
use Rattle.term_dict.specs.Splices.{some_filled}
use Rattle.term_dict.specs.Terms.{Lists, Sets, list_of}
use Rattle.ft_index.proofs.ListLaws.{list-here, list-others}

module _ {P : Type 0} (event : ℕ) where
  -- a list that is gone because it had no entry has no marker
  filled-late : (k l : Listing P) → event ≤ k.marker.event → some_filled k ≡ Some l → event ≤ l.marker.event
  filled-late k l late is = by_entries (length k.entries == 0) refl
    where
      by_entries : (b : Bool) → (length k.entries == 0) ≡ b → event ≤ l.marker.event
      by_entries true y =
          let none : ◌≡◌ {A = Option (Listing P)} None (Some l) = rw y at is in absurd (cc (none))
      by_entries false n =
          let some : ◌≡◌ {A = Option (Listing P)} (Some k) (Some l) = rw n at is in
          let one : k ≡ l = cc (some) in
          omega (arith, late, ap (λ (m : Listing P). m.marker.event) one)

  -- a word's list is one of this event, or gone
  pub filled-comes : (old new : Lists P) (word : List ℕ) (k : Listing P) → event ≤ k.marker.event → Sets word (some_filled k) old new
      → (other : List ℕ) → ComesFrom event (list_of old other) (list_of new other)
  filled-comes old new word k late sets other = elim (list-others old new word (some_filled k) sets other) [
    | inl is ↦ subst (λ (name : List ℕ). ComesFrom event (list_of old name) (list_of new name)) (sym is) here
    | inr same ↦ subst (λ (o : Option (Listing P)). ComesFrom event (list_of old other) o) (sym same) (comes_same event (list_of old other))
  ]
    where
      here : ComesFrom event (list_of old word) (list_of new word)
      here l at low = absurd (omega (arith, filled-late k l late (sym (list-here old new word (some_filled k) sets) ∙ at), low))

-- a range's list is one of this event
pub range-comes : (event : ℕ) (rows : Rows) (low : ℤ) (list : Listing NumHit) → event ≤ list.marker.event
    → (other : ℤ) → ComesFrom event (list_at rows other) (list_at (with_list rows low list) other)
range-comes event [] low list fresh other = comes_same event (list_at [] other)
range-comes event (row ∷ rows) low list fresh other = elim (cases_Bool (int_eq low row.0)) [
  | inl y ↦ rw y (elim (cases_Bool (int_eq other row.0)) [
    | inl is ↦ rw is (comes_fresh event (Some row.1) list fresh)
    | inr away ↦ rw away (comes_same event (list_at rows other))
  ])
  | inr n ↦ rw n (elim (cases_Bool (int_eq other row.0)) [
    | inl is ↦ rw is (comes_same event (Some row.1))
    | inr away ↦ rw away (range-comes event rows low list fresh other)
  ])
]
