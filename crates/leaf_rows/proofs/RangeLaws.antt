-- The ids of ranges stay below a number while values come and dead ones go.
use Rattle.std.proofs.Common.{◌≡◌, ℕ, ◌<◌, Bool, true, false, cond, [], ◌∷◌, Option, Some, None, IfSome, IfNone, inl, inr, refl, ap, sym, subst, ◌∙◌, arith, ℤ}
use Rattle.std.specs.List.{AllByRecursion}
use Rattle.std.specs.Map.{lookup, set_value}
use Rattle.std.specs.Ordering.{int_eq}
use Rattle.std.proofs.lemmas.Bool.{cases_Bool}
use Rattle.inverted_list.specs.Listing.{Listing, RisesAbove, last_id}
use Rattle.inverted_list.specs.declared.marker.Markers.{Markers}
use Rattle.posting_block.specs.declared.hits.NumHit.{NumHit}
use Rattle.gc_splice.specs.Alive.{alive, all_alive}
use Rattle.gc_splice.proofs.WithoutLaws.{last_without, rises_without, without_alive}
use Rattle.numeric_ranges.specs.Added.{added}
use Rattle.numeric_ranges.specs.Ranges.{IsAbove, Rows, list_at, with_list}
use Rattle.numeric_ranges.specs.Splicing.{CollectsRange}
use Rattle.ft_index.specs.UpTo.{RisesUpTo, RowsUpTo}
use Rattle.ft_index.proofs.RangeLaws.{added-up_to}
use Rattle.leaf_rows.proofs.SplicingLaws.{each-live}

rises-of : (last : ℕ) (rows : Rows) → RowsUpTo last rows → AllByRecursion (λ row. RisesAbove 0 row.1.entries) rows
rises-of last [] upto = tt
rises-of last (row ∷ rows) upto = (upto.0.rise, rises-of last rows upto.1)

-- an id above the last one is above those of each row
pub above-of : (last id : ℕ) (rows : Rows) → last < id → RowsUpTo last rows → IsAbove id rows
above-of last id [] less upto = tt
above-of last id (row ∷ rows) less upto = (omega (arith, upto.0.end, less), above-of last id rows less upto.1)

-- a value came with an id above the last one
pub upto-added : (last id : ℕ) (value : ℤ) (markers : Markers) (old new : Rows) → last < id → RowsUpTo last old → new ≡ added old id value markers → RowsUpTo id new
upto-added last id value markers old new less upto is =
    subst (λ (rows : Rows). RowsUpTo id rows) (sym is) (added-up_to old id value markers (rises-of last old upto) (above-of last id old less upto))

some-same : (a b : Listing NumHit) → ◌≡◌ {A = Option (Listing NumHit)} (Some a) (Some b) → a ≡ b
some-same a b is = cc (is)

part-upto : (last : ℕ) (live : ℕ → Bool) (l k : Listing NumHit) → RisesUpTo last l.entries → k.entries ≡ alive live l.entries → RisesUpTo last k.entries
part-upto last live l k upto is =
    let w = without_alive live live l.entries (each-live live l.entries) in
    record {
      rise = subst (λ es. RisesAbove 0 es) (sym is) (rises_without live 0 l.entries (alive live l.entries) w upto.rise);
      end = omega (arith, ap (λ es. last_id 0 es) is, last_without live 0 l.entries (alive live l.entries) w upto.rise, upto.end);
    }

list-upto : (last : ℕ) (live : ℕ → Bool) (low : ℤ) (l k : Listing NumHit) (rows : Rows) → RowsUpTo last rows → list_at rows low ≡ Some l → k.entries ≡ alive live l.entries
    → RowsUpTo last (with_list rows low k)
list-upto last live low l k [] upto at is = tt
list-upto last live low l k (row ∷ rows) upto at is = by (int_eq low row.0) at (λ e. list-upto last live low l k rows upto.1 e is)
  where
    by : (here : Bool) → cond here (Some row.1) (lookup (int_eq low) rows) ≡ Some l → (list_at rows low ≡ Some l → RowsUpTo last (with_list rows low k))
        → RowsUpTo last (cond here ((row.0, k) ∷ rows) (row ∷ set_value (int_eq low) rows k))
    by true e later = (part-upto last live row.1 k upto.0 (is ∙ ap (λ (x : Listing NumHit). alive live x.entries) (sym (some-same row.1 l e))), upto.1)
    by false e later = (upto.0, later e)

-- a range was collected
pub upto-collected : (last : ℕ) (live : ℕ → Bool) (low : ℤ) (before after : Markers) (old new : Rows) → RowsUpTo last old
    → IfNone (list_at old low) ((new ≡ old) × (after ≡ before)) → IfSome (list_at old low) (λ l. CollectsRange live low before l old new after) → RowsUpTo last new
upto-collected last live low before after old new upto gone there = by (list_at old low) refl gone there
  where
    same : new ≡ old → RowsUpTo last new
    same is = subst (λ (rows : Rows). RowsUpTo last rows) (sym is) upto

    by : (o : Option (Listing NumHit)) → list_at old low ≡ o → IfNone o ((new ≡ old) × (after ≡ before)) → IfSome o (λ l. CollectsRange live low before l old new after) → RowsUpTo last new
    by None e none some = same none.0
    by (Some l) e none some = elim (cases_Bool (all_alive live l.entries)) [
      | inl y ↦ same (some.clean y).0
      | inr n ↦
          let d = some.dead n in
          subst (λ (rows : Rows). RowsUpTo last rows) (sym d.2) (list-upto last live low l d.0 old upto e d.1.entries)
    ]
