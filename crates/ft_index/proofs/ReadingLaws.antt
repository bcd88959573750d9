-- The least live id from a number on, by rows whose ids rise, and the ranges that an interval meets, by their lows.
use Rattle.std.specs.Prelude.{◌≡◌, ◌<◌, ◌≤◌, ◌&&◌, ℕ, zero, suc, ℤ, int_le, int_lt, Bool, true, List, [], ◌∷◌, Option, None, Some, nat_le, find, length, map, refl}
use Rattle.std.proofs.Common.{◌∙◌, inl, inr, arith}
use Rattle.std.specs.List.{list_all}
use Rattle.std.specs.Map.{keys_of}
use Rattle.std.proofs.lemmas.Bool.{and_from, and_parts, cases_Bool, false≢true}
use Rattle.std.proofs.lemmas.Bool.Decides.{nat_tests}
use Rattle.std.proofs.lemmas.Int.{ints}
use Rattle.doc_table.specs.Table.{Vector}
use Rattle.id_iters.specs.Least.{IsLeast}
use Rattle.id_iters.specs.Named.{lies_at}
use Rattle.ft_index.proofs.AliveLaws.{above-no, below-no, has_id-below, same-yes}
use Rattle.ft_index.specs.Lists.{has_id}
use Rattle.inverted_list.specs.Listing.{RisesAbove}
use Rattle.numeric_ranges.specs.Ranges.{Rows, is_below, low_of, meets}
use Rattle.numeric_ranges.proofs.ValueLaws.{le_trans}

-- two tests that agree from a number on have one least
same-least : (p q : ℕ → Bool) (from : ℕ) (least : Option ℕ) → ((id : ℕ) → from ≤ id → q id ≡ p id) → IsLeast p from least → IsLeast q from least
same-least p q from None agree is = record { fails = λ id above. agree id above ∙ is.fails id above }
same-least p q from (Some n) agree is = record {
  reached = is.reached;
  passes = agree n is.reached ∙ is.passes;
  below = record { fails = λ id above under. agree id above ∙ is.below.fails id above under };
}

pub least-live : (low from : ℕ) (rows : List (ℕ × Vector)) → RisesAbove low rows → IsLeast (has_id rows) from (find (λ id. nat_le from id) (map (λ row. row.0) rows))
least-live low from [] rises = record { fails = λ id above. refl }
least-live low from (row ∷ rows) rises = elim (cases_Bool (nat_le from row.0)) [
  | inl y ↦
      let reached : from ≤ row.0 = grind (arith, nat_tests, y) in
      rw y (record {
        reached = reached;
        passes = rw (same-yes row.0) refl;
        below = record { fails = λ id above under. rw (below-no id row.0 under) (has_id-below row.0 id rows rises.1 (omega (arith, under))) };
      })
  | inr n ↦
      let before : row.0 < from = grind (arith, nat_tests, n) in
      rw n (same-least (has_id rows) (has_id (row ∷ rows)) from (find (λ id. nat_le from id) (map (λ row. row.0) rows))
      (λ id above. rw (above-no id row.0 (omega (arith, before, above))) refl) (least-live row.0 from rows rises.1))
]

lt-above : (low number next : ℤ) → int_le low number ≡ true → int_lt number next ≡ true → int_lt low next ≡ true
lt-above low number next from below = grind (arith, ints)

-- a range that a number of the interval lies in is one that the interval meets
pub meets-at : (rows : Rows) (place : ℕ) (low high number : ℤ) → int_le low number ≡ true → int_le number high ≡ true → lies_at (keys_of rows) place number ≡ true
    → (place < length rows) × (meets rows place low high ≡ true)
meets-at [] place low high number from to lies = absurd (false≢true lies)
meets-at (row ∷ rows) zero low high number from to lies =
    let here = and_parts (int_le row.0 number) (list_all (int_lt number) (keys_of rows)) lies in (
      omega arith,
      and_from (int_le low high && int_le row.0 high) (is_below (low_of rows) low)
          (and_from (int_le low high) (int_le row.0 high) (le_trans low number high from to) (le_trans row.0 number high here.0 to))
          (first rows here.1),
    )
  where
    first : (rs : Rows) → list_all (int_lt number) (keys_of rs) ≡ true → is_below (low_of rs) low ≡ true
    first [] all = refl
    first (next ∷ rs) all = lt-above low number next.0 from (and_parts (int_lt number next.0) (list_all (int_lt number) (keys_of rs)) all).0
meets-at (row ∷ rows) (suc place) low high number from to lies =
    let rest = meets-at rows place low high number from to lies in (omega (arith, rest.0), rest.1)
