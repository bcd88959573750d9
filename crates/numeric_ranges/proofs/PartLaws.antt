-- What parted entries say of the ids of rows.
use Rattle.std.proofs.Common.{◌≡◌, ℕ, ◌<◌, ◌≤◌, [], ◌∷◌, ◌++◌, refl, sym, ap, subst, arith, ℤ}
use Rattle.posting_block.specs.declared.hits.NumHit.{NumHit}
use Rattle.inverted_list.specs.declared.marker.Marker.{Marker}
use Rattle.inverted_list.specs.Listing.{RisesAbove, last_id, filled_list}
use Rattle.inverted_list.proofs.ReachLaws.{rises_push}
use Rattle.numeric_ranges.specs.Values.{Entries}
use Rattle.numeric_ranges.specs.Ranges.{Rows, low_of, lies_in, AreParted, IsAbove}
use Rattle.numeric_ranges.proofs.HalfLaws.{last_filter}

-- an id above all entries is above those of each row
pub above_parted : (es : Entries) (rows : Rows) (id : ℕ) → RisesAbove 0 es → last_id 0 es < id → AreParted es rows → IsAbove id rows
above_parted es [] id rises above p = tt
above_parted es (row ∷ rows) id rises above p =
    let here = ap (λ (xs : Entries). last_id 0 xs) p.0 in
    (omega (arith, above, here, last_filter (λ e. lies_in row.0 (low_of rows) e.1.value) 0 es rises), above_parted es rows id rises above p.1)

-- Rows have the parts of some entries with ids up to a number.
pub record HasParts (rows : Rows) (last : ℕ) : Type 0 where
  pub es : Entries
  pub parted : AreParted es rows
  pub rises : RisesAbove 0 es
  pub upto : last_id 0 es ≤ last

pub parts_first : (rows : Rows) (low : ℤ) (marker : Marker) → rows ≡ (low, filled_list marker []) ∷ [] → HasParts rows 0
parts_first rows low marker same =
    subst (λ (r : Rows). HasParts r 0) (sym same) (record { es = []; parted = (refl, tt); rises = tt; upto = omega arith })

pub parts_above : (rows : Rows) (last id : ℕ) → HasParts rows last → last < id → IsAbove id rows
parts_above rows last id h less = above_parted h.es rows id h.rises (omega (arith, h.upto, less)) h.parted

last_push : (low : ℕ) (es : Entries) (e : ℕ × NumHit) → last_id low (es ++ e ∷ []) ≡ e.0
last_push low [] e = refl
last_push low (x ∷ es) e = last_push x.0 es e

pub parts_more : (old new : Rows) (last id : ℕ) (hit : NumHit) → HasParts old last → last < id → ((es : Entries) → AreParted es old → AreParted (es ++ (id, hit) ∷ []) new) → HasParts new id
parts_more old new last id hit h less parts = record {
  es = h.es ++ (id, hit) ∷ [];
  parted = parts h.es h.parted;
  rises = rises_push 0 id hit h.es h.rises (omega (arith, h.upto, less));
  upto = omega (arith, last_push 0 h.es (id, hit));
}
