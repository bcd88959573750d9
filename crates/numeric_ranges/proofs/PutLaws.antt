-- What a list put in the place of another does to rows.
use Rattle.std.proofs.Common.{◌≡◌, ℕ, zero, suc, ◌+◌, ◌<◌, true, List, [], ◌∷◌, length, get_or, set, Option, Some, refl, sym, ap, subst, ◌∙◌, arith, ℤ, IsTrue}
use Rattle.std.specs.List.{AllByRecursion}
use Rattle.std.specs.Ordering.{int_eq}
use Rattle.std.proofs.lemmas.Int.{to_z-of_z}
use mir.Syntax.{w64}
use mir.Val.{to_z, of_z, SFits}
use Rattle.std.proofs.lemmas.List.{map-set}
use Rattle.std.proofs.lemmas.Map.Steps.{set_value_same}
use Rattle.posting_block.specs.declared.hits.NumHit.{NumHit}
use Rattle.inverted_list.specs.Listing.{Listing, RisesAbove}
use Rattle.numeric_ranges.specs.declared.row.Row.{Row}
use Rattle.numeric_ranges.specs.Ranges.{Rows, low_of, is_below, lies_in, list_at, with_list, entries_in_rows, LowsRise, EntriesLie}
use Rattle.numeric_ranges.specs.Rows.{rows_of, reach, Knows, IsPart, Held, IsRowAt}
use Rattle.numeric_ranges.proofs.AddLaws.{Entry, all_set}
use Rattle.numeric_ranges.proofs.CountLaws.{count_put}
use Rattle.numeric_ranges.proofs.GoneLaws.{all_part}
use Rattle.numeric_ranges.proofs.ReachLaws.{seen, row_seen, length-rows, list_here, set_here}

pub list_found : (items : List Row) (at : ℕ) (low : ℤ) (row : Row) → LowsRise (rows_of items) → IsRowAt at low (rows_of items) → row ≡ get_or items at row
    → list_at (rows_of items) low ≡ Some row.list
list_found items at low row rise here is =
    let less : at < length items = omega (arith, here.within, length-rows items) in
    list_here low (rows_of items) at (seen row) rise here.within (here.begins (seen row))
    ∙ ap (λ (r : ℤ × Listing NumHit). Some r.1) (row_seen items at (seen row) row less is)

low_here : (items : List Row) (at : ℕ) (low : ℤ) (row : Row) → IsRowAt at low (rows_of items) → row ≡ get_or items at row → row.low ≡ low
low_here items at low row here is =
    let less : at < length items = omega (arith, here.within, length-rows items) in
    sym (ap (λ (r : ℤ × Listing NumHit). r.0) (row_seen items at (seen row) row less is)) ∙ here.begins (seen row)

low_set : (rows : Rows) (at : ℕ) (low : ℤ) (list : Listing NumHit) (d : ℤ × Listing NumHit) → at < length rows → (get_or rows at d).0 ≡ low → low_of (set rows at (low, list)) ≡ low_of rows
low_set [] at low list d less same = absurd (omega (arith, less))
low_set (row ∷ rows) zero low list d less same = ap Some (sym same)
low_set (row ∷ rows) (suc at) low list d less same = refl

lows_set : (rows : Rows) (at : ℕ) (low : ℤ) (list : Listing NumHit) (d : ℤ × Listing NumHit) → LowsRise rows → at < length rows → (get_or rows at d).0 ≡ low → LowsRise (set rows at (low, list))
lows_set [] at low list d rise less same = absurd (omega (arith, less))
lows_set (row ∷ rows) zero low list d rise less same = (subst (λ (v : ℤ). is_below (low_of rows) v ≡ true) same rise.0, rise.1)
lows_set (row ∷ rows) (suc at) low list d rise less same =
    (subst (λ (next : Option ℤ). is_below next row.0 ≡ true) (sym (low_set rows at low list d (omega (arith, less)) same)) rise.0, lows_set rows at low list d rise.1 (omega (arith, less)) same)

lie_set : (rows : Rows) (at : ℕ) (low : ℤ) (list : Listing NumHit) (d : ℤ × Listing NumHit) → EntriesLie rows → at < length rows → (get_or rows at d).0 ≡ low
    → IsPart (get_or rows at d).1.entries list.entries → EntriesLie (set rows at (low, list))
lie_set [] at low list d lie less same part = absurd (omega (arith, less))
lie_set (row ∷ rows) zero low list d lie less same part =
    let Lies : ℤ → Entry → Type 0 = λ v e. IsTrue (lies_in v (low_of rows) e.1.value) in
    (subst (λ (v : ℤ). AllByRecursion (Lies v) list.entries) same (all_part (Lies row.0) row.1.entries list.entries part lie.0), lie.1)
lie_set (row ∷ rows) (suc at) low list d lie less same part =
    let within : at < length rows = omega (arith, less) in (
      subst (λ (next : Option ℤ). AllByRecursion (λ (e : Entry). IsTrue (lies_in row.0 next e.1.value)) row.1.entries) (sym (low_set rows at low list d within same)) lie.0,
      lie_set rows at low list d lie.1 within same part,
    )

pub put_held : (items : List Row) (at : ℕ) (low : ℤ) (row new : Row) → Held items → IsRowAt at low (rows_of items) → row ≡ get_or items at row
    → new.low ≡ row.low → RisesAbove 0 new.list.entries → IsPart row.list.entries new.list.entries → Knows new.spread new.list.entries → Held (set items at new)
put_held items at low row new held here is same rises part knows =
    let R = rows_of items in
    let p = held.partition in
    let less : at < length items = omega (arith, here.within, length-rows items) in
    let pair : seen new ≡ (low, new.list) = ap {B = ℤ × Listing NumHit} (λ (v : ℤ). (v, new.list)) (same ∙ low_here items at low row here is) in
    let rows : rows_of (set items at new) ≡ set R at (low, new.list) = map-set seen items at new ∙ ap (set R at) pair in
    let begins = here.begins (seen row) in
    let left = subst (λ (r : ℤ × Listing NumHit). IsPart r.1.entries new.list.entries) (sym (row_seen items at (seen row) row less is)) part in
    record {
      partition = record {
        first = ap low_of rows ∙ (low_set R at low new.list (seen row) here.within begins ∙ p.first);
        lows = subst LowsRise (sym rows) (lows_set R at low new.list (seen row) p.lows here.within begins);
        ids = subst (λ (r : Rows). AllByRecursion (λ (x : ℤ × Listing NumHit). RisesAbove 0 x.1.entries) r) (sym rows)
            (all_set (λ (x : ℤ × Listing NumHit). RisesAbove 0 x.1.entries) R at (low, new.list) p.ids rises);
        lie = subst EntriesLie (sym rows) (lie_set R at low new.list (seen row) p.lie here.within begins left);
      };
      known = all_set (λ (r : Row). Knows r.spread r.list.entries) items at new held.known knows;
    }

-- a row whose list is another, by what contracts see
pub put_rows : (items : List Row) (at : ℕ) (low : ℤ) (row new : Row) → LowsRise (rows_of items) → IsRowAt at low (rows_of items) → row ≡ get_or items at row
    → new.low ≡ row.low → rows_of (set items at new) ≡ with_list (rows_of items) low new.list
put_rows items at low row new rise here is same =
    let pair : seen new ≡ (low, new.list) = ap {B = ℤ × Listing NumHit} (λ (v : ℤ). (v, new.list)) (same ∙ low_here items at low row here is) in
    map-set seen items at new ∙ (ap (set (rows_of items) at) pair ∙ set_here low (rows_of items) at new.list (seen row) rise here.within (here.begins (seen row)))

-- and by how many entries there are then
pub put_count : (items : List Row) (at : ℕ) (low : ℤ) (row new : Row) → LowsRise (rows_of items) → IsRowAt at low (rows_of items) → row ≡ get_or items at row → new.low ≡ row.low
    → entries_in_rows (rows_of (set items at new)) + length row.list.entries ≡ entries_in_rows (rows_of items) + length new.list.entries
put_count items at low row new rise here is same =
    omega (
      arith,
      ap entries_in_rows (put_rows items at low row new rise here is same),
      count_put (rows_of items) low row.list new.list (list_found items at low row rise here is),
    )

-- a list that stays changes no row
pub put_same : (items : List Row) (at : ℕ) (low : ℤ) (row new : Row) → LowsRise (rows_of items) → IsRowAt at low (rows_of items) → row ≡ get_or items at row
    → new.low ≡ row.low → new.list ≡ row.list → rows_of (set items at new) ≡ rows_of items
put_same items at low row new rise here is same list =
    put_rows items at low row new rise here is same
    ∙ set_value_same (int_eq low) (rows_of items) new.list (list_found items at low row rise here is ∙ ap Some (sym list))

-- numbers that fit are themselves
pub at_cast : (items slice : List Row) (at : ℕ) (low : ℤ) → slice ≡ items → SFits w64 low → IsRowAt at (to_z w64 (of_z w64 low)) (rows_of slice) → IsRowAt at low (rows_of items)
at_cast items slice at low same f here =
    subst (λ (v : ℤ). IsRowAt at v (rows_of items)) (to_z-of_z w64 low f) (subst (λ (xs : List Row). IsRowAt at (to_z w64 (of_z w64 low)) (rows_of xs)) same here)

pub reach_cast : (items slice : List Row) (v : ℤ) (n : ℕ) → slice ≡ items → n ≡ reach (to_z w64 (of_z w64 v)) (rows_of slice) → SFits w64 v → n ≡ reach v (rows_of items)
reach_cast items slice v n same is f = is ∙ (ap (λ (w : ℤ). reach w (rows_of slice)) (to_z-of_z w64 v f) ∙ ap (λ (xs : List Row). reach v (rows_of xs)) same)
