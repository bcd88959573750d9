-- What an index stands for where a document is prepared, made live, or taken out.
use Rattle.std.specs.Prelude.{◌≡◌, ◌<◌, ◌≤◌, ℕ, false, List, [], ◌∷◌, ◌++◌, Option, None, Some, IfSome, nat_eq, refl}
use Rattle.std.proofs.Common.{ap, inl, inr, arith}
use Rattle.std.specs.Map.{remove_entry}
use Rattle.std.specs.Option.{option_map}
use Rattle.std.proofs.lemmas.Bool.{cases_Bool}
use Rattle.doc_table.specs.Table.{Table, Vector}
use Rattle.ft_base.specs.declared.definition.IndexDef.{IndexDef}
use Rattle.ft_base.specs.Docs.{Doc}
use Rattle.ft_meaning.specs.Sortable.{sorting_vector}
use Rattle.ft_index.proofs.AliveLaws.{has_id-above}
use Rattle.ft_index.specs.Lists.{AllLists, has_id}
use Rattle.inverted_list.specs.Listing.{RisesAbove, last_id}
use Rattle.numeric_ranges.proofs.HalfLaws.{last_more, rises_low}
use Rattle.ft_index.specs.Entering.{awaiting}
use Rattle.ft_index.specs.Index.{commits}
use Rattle.ft_index.specs.Kept.{AreKept}

-- an id above the last that was prepared is not live
pub dead-yet : (table : Table) (lists : AllLists) (id : ℕ) → AreKept table lists → table.last < id → has_id table.live id ≡ false
dead-yet table lists id kept later = has_id-above 0 id table.live kept.rise (omega (arith, kept.end, later))

-- what is live once the document is committed for which the table made room
pub live-committed : (def : IndexDef) (old table : Table) (doc : Doc) → table ≡ awaiting def doc old → (commits table.ready table).live ≡ old.live ++ (doc.id, sorting_vector def doc) ∷ []
live-committed def old table doc waits = ap (λ (t : Table). (commits t.ready t).live) waits

pub rises-removed : {V : Type 0} (low id : ℕ) (rows : List (ℕ × V)) → RisesAbove low rows → RisesAbove low (remove_entry (nat_eq id) rows)
rises-removed low id [] rises = tt
rises-removed low id (row ∷ rows) rises =
    elim (cases_Bool (nat_eq id row.0)) [
      | inl here ↦ rw here (rises_low low row.0 rows (omega (arith, rises.0)) rises.1)
      | inr away ↦ rw away (rises.0, rises-removed row.0 id rows rises.1)
    ]

pub last-removed : {V : Type 0} (low id : ℕ) (rows : List (ℕ × V)) → RisesAbove low rows → last_id low (remove_entry (nat_eq id) rows) ≤ last_id low rows
last-removed low id [] rises = omega arith
last-removed low id (row ∷ rows) rises =
    elim (cases_Bool (nat_eq id row.0)) [
      | inl here ↦ rw here (last_more low row.0 rows (omega (arith, rises.0)))
      | inr away ↦ rw away (last-removed row.0 id rows rises.1)
    ]

-- what holds of every index goes on holding where an id is taken out
pub kept-gone : (table : Table) (lists : AllLists) (id : ℕ) → AreKept table lists → AreKept (record table { live = remove_entry (nat_eq id) table.live }) lists
kept-gone table lists id index =
    let less = last-removed 0 id table.live index.rise in
    record {
      rise = rises-removed 0 id table.live index.rise;
      end = omega (arith, less, index.end);
      waits = waits_lower table.ready index.waits less;
      up_to = index.up_to;
      differ = index.differ;
    }
  where
    waits_lower : (ready : Option (ℕ × Vector)) → IfSome ready (λ row. (last_id 0 table.live < row.0) × (row.0 ≤ table.last))
        → last_id 0 (remove_entry (nat_eq id) table.live) ≤ last_id 0 table.live
        → IfSome ready (λ row. (last_id 0 (remove_entry (nat_eq id) table.live) < row.0) × (row.0 ≤ table.last))
    waits_lower None waits less = tt
    waits_lower (Some row) waits less = (omega (arith, waits.0, less), waits.1)

pub rises-push : {V : Type 0} (low : ℕ) (row : ℕ × V) (rows : List (ℕ × V)) → RisesAbove low rows → last_id low rows < row.0 → RisesAbove low (rows ++ row ∷ [])
rises-push low row [] rises above = (above, tt)
rises-push low row (first ∷ rows) rises above = (rises.0, rises-push first.0 row rows rises.1 above)

pub last-push : {V : Type 0} (low : ℕ) (row : ℕ × V) (rows : List (ℕ × V)) → last_id low (rows ++ row ∷ []) ≡ row.0
last-push low row [] = refl
last-push low row (first ∷ rows) = last-push first.0 row rows

-- and where the document that waits becomes live
pub kept-committed : (table : Table) (lists : AllLists) → AreKept table lists → AreKept (commits table.ready table) lists
kept-committed table lists index = by_ready table.ready index.waits
  where
    by_ready : (ready : Option (ℕ × Vector)) → IfSome ready (λ row. (last_id 0 table.live < row.0) × (row.0 ≤ table.last)) → AreKept (commits ready table) lists
    by_ready None waits = index
    by_ready (Some row) waits = record {
      rise = rises-push 0 row table.live index.rise waits.0;
      end = rw (last-push 0 row table.live) waits.1;
      waits = tt;
      up_to = index.up_to;
      differ = index.differ;
    }

-- what a table's commit leaves
pub table-committed : (old new : Table) (ready : Option (ℕ × Vector)) (id : ℕ) → option_map (λ row. row.0) ready ≡ Some id
    → IfSome ready (λ row. new ≡ record old { live = old.live ++ row ∷ []; ready = None }) → new ≡ commits ready old
table-committed old new None id waiting after = cc (waiting)
table-committed old new (Some row) id waiting after = after
