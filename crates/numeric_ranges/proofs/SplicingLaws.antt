-- What a splice and a collection of one row's list make of all rows.
use Rattle.std.proofs.Common.{◌≡◌, ◌-◌, ℕ, ◌<◌, Bool, not, length, get_or, set, List, sym, ap, subst, ◌∙◌, ℤ}
use Rattle.posting_block.specs.declared.hits.NumHit.{NumHit}
use Rattle.inverted_list.specs.declared.marker.Marker.{Marker}
use Rattle.inverted_list.specs.declared.marker.Markers.{Markers}
use Rattle.inverted_list.specs.Listing.{Listing}
use Rattle.gc_splice.specs.declared.repair.Repair.{Repair}
use Rattle.gc_splice.specs.declared.splice.Spliced.{Spliced}
use Rattle.gc_splice.specs.declared.splice.Spliced.TheVariants.{Done}
use Rattle.gc_splice.specs.Splice.{SplicesList, picture_of, tail_stands}
use Rattle.numeric_ranges.specs.declared.row.Row.{Row}
use Rattle.numeric_ranges.specs.Ranges.{with_list, LowsRise}
use Rattle.numeric_ranges.specs.Rows.{rows_of, Knows, Held, IsRowAt}
use Rattle.numeric_ranges.specs.Splicing.{SplicesRange, CollectsList, CollectsRange}
use Rattle.numeric_ranges.proofs.AddLaws.{all_at}
use Rattle.numeric_ranges.proofs.PutLaws.{put_rows, put_same}

-- what is known of a row
pub knows_at : (items : List Row) (at : ℕ) (row : Row) → Held items → at < length items → row ≡ get_or items at row → Knows row.spread row.list.entries
knows_at items at row held less is =
    subst (λ (r : Row). Knows r.spread r.list.entries) (sym is) (all_at (λ (r : Row). Knows r.spread r.list.entries) items at row held.known less)

module _ (items : List Row) (at : ℕ) (low : ℤ) (row new : Row) (rise : LowsRise (rows_of items)) (here : IsRowAt at low (rows_of items)) (is : row ≡ get_or items at row) (same : new.low ≡ row.low) where
  pub range_spliced : (repair : Repair NumHit) (marker : Marker) (outcome : Spliced) → SplicesList repair marker row.list new.list outcome
      → SplicesRange low repair marker row.list (rows_of items) (rows_of (set items at new)) outcome
  range_spliced repair marker outcome s = record {
    moved = λ other. (put_same items at low row new rise here is same (s.moved other).0, (s.moved other).1);
    done = λ this. (
      put_rows items at low row new rise here is same ∙ ap (λ (l : Listing NumHit). with_list (rows_of items) low l) (s.done this).0,
      (s.done this).1 ∙ ap (λ (l : Listing NumHit). Done (length row.list.entries - length l.entries) (not (tail_stands (picture_of row.list) repair))) (s.done this).0,
    );
    blocks = s.blocks;
  }

  pub range_collected : (live : ℕ → Bool) (markers after : Markers) → CollectsList live markers row.list new.list after
      → CollectsRange live low markers row.list (rows_of items) (rows_of (set items at new)) after
  range_collected live markers after c = record {
    clean = λ all. (put_same items at low row new rise here is same (c.clean all).0, (c.clean all).1);
    dead = λ some. (new.list, (c.dead some).0, put_rows items at low row new rise here is same, (c.dead some).1);
  }
