-- What one more entry does to the ranges of a field.
use Rattle.std.specs.Prelude.{ℕ, cond, ℤ, int_le, int_lt, [], ◌∷◌, ◌++◌}
use Rattle.std.specs.List.{filter}
use Rattle.inverted_list.specs.declared.marker.Markers.{Markers}
use Rattle.inverted_list.specs.Listing.{Listing, with_entry, marker_of, filled_list}
pub use Rattle.gc_splice.specs.Markers.{marker_after}
use Rattle.posting_block.specs.declared.hits.NumHit.{NumHit}
use Rattle.numeric_ranges.specs.Values.{Entries, values, cut_of, splits}
use Rattle.numeric_ranges.specs.Ranges.{Rows, low_of, is_below}

-- the entries below a cut, with the marker that is given next
abbrev pub left_half : ℤ → Entries → Markers → Listing NumHit
left_half cut es markers = filled_list (marker_of markers) (filter (λ e. int_lt e.1.value cut) es)

-- the entries from a cut on, with the marker after that one
abbrev pub right_half : ℤ → Entries → Markers → Listing NumHit
right_half cut es markers = filled_list (marker_of (marker_after markers)) (filter (λ e. int_le cut e.1.value) es)

-- a range as it is, or in two halves if it splits
abbrev pub parts_of : ℤ → Listing NumHit → Markers → Rows
parts_of low list markers =
    let cut = cut_of (values list.entries) in
    cond (splits list.entries)
    ((low, left_half cut list.entries markers) ∷ (cut, right_half cut list.entries markers) ∷ [])
    ((low, list) ∷ [])

-- the rows with one more entry, in the row that its value lies in
abbrev pub added : Rows → ℕ → ℤ → Markers → Rows
added [] id value markers = []
added (row ∷ rows) id value markers =
    cond (is_below (low_of rows) value)
    (parts_of row.0 (with_entry row.1 id (record { value = value })) markers ++ rows)
    (row ∷ added rows id value markers)
