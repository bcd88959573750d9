-- Which numbers are asked of the ranges of a field, for an interval.
use Rattle.std.specs.Prelude.{ℕ, ℤ, Bool, ◌&&◌, pos, negsuc, int_le, List, [], ◌∷◌, Option, if◌then◌else◌}
use Rattle.std.specs.List.{slice_get}
use Rattle.std.specs.Option.{unwrap_or}
use Rattle.id_iters.specs.Entries.{range_has}
use Rattle.id_iters.specs.Held.{Held, entries_of}
use Rattle.posting_block.specs.declared.hits.NumHit.{NumHit}

-- whether a range lies whole from `low` to `high`, where it begins at `least` and the next one at `next`
abbrev pub lies_whole : ℤ → ℤ → ℤ → Option ℤ → Bool
lies_whole low high least next = int_le low least && int_le (unwrap_or next (pos 9223372036854775807)) high

-- The ids that are asked of a range's entries: those of all numbers where it lies whole within, so that none is read.
abbrev pub asked_of : ℤ → ℤ → ℤ → Option ℤ → List (ℕ × NumHit) → ℕ → Bool
asked_of low high least next entries =
    if lies_whole low high least next
    then range_has (negsuc 9223372036854775807) (pos 9223372036854775807) entries
    else range_has low high entries

-- the ids that are asked of each range of a field, in their order
abbrev pub asked_of_each : Held → ℕ → ℤ → ℤ → List ℤ → List (ℕ → Bool)
asked_of_each held field low high [] = []
asked_of_each held field low high (least ∷ lows) =
    asked_of low high least (slice_get lows 0) (entries_of (held.ranges field least)) ∷ asked_of_each held field low high lows
