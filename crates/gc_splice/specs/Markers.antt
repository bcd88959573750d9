-- The markers of an event once one was given.
use Rattle.std.specs.Prelude.{◌+◌}
use Rattle.inverted_list.specs.declared.marker.Markers.{Markers}

-- the markers that are left once the next one is given
abbrev pub marker_after : Markers → Markers
marker_after m = record m { next = m.next + 1 }
