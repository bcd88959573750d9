-- What holds of the documents and the posting lists of every index.
use Rattle.std.specs.Prelude.{◌<◌, ◌≤◌, IfSome}
use Rattle.doc_table.specs.Table.{Table}
use Rattle.ft_index.specs.Lists.{AllLists}
use Rattle.ft_index.specs.Markers.{MarkersDiffer}
use Rattle.ft_index.specs.UpTo.{AreUpTo}
use Rattle.inverted_list.specs.Listing.{RisesAbove, last_id}

-- Live ids rise, and one that waits is above the live ones. In every list the ids rise. No id is above the last that was
-- prepared, and no two lists have one marker.
pub record AreKept (table : Table) (lists : AllLists) : Type 0 where
  pub rise : RisesAbove 0 table.live
  pub end : last_id 0 table.live ≤ table.last
  pub waits : IfSome table.ready (λ row. (last_id 0 table.live < row.0) × (row.0 ≤ table.last))
  pub up_to : AreUpTo table.last lists
  pub differ : MarkersDiffer lists
