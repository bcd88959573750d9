-- What holds of an index that is being filled.
use Rattle.std.specs.Prelude.{List}
use Rattle.ft_base.specs.Docs.{Doc}
use Rattle.ft_index.specs.Index.{Index, Indexes, IsIndex}
use Rattle.ft_index.specs.Markers.{AreBefore}
use Rattle.indexed_store.specs.Standing.{AreOfEvent}
use Rattle.inverted_list.specs.declared.marker.Markers.{Markers}

-- It has taken these documents. The markers of its lists are of its event, and were given before.
pub record HasTaken (markers : Markers) (docs : List Doc) (index : Index) : Type 0 where
  pub stands : Indexes index docs
  pub sound : IsIndex index
  pub before : AreBefore markers index.lists
  pub given : AreOfEvent markers.event index
