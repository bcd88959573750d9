-- An index whose lists lost their dead entries, among the others.
use Rattle.std.specs.Prelude.{◌≡◌, ◌<◌, ◌+◌, ℕ, List, length, slice_index_or, slice_set}
use Rattle.std.proofs.Common.{ap, inl, arith}
use Rattle.ft_index.specs.Index.{Index, IsIndex, StandsOn}
use Rattle.ft_index.specs.Markers.{AreBefore, GainsMarkers}
use Rattle.hash_store.specs.Store.{Store}
use Rattle.inverted_list.specs.declared.marker.Markers.{Markers}
use Rattle.indexed_store.specs.Standing.{IndexStands, InStep, markers_at}
use Rattle.indexed_store.proofs.ApartLaws.{apart-prepared}
use Rattle.indexed_store.proofs.IndexingLaws.{all-set, are_before-later, stands-later}
use Rattle.indexed_store.proofs.StepLaws.{space-later}

-- where other lists stand for the same documents, and those that changed have markers of this event, each index stands
pub in_step-collected : (store : Store) (indexes : List Index) (event at : ℕ) (d new : Index) (to : Markers) → at < length indexes → StandsOn (slice_index_or indexes at d) new
    → new ≡ record (slice_index_or indexes at d) { lists = new.lists } → IsIndex new → AreBefore to new.lists → GainsMarkers (slice_index_or indexes at d).lists new.lists (markers_at event) to
    → to.event ≡ event → InStep store indexes event → InStep store (slice_set indexes at new) (event + 1)
in_step-collected store indexes event at d new to within stands lists sound before gains same step =
    let was = step.stand at d within in
    let last : new.table.last ≡ (slice_index_or indexes at d).table.last = ap (λ (index : Index). index.table.last) lists in
    let here : IndexStands store.space (event + 1) (markers_at (event + 1)) new = record {
      documents = stands store.space was.documents;
      sound = sound;
      earlier = omega (arith, was.earlier, last);
      before = are_before-later to (markers_at (event + 1)) new.lists (inl (omega (arith, same))) before;
    } in record {
      last = omega (arith, step.last);
      documents = space-later store.space event step.documents;
      stand = all-set (IndexStands store.space (event + 1) (markers_at (event + 1))) indexes at new within here
          (λ k e apart short. stands-later store.space event (event + 1) (markers_at event) (markers_at (event + 1)) (slice_index_or indexes k e) (omega arith) (inl (omega arith)) (step.stand k e short));
      apart = apart-prepared indexes at d new (markers_at event) to within gains (λ k e short. (step.stand k e short).before) step.apart;
    }
