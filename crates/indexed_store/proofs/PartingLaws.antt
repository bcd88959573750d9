-- An index of which a part was pictured, among the others.
use Rattle.std.specs.Prelude.{◌≡◌, ◌<◌, ◌≤◌, ℕ, List, length, slice_index_or, slice_set}
use Rattle.std.proofs.Common.{ap, sym, ◌∙◌, subst, inl, inr, arith}
use Rattle.std.proofs.lemmas.Bool.Decides.{eqb_tells}
use Rattle.std.proofs.lemmas.List.{set-get_or}
use Rattle.ft_index.specs.Index.{Index, IsIndex, StandsOn}
use Rattle.ft_index.specs.Markers.{AreBefore, GainsMarkers}
use Rattle.ft_machine.specs.Step.{last_number, next_number}
use Rattle.hash_store.specs.Store.{Store}
use Rattle.inverted_list.specs.declared.marker.Markers.{Markers}
use Rattle.indexed_store.specs.Standing.{InStep, markers_at}
use Rattle.indexed_store.proofs.ChangingLaws.{next-below}
use Rattle.indexed_store.proofs.CollectingLaws.{in_step-collected}
use Rattle.indexed_store.proofs.HoldingLaws.{in_step-until}

-- an index that is put in its own place
pub set-still : (indexes : List Index) (at : ℕ) (d new : Index) → new ≡ slice_index_or indexes at d → slice_set indexes at new ≡ indexes
set-still indexes at d new same = ap (λ (x : Index). slice_set indexes at x) same ∙ set-get_or indexes at d

-- each number is at most the next one, up to the last
pub next-behind : (event : ℕ) → event ≤ last_number → event ≤ next_number event
next-behind event most = omega (arith, most)

-- Where other lists stand for the same documents, and those that changed have markers of this event, each index stands. At the
-- last number, behind which no marker is, nothing changes.
pub in_step-parted : (store : Store) (indexes : List Index) (event at : ℕ) (d new : Index) (to : Markers) → event ≤ last_number → at < length indexes → StandsOn (slice_index_or indexes at d) new
    → new ≡ record (slice_index_or indexes at d) { lists = new.lists } → IsIndex new → AreBefore to new.lists → GainsMarkers (slice_index_or indexes at d).lists new.lists (markers_at event) to
    → to.event ≡ event → (last_number ≤ event → new ≡ slice_index_or indexes at d) → InStep store indexes event → InStep store (slice_set indexes at new) (next_number event)
in_step-parted store indexes event at d new to most within stands lists sound before gains same still step = elim (eqb_tells event last_number) [
  | inl last ↦
      let late : last_number ≤ event = omega (arith, last.1) in
      subst (λ (xs : List Index). InStep store xs (next_number event)) (sym (set-still indexes at d new (still late)))
      (in_step-until store indexes event (next_number event) (next-behind event most) step)
  | inr apart ↦
      let early : event < last_number = omega (arith, most, apart.1) in
      subst (λ (n : ℕ). InStep store (slice_set indexes at new) n) (sym (next-below event early))
      (in_step-collected store indexes event at d new to within stands lists sound before gains same step)
]
