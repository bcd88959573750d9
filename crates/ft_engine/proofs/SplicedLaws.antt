-- The splice of a good picture's repair: that it fits, and what it is of the picture.
use Rattle.std.proofs.Common.{◌≡◌, ℕ, zero, suc, ◌<◌, Bool, List, [], ◌∷◌, length, Some, ap, arith}
use Rattle.std.specs.List.{Contains}
use Rattle.std.specs.Prelude.{slice_index_or}
use Rattle.doc_table.specs.Pages.{has_id}
use Rattle.ft_index.specs.declared.repairs.AnyRepair.{AnyRepair}
use Rattle.ft_index.specs.declared.repairs.AnyRepair.TheVariants as repairs
use Rattle.ft_index.specs.declared.snapshots.AnyPicture.{AnyPicture}
use Rattle.ft_index.specs.declared.snapshots.AnyPicture.TheVariants as pictures
use Rattle.ft_index.specs.declared.snapshots.NamedPicture.{NamedPicture}
use Rattle.ft_index.specs.declared.snapshots.Snapshot.{Snapshot}
use Rattle.gc_splice.specs.declared.splice.Spliced.{Spliced}
use Rattle.history_core.specs.Histories.{at}
use Rattle.indexed_store.specs.Repairing.{IndexesThin}
use Rattle.ft_engine.specs.Entries.{marker_of, readings}
use Rattle.ft_engine.specs.Pictures.{IsGoodNamed, RepairsPicture, SplicesBy}
use Rattle.ft_engine.specs.Stands.{IsIndexed, Stands}
use Rattle.ft_engine.specs.Stepping.{KeepsLast, SplicesAt, counted, seen_marker}
use Rattle.ft_machine.specs.History.{Comes}
use Rattle.ft_engine.proofs.PictureLaws.{comes-so, kind-of}

-- an item of a list stands at a place
at-place : {X : Type 0} (l : List X) (place : ℕ) (x : X) → place < length l → slice_index_or l place x ≡ x → (p : ℕ) × (at l p ≡ Some x)
at-place [] place x less is = absurd (omega (arith, less))
at-place (y ∷ l) zero x less is = (0, ap Some is)
at-place (y ∷ l) (suc place) x less is = let rest = at-place l place x (omega (arith, less)) is in (suc rest.0, rest.1)

pub contains-at : {X : Type 0} (l : List X) (x : X) → Contains l x → (place : ℕ) × (at l place ≡ Some x)
contains-at l x has = at-place l has.0 x has.1 has.2

-- a repair has the marker of the list that was pictured
pub repair-marker : (live : ℕ → Bool) (picture : AnyPicture) (repair : AnyRepair) → RepairsPicture live picture repair → seen_marker repair ≡ marker_of picture
repair-marker live (pictures.Word picture) (repairs.Word repair) is = ap (λ r. r.seen) is
repair-marker live (pictures.Tag picture) (repairs.Tag repair) is = ap (λ r. r.seen) is
repair-marker live (pictures.Range picture) (repairs.Range repair) is = ap (λ r. r.seen) is
repair-marker live (pictures.Word picture) (repairs.Tag repair) is = absurd is
repair-marker live (pictures.Word picture) (repairs.Range repair) is = absurd is
repair-marker live (pictures.Tag picture) (repairs.Word repair) is = absurd is
repair-marker live (pictures.Tag picture) (repairs.Range repair) is = absurd is
repair-marker live (pictures.Range picture) (repairs.Word repair) is = absurd is
repair-marker live (pictures.Range picture) (repairs.Tag repair) is = absurd is

-- what an engine tells of a splice is one of a picture
pub splices-by : (old new : Stands) (snapshot : Snapshot) (place : ℕ) (named : NamedPicture) (repair : AnyRepair) (outcome : Spliced) → at snapshot.lists place ≡ Some named → IsGoodNamed snapshot named old
    → RepairsPicture (has_id snapshot.live) named.picture repair → SplicesAt snapshot.serial named.name repair old new outcome → KeepsLast repair outcome new
    → new ≡ record (counted old) { indexes = new.indexes; last = new.last } → IndexesThin old.indexes new.indexes → IsIndexed new → SplicesBy old (record { snapshot = snapshot; place = place }) outcome new
splices-by old new snapshot place named repair outcome is good its splices kept still thin indexed = record {
  named = named;
  is = is;
  kind = kind-of good.taken.lists named.name named.picture good.list;
  repair = repair;
  repairs = its;
  splices = splices;
  state = ap (λ (e : Stands). e.state) still;
  next = ap (λ (e : Stands). e.next) still;
  thin = thin;
  kept = kept;
  indexed = indexed;
}

-- and one that a history may have
pub spliced-comes : (old new : Stands) (snapshot : Snapshot) (place : ℕ) (named : NamedPicture) (repair : AnyRepair) (outcome : Spliced) (is : at snapshot.lists place ≡ Some named) (good : IsGoodNamed snapshot named old)
    (its : RepairsPicture (has_id snapshot.live) named.picture repair) (splices : SplicesAt snapshot.serial named.name repair old new outcome) (kept : KeepsLast repair outcome new)
    (still : new ≡ record (counted old) { indexes = new.indexes; last = new.last }) (thin : IndexesThin old.indexes new.indexes) (indexed : IsIndexed new)
    → Comes readings old.next old.state.definitions snapshot named.name outcome
unfolding splices-by
spliced-comes old new snapshot place named repair outcome is good its splices kept still thin indexed =
    comes-so old new (record { snapshot = snapshot; place = place }) outcome (splices-by old new snapshot place named repair outcome is good its splices kept still thin indexed)
