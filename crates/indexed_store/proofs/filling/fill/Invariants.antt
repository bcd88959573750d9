use Rattle.std.specs.Prelude.{◌≡◌, ◌++◌, List, length}
use Rattle.ft_base.specs.Docs.{Doc}
use Rattle.ft_machine.specs.Definitions.{failures_over}
use Rattle.indexed_store.specs.Filling.{HasTaken}
use Rattle.indexed_store.proofs.FillingLaws.{AreLeft}
use Rattle.indexed_store.proofs.filling.fill.Given as goal

-- the index has the documents so far, which with those that are left are the whole
abbrev pub invariant-filling : goal.invariant-filling
invariant-filling l = record {
  done : List Doc;
  whole : done ++ l.docs ≡ l.fn.store.space;
  taken : HasTaken l.markers done l.index;
  left : AreLeft l.index.table.last l.fn.markers.event l.docs;
  failures : failures_over l.fn.index.def l.docs l.index.failures ≡ failures_over l.fn.index.def l.fn.store.space l.fn.index.failures;
  def : l.index.def ≡ l.fn.index.def;
  event : l.markers.event ≡ l.fn.markers.event;
}

abbrev pub decreases-filling : goal.decreases-filling
decreases-filling l = length l.docs
