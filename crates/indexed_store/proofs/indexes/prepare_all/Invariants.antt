use Rattle.std.specs.Prelude.{◌≡◌, ◌<◌, ◌≤◌, ◌+◌, ℕ, length, slice_index_or}
use Rattle.std.specs.List.{AllPairs}
use Rattle.indexed_store.specs.Indexing.{Awaits}
use Rattle.indexed_store.specs.Standing.{AreApart, IndexStands}
use Rattle.indexed_store.specs.DefinitionsOf.{definitions_of}
use Rattle.indexed_store.specs.Listed.{EntersDoc}
use Rattle.indexed_store.specs.Moving.{IndexesMove}
use Rattle.ft_index.specs.Index.{Index}
use Rattle.indexed_store.proofs.indexes.prepare_all.Given as goal

-- the document waits in the indexes so far, and the others are as they were
abbrev pub invariant-loop-index : goal.invariant-loop-index
invariant-loop-index g l = record {
  done : (k : ℕ) (d : Index) → k < l.index-index → IndexStands g.space (l.doc.id + 1) l.markers (slice_index_or l.indexes k d) × Awaits g.space l.doc (slice_index_or l.indexes k d);
  left : (k : ℕ) (d : Index) → l.index-index ≤ k → k < length l.indexes → IndexStands g.space l.doc.id l.markers (slice_index_or l.indexes k d);
  definitions : definitions_of l.indexes ≡ definitions_of l.fn.indexes;
  enters : EntersDoc l.doc l.fn.indexes l.indexes;
  apart : AllPairs AreApart l.indexes;
  event : l.markers.event ≡ l.fn.markers.event;
  moves : IndexesMove l.fn.markers.event l.fn.indexes l.indexes;
}
