-- That indexes which stand for documents before a number stand for them before any later one.
use Rattle.std.specs.Prelude.{◌≡◌, ◌<◌, ◌≤◌, ◌⊎◌, ℕ, List, Option}
use Rattle.std.proofs.Common.{arith, inl, inr}
use Rattle.std.proofs.lemmas.Bool.Decides.{eqb_tells}
use Rattle.cursor_book.specs.declared.cursor.Cursor.{Cursor}
use Rattle.ft_base.specs.Docs.{Doc}
use Rattle.ft_index.specs.Index.{Index}
use Rattle.hash_store.specs.Store.{Store}
use Rattle.indexed_store.specs.Holding.{AllStand, holding_of}
use Rattle.indexed_store.specs.declared.waiting.CursorPlace.{CursorPlace}
use Rattle.indexed_store.specs.Standing.{AreWritten, IndexStands, InStep, markers_at}
use Rattle.indexed_store.proofs.IndexingLaws.{stands-later}

before-until : (n m : ℕ) → n ≤ m → (n < m) ⊎ (n ≡ m)
before-until n m more = elim (eqb_tells n m) [
  | inl same ↦ inr same.1
  | inr apart ↦ inl (omega (arith, more, apart.1))
]

-- documents before a number are before a later one
pub written-until : (docs : List Doc) (n m : ℕ) → n ≤ m → AreWritten docs n → AreWritten docs m
written-until docs n m more written = record {
  rise = written.rise;
  earlier = omega (arith, more, written.earlier);
  keys = written.keys;
  fit = written.fit;
  filled = written.filled;
}

-- so is an index
pub stands-until : (docs : List Doc) (n m : ℕ) (index : Index) → n ≤ m → IndexStands docs n (markers_at n) index → IndexStands docs m (markers_at m) index
stands-until docs n m index more stands = stands-later docs n m (markers_at n) (markers_at m) index more (by_number (before-until n m more)) stands
  where
    by_number : (n < m) ⊎ (n ≡ m) → (n < m) ⊎ ((n ≡ m) × (0 ≤ 0))
    by_number (inl less) = inl less
    by_number (inr same) = inr (same, omega arith)

-- and all of them
pub in_step-until : (store : Store) (indexes : List Index) (n m : ℕ) → n ≤ m → InStep store indexes n → InStep store indexes m
in_step-until store indexes n m more step = record {
  last = omega (arith, more, step.last);
  documents = written-until store.space n m more step.documents;
  stand = λ k d short. stands-until store.space n m _ more (step.stand k d short);
  apart = step.apart;
}

-- the same, as it is seen from outside
pub all-stand : (store : Store) (indexes : List Index) (book : List Cursor) (opens : Option CursorPlace) (latest next number : ℕ) → next ≤ number → InStep store indexes next
    → AllStand number (holding_of store indexes book opens latest next)
all-stand store indexes book opens latest next number more step = let later = in_step-until store indexes next number more step in record {
  documents = later.documents;
  indexes = later.stand;
  apart = later.apart;
}
