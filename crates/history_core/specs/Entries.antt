-- The entries of histories: what each event left. No value of them is made.
use Rattle.std.specs.Prelude.{ℕ, List}

-- What a scan took of an index: a snapshot; or nothing, where no index has the name, or memory ran out.
pub data Scanned (K : Type 0) : Type 0 where
  Taken : (snapshot : K) → Scanned K
  NoIndex : Scanned K
  NoMemory : Scanned K

-- What one event left in a history, whose snapshots, names of lists and answers of splices are of these types.
pub data Entry (K N A : Type 0) : Type 0 where
  -- a caller's command at a moment, in milliseconds, and its reply
  Exec : (caller moment : ℕ) (words : List (List ℕ)) (reply : List ℕ) → Entry K N A
  -- a scan of the index of a name
  Scan : (caller : ℕ) (index : List ℕ) (result : Scanned K) → Entry K N A
  -- the splice of the list of a name, as the scan at a place pictured it
  Splice : (caller scan : ℕ) (name : N) (answer : A) → Entry K N A
