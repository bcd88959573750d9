-- The pictures that the scans of a history took.
use Rattle.std.specs.Prelude.{◌≡◌, ℕ, zero, suc, List, [], ◌∷◌, Some, None}
use Rattle.std.specs.declared.option.Option.{Option}
use Rattle.history_core.specs.Entries.{Entry, Exec, NoIndex, NoMemory, Scan, Scanned, Splice, Taken}
use Rattle.history_core.specs.Histories.{at}

module _ {K N A : Type 0} where
  -- the scan at a place took this snapshot
  pub record Pictured (entries : List (Entry K N A)) (place : ℕ) (snapshot : K) : Type 0 where
    pub caller : ℕ
    pub index : List ℕ
    pub is : at entries place ≡ Some (Scan caller index (Taken snapshot))

  -- the place of the scan of a number, counted from 0 among the scans alone
  abbrev pub scan_place : List (Entry K N A) → ℕ → ℕ
  scan_place [] number = 0
  scan_place (Exec caller moment words reply ∷ entries) number = suc (scan_place entries number)
  scan_place (Scan caller index result ∷ entries) zero = 0
  scan_place (Scan caller index result ∷ entries) (suc number) = suc (scan_place entries number)
  scan_place (Splice caller scan name answer ∷ entries) number = suc (scan_place entries number)

module _ {K P : Type 0} (pictures : K → List P) where
  -- the lists that a scan pictured, where it took a snapshot
  abbrev pub taken_by : Scanned K → Option (List P)
  taken_by (Taken snapshot) = Some (pictures snapshot)
  taken_by NoIndex = None
  taken_by NoMemory = None

  -- the same of each scan among entries
  abbrev pub taken : {N A : Type 0} → List (Entry K N A) → List (Option (List P))
  taken [] = []
  taken (Exec caller moment words reply ∷ entries) = taken entries
  taken (Scan caller index result ∷ entries) = taken_by result ∷ taken entries
  taken (Splice caller scan name answer ∷ entries) = taken entries

module _ {P : Type 0} where
  abbrev pub listed_in : Option (Option (List P)) → ℕ → Option P
  listed_in None list = None
  listed_in (Some None) list = None
  listed_in (Some (Some pictures)) list = at pictures list

  -- the picture of a number of the scan of a number, both from 0, where it is there
  abbrev pub listed : List (Option (List P)) → ℕ → ℕ → Option P
  listed scans scan list = listed_in (at scans scan) list
