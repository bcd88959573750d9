-- The pictures of a history that grows, and where the scans that took them stand.
use Rattle.std.proofs.Common.{◌≡◌, ◌⊎◌, inl, inr, ℕ, zero, suc, List, [], ◌∷◌, ◌++◌, Option, Some, refl, ap}
use Rattle.history_core.specs.Entries.{Entry, Exec, NoIndex, NoMemory, Scan, Scanned, Splice, Taken}
use Rattle.history_core.specs.Histories.{at}
use Rattle.history_core.specs.Pictures.{Pictured, listed, listed_in, scan_place, taken, taken_by}

module _ {K N A P : Type 0} (pictures : K → List P) where
  -- what the scans among these and those took
  pub taken-append : (entries others : List (Entry K N A)) → taken pictures (entries ++ others) ≡ taken pictures entries ++ taken pictures others
  taken-append [] others = refl
  taken-append (Exec caller moment words reply ∷ entries) others = taken-append entries others
  taken-append (Scan caller index result ∷ entries) others = ap (λ (l : List (Option (List P))). taken_by pictures result ∷ l) (taken-append entries others)
  taken-append (Splice caller scan name answer ∷ entries) others = taken-append entries others

  -- What is known of a pictured list: the snapshot that it is of was taken by a scan at a place.
  pub record IsOf (entries : List (Entry K N A)) (place list : ℕ) (picture : P) : Type 0 where
    pub snapshot : K
    pub pictured : Pictured entries place snapshot
    pub there : at (pictures snapshot) list ≡ Some picture

  -- one entry before them
  later : (entry : Entry K N A) (entries : List (Entry K N A)) (place list : ℕ) (picture : P) → IsOf entries place list picture → IsOf (entry ∷ entries) (suc place) list picture
  later entry entries place list picture is = record {
    snapshot = is.snapshot;
    pictured = record { caller = is.pictured.caller; index = is.pictured.index; is = is.pictured.is };
    there = is.there;
  }

  first : (caller : ℕ) (index : List ℕ) (result : Scanned K) (entries : List (Entry K N A)) (list : ℕ) (picture : P) → listed_in (Some (taken_by pictures result)) list ≡ Some picture
      → IsOf (Scan caller index result ∷ entries) 0 list picture
  first caller index (Taken snapshot) entries list picture is = record { snapshot = snapshot; pictured = record { caller = caller; index = index; is = refl }; there = is }
  first caller index NoIndex entries list picture is = absurd (let no : ⊥ = cc in no)
  first caller index NoMemory entries list picture is = absurd (let no : ⊥ = cc in no)

  -- a picture that is listed is one of the scan at its place
  pub is-pictured : (entries : List (Entry K N A)) (scan list : ℕ) (picture : P) → listed (taken pictures entries) scan list ≡ Some picture → IsOf entries (scan_place entries scan) list picture
  is-pictured [] scan list picture is = absurd (let no : ⊥ = cc in no)
  is-pictured (Exec caller moment words reply ∷ entries) scan list picture is =
      later (Exec caller moment words reply) entries (scan_place entries scan) list picture (is-pictured entries scan list picture is)
  is-pictured (Scan caller index result ∷ entries) zero list picture is = first caller index result entries list picture is
  is-pictured (Scan caller index result ∷ entries) (suc scan) list picture is =
      later (Scan caller index result) entries (scan_place entries scan) list picture (is-pictured entries scan list picture is)
  is-pictured (Splice caller place name answer ∷ entries) scan list picture is =
      later (Splice caller place name answer) entries (scan_place entries scan) list picture (is-pictured entries scan list picture is)

module _ {P : Type 0} where
  -- what is listed behind one scan more was listed before, or is of that scan
  pub listed-push : (scans : List (Option (List P))) (kept : Option (List P)) (scan list : ℕ) (picture : P) → listed (scans ++ kept ∷ []) scan list ≡ Some picture
      → (listed scans scan list ≡ Some picture) ⊎ (listed_in (Some kept) list ≡ Some picture)
  listed-push [] kept zero list picture is = inr is
  listed-push [] kept (suc scan) list picture is = absurd (let no : ⊥ = cc in no)
  listed-push (x ∷ scans) kept zero list picture is = inl is
  listed-push (x ∷ scans) kept (suc scan) list picture is = listed-push scans kept scan list picture is
