-- The repair of a word's list fits while ids die.
use Rattle.std.proofs.Common.{◌≡◌, ℕ, ◌+◌, List, [], ◌∷◌, Bool, true, Option, Some, None, IfSome, sym, subst, arith}
use Rattle.std.specs.List.{AllByRecursion}
use Rattle.gc_splice.specs.declared.repair.Repair.{Repair}
use Rattle.gc_splice.specs.Splice.{Fits, picture_of}
use Rattle.gc_splice.proofs.GrowingLaws.{fits_grows, grows_same}
use Rattle.inverted_list.specs.Blocks.{entries}
use Rattle.inverted_list.specs.Listing.{Listing}
use Rattle.ft_index.specs.Index.{Index, is_live, killed}
use Rattle.ft_index.specs.Splicing.{FitsList}
use Rattle.ft_index.proofs.ComingLaws.{came-killed}
use Rattle.leaf_rows.specs.Splicing.{IsRepairOf}

module _ {P : Type 0} (was live : ℕ → Bool) (lives : (id : ℕ) → live id ≡ true → was id ≡ true) where
  each-lives : (es : List (ℕ × P)) → AllByRecursion (λ e. live e.0 ≡ true → was e.0 ≡ true) es
  each-lives [] = tt
  each-lives (e ∷ es) = (lives e.0, each-lives es)

  pub fits-lives : (o : Option (Listing P)) (r : Repair P) → IfSome o (λ l. IsRepairOf was l r) → FitsList live r o
  fits-lives None r is = is
  fits-lives (Some l) r (p, view, is) = λ same.
      subst (λ (x : Repair P). Fits live x (picture_of l)) (sym is) (fits_grows was live p l l view (grows_same l) (each-lives (entries p)))

-- an id that is taken out makes no other one live
pub kill-live : (id other : ℕ) (old new : Index) → new ≡ killed id old → is_live new other ≡ true → is_live old other ≡ true
kill-live id other old new gone is =
    (came-killed (other + 1) id old).live other (omega arith) (subst (λ (i : Index). is_live i other ≡ true) gone is)
