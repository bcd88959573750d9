-- A list's own repair fits it.
use Rattle.std.proofs.Common.{◌≡◌, ℕ, List, [], ◌∷◌, Bool, true, Option, Some, None, IfSome, sym, subst}
use Rattle.std.specs.List.{AllByRecursion}
use Rattle.gc_splice.specs.declared.repair.Repair.{Repair}
use Rattle.gc_splice.specs.Growing.{Grows}
use Rattle.gc_splice.specs.Splice.{Fits, picture_of}
use Rattle.gc_splice.proofs.GrowingLaws.{fits_grows, grows_same}
use Rattle.inverted_list.specs.Blocks.{entries}
use Rattle.inverted_list.specs.Listing.{Listing}
use Rattle.leaf_rows.specs.Splicing.{IsRepairOf}

module _ {P : Type 0} (live : ℕ → Bool) where
  -- what is live is live
  pub each-live : (es : List (ℕ × P)) → AllByRecursion (λ e. live e.0 ≡ true → live e.0 ≡ true) es
  each-live [] = tt
  each-live (e ∷ es) = ((λ is. is), each-live es)

  -- also where the list has grown since
  pub fits-grown : (old new : Listing P) (r : Repair P) → IsRepairOf live old r → Grows old new → Fits live r (picture_of new)
  fits-grown old new r (p, view, is) grows =
      subst (λ (x : Repair P). Fits live x (picture_of new)) (sym is) (fits_grows live live p old new view grows (each-live (entries p)))

  -- where there is a list
  pub fits-some : (o : Option (Listing P)) (r : Repair P) → IfSome o (λ l. IsRepairOf live l r)
      → IfSome o (λ l. r.seen ≡ l.marker → (live : ℕ → Bool) × Fits live r (picture_of l))
  fits-some None r is = is
  fits-some (Some l) r is = λ same. (live, fits-grown l l r is (grows_same l))
