-- A list's own repair fits it.
use Rattle.std.proofs.Common.{◌≡◌, ℕ, List, [], ◌∷◌, ◌++◌, Bool, true, refl, sym, subst}
use Rattle.std.specs.List.{AllByRecursion}
use Rattle.gc_splice.specs.declared.repair.Repair.{Repair}
use Rattle.gc_splice.specs.Splice.{Fits, picture_of}
use Rattle.gc_splice.proofs.GrowingLaws.{fits_grows, grows_same}
use Rattle.inverted_list.specs.Blocks.{entries}
use Rattle.inverted_list.specs.Listing.{Listing, last_id}
use Rattle.list_figures.specs.Figures.{IsRepairOf}

module _ {P : Type 0} where
  -- an entry that is added is the last one
  pub last_id_push : (low id : ℕ) (hit : P) (es : List (ℕ × P)) → last_id low (es ++ (id, hit) ∷ []) ≡ id
  last_id_push low id hit [] = refl
  last_id_push low id hit (e ∷ es) = last_id_push e.0 id hit es

module _ {P : Type 0} (live : ℕ → Bool) where
  -- what is live is live
  each-live : (es : List (ℕ × P)) → AllByRecursion (λ e. live e.0 ≡ true → live e.0 ≡ true) es
  each-live [] = tt
  each-live (e ∷ es) = ((λ is. is), each-live es)

  pub fits-own : (l : Listing P) (r : Repair P) → IsRepairOf live l r → Fits live r (picture_of l)
  fits-own l r (p, view, is) =
      subst (λ (x : Repair P). Fits live x (picture_of l)) (sym is) (fits_grows live live p l l view (grows_same l) (each-live (entries p)))
