-- What a repair makes of the list that was just pictured: the list without its dead entries.
use Rattle.std.proofs.Common.{◌≡◌, ℕ, ◌∷◌, [], ◌++◌, List, map, Bool, true, false, cond, Option, Some, None, refl, ap, sym, ◌∙◌, arith, subst}
use Rattle.std.specs.Prelude.{option_to_list}
use Rattle.std.specs.List.{AllByRecursion}
use Rattle.std.proofs.lemmas.List.{length-map}
use Rattle.std.proofs.lemmas.Bool.Decides.{nat_tests}
use Rattle.inverted_list.specs.declared.marker.Marker.{Marker}
use Rattle.inverted_list.specs.declared.picture.Picture.{Picture}
use Rattle.inverted_list.specs.Blocks.{joined, entries, listing}
use Rattle.inverted_list.specs.Listing.{Listing}
use Rattle.gc_splice.specs.declared.repair.BlockRepair.TheVariants.{Same}
use Rattle.gc_splice.specs.declared.repair.Repair.{Repair}
use Rattle.gc_splice.specs.Alive.{alive, all_alive}
use Rattle.gc_splice.specs.Repaired.{block_after, changed_to, repair_of_block, repaired}
use Rattle.gc_splice.specs.Splice.{picture_of, mended, tail_stands, splice_of, Fits, BlocksComeFirst, spliced}
use Rattle.gc_splice.proofs.AliveLaws.{alive_append, all_kept}
use Rattle.gc_splice.proofs.GrowingLaws.{grows_same, fits_grows}
use Rattle.gc_splice.proofs.SpliceLaws.{listing_is}

module _ {P : Type 0} (live : ℕ → Bool) where
  all_same : (xs : List (ℕ × P)) → AllByRecursion (λ e. live e.0 ≡ true → live e.0 ≡ true) xs
  all_same [] = tt
  all_same (x ∷ xs) = (λ on. on, all_same xs)

  -- a repair fits the list that it was made of
  pub fits_same : (p : Picture P) → Fits live (repaired live p) (picture_of (listing p))
  fits_same p = fits_grows live live p (listing p) (listing p) refl (grows_same (listing p)) (all_same (entries p))

  pub fits_list : (l : Listing P) → BlocksComeFirst l → Fits live (repaired live (picture_of l)) (picture_of l)
  fits_list l first = subst (λ k. Fits live (repaired live (picture_of l)) (picture_of k)) (listing_is l first) (fits_same (picture_of l))

  one_block : (b : List (ℕ × P)) (bs : List (List (ℕ × P))) → joined (option_to_list (block_after b (repair_of_block live b)) ++ bs) ≡ alive live b ++ joined bs
  one_block b bs = by (all_alive live b) refl
    where
      left : (es : List (ℕ × P)) → joined (option_to_list (block_after b (changed_to es)) ++ bs) ≡ es ++ joined bs
      left [] = refl
      left (e ∷ es) = refl

      by : (t : Bool) → all_alive live b ≡ t → joined (option_to_list (block_after b (cond t Same (changed_to (alive live b)))) ++ bs) ≡ alive live b ++ joined bs
      by true h = ap (λ x. x ++ joined bs) (sym (all_kept live b h))
      by false h = left (alive live b)

  blocks_alive : (bs : List (List (ℕ × P))) → joined (mended (map (repair_of_block live) bs) bs) ≡ alive live (joined bs)
  blocks_alive [] = refl
  blocks_alive (b ∷ bs) = one_block b (mended (map (repair_of_block live) bs) bs) ∙ ap (λ x. alive live b ++ x) (blocks_alive bs) ∙ sym (alive_append live b (joined bs))

  stands : (p : Picture P) → tail_stands p (repaired live p) ≡ true
  stands p = let n = length-map p.sealed (repair_of_block live) in grind (arith, nat_tests, n)

  pub whole : (p : Picture P) (m : Marker) → entries (splice_of p (repaired live p) m) ≡ alive live (entries p)
  whole p m =
      ap (λ t. joined (mended (map (repair_of_block live) p.sealed) p.sealed) ++ cond t (alive live p.tail) p.tail) (stands p)
      ∙ ap (λ x. x ++ alive live p.tail) (blocks_alive p.sealed)
      ∙ sym (alive_append live (joined p.sealed) p.tail)

  -- so of a list as contracts see it
  pub whole_list : (l : Listing P) (m : Marker) → BlocksComeFirst l → (spliced l (repaired live (picture_of l)) m).entries ≡ alive live l.entries
  whole_list l m first = whole (picture_of l) m ∙ ap (λ es. alive live es) first

  -- what a repair is, where one was made, and that each entry is live where none was
  pub none_made : (l : Listing P) (o : Option (Repair P)) → o ≡ cond (all_alive live l.entries) None (Some (repaired live (picture_of l))) → o ≡ None → all_alive live l.entries ≡ true
  none_made l o is none = by (all_alive live l.entries) refl is
    where
      by : (b : Bool) → all_alive live l.entries ≡ b → o ≡ cond b None (Some (repaired live (picture_of l))) → all_alive live l.entries ≡ true
      by true t k = t
      by false t k = absurd (let no : ⊥ = cc (sym none ∙ k) in no)

  pub some_made : (l : Listing P) (o : Option (Repair P)) (r : Repair P) → o ≡ cond (all_alive live l.entries) None (Some (repaired live (picture_of l))) → o ≡ Some r → (r ≡ repaired live (picture_of l)) × (all_alive live l.entries ≡ false)
  some_made l o r is some = by (all_alive live l.entries) refl is
    where
      by : (b : Bool) → all_alive live l.entries ≡ b → o ≡ cond b None (Some (repaired live (picture_of l))) → (r ≡ repaired live (picture_of l)) × (all_alive live l.entries ≡ false)
      by true t k = absurd (let no : ⊥ = cc (sym some ∙ k) in no)
      by false t k = (let e : r ≡ repaired live (picture_of l) = cc (sym some ∙ k) in e, t)
