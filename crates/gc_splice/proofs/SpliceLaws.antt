-- A list that a fitting repair was laid over has lost dead entries alone, and is sound.
use Rattle.std.proofs.Common.{◌≡◌, ℕ, ◌<◌, ◌≤◌, ◌^◌, ◌∷◌, [], List, length, Bool, true, false, cond, refl, ap, sym, ◌∙◌, subst, arith}
use Rattle.std.specs.List.{AllByRecursion}
use Rattle.std.proofs.lemmas.List.Elements.{All-from_recursion, recursion_from_All}
use Rattle.std.proofs.lemmas.Bool.Decides.{nat_tests}
use Rattle.posting_block.specs.Rising.{last_id}
use Rattle.inverted_list.specs.declared.marker.Marker.{Marker}
use Rattle.inverted_list.specs.declared.picture.Picture.{Picture}
use Rattle.inverted_list.specs.Blocks.{joined, entries, listing, IsFilled, Sound}
use Rattle.inverted_list.specs.Listing.{Listing}
use Rattle.inverted_list.proofs.BlocksLaws.{tail_is}
use Rattle.gc_splice.specs.declared.repair.BlockRepair.{BlockRepair}
use Rattle.gc_splice.specs.declared.repair.BlockRepair.TheVariants.{Same, Gone, Changed}
use Rattle.gc_splice.specs.declared.repair.Repair.{Repair}
use Rattle.gc_splice.specs.Alive.{alive, Without}
use Rattle.gc_splice.specs.Splice.{picture_of, BlocksComeFirst, mended, tail_stands, splice_of, spliced, BlocksFit, Fits}
use Rattle.gc_splice.proofs.WithoutLaws.{without_same, without_append, alive_without, all_without, rises_without, length_without, last_without}

module _ {P : Type 0} where
  -- the blocks and the tail that a contract sees are those that there are
  pub picture_is : (p : Picture P) (l : Listing P) → listing p ≡ l → p ≡ picture_of l
  picture_is p l view = sym (ap (λ t. with_tail t) (tail_is p.sealed p.tail)) ∙ ap (λ k. picture_of k) view
    where
      with_tail : List (ℕ × P) → Picture P
      with_tail t = record { marker = p.marker; sealed = p.sealed; tail = t }

  pub blocks_first : (p : Picture P) (l : Listing P) → listing p ≡ l → BlocksComeFirst l
  blocks_first p l view = ap (λ q. entries q) (sym (picture_is p l view)) ∙ ap (λ (k : Listing P). k.entries) view

  pub listing_is : (l : Listing P) → BlocksComeFirst l → listing (picture_of l) ≡ l
  listing_is l first = ap (λ es. with_entries es) first
    where
      with_entries : List (ℕ × P) → Listing P
      with_entries es = record { marker = l.marker; entries = es; sealed = l.sealed }

  pub long_enough : (live : ℕ → Bool) (rs : List (BlockRepair P)) (bs : List (List (ℕ × P))) → BlocksFit live rs bs → length rs ≤ length bs
  long_enough live [] bs f = omega arith
  long_enough live (r ∷ rs) [] f = absurd f
  long_enough live (r ∷ rs) (b ∷ bs) f = let h : length rs ≤ length bs = long_enough live rs bs f.1 in omega (arith, h)

module _ {P : Type 0} (live : ℕ → Bool) where
  without_blocks : (rs : List (BlockRepair P)) (bs : List (List (ℕ × P))) → BlocksFit live rs bs → Without live (joined bs) (joined (mended rs bs))
  without_blocks [] bs f = without_same live (joined bs)
  without_blocks (r ∷ rs) [] f = absurd f
  without_blocks (Same ∷ rs) (b ∷ bs) f = without_append live b b (joined bs) (joined (mended rs bs)) (without_same live b) (without_blocks rs bs f.1)
  without_blocks (Gone ∷ rs) (b ∷ bs) f = without_append live b [] (joined bs) (joined (mended rs bs)) f.0 (without_blocks rs bs f.1)
  without_blocks (Changed c ∷ rs) (b ∷ bs) f = without_append live b c (joined bs) (joined (mended rs bs)) f.0.1 (without_blocks rs bs f.1)

  without_tail : (l : Picture P) (r : Repair P) → Fits live r l → (stands : Bool) → tail_stands l r ≡ stands → Without live l.tail (cond stands r.tail l.tail)
  without_tail l r f false e = without_same live l.tail
  without_tail l r f true e = f.tail (grind (arith, nat_tests)) (grind (arith, nat_tests))

  pub without_spliced : (l : Picture P) (r : Repair P) (m : Marker) → Fits live r l → Without live (entries l) (entries (splice_of l r m))
  without_spliced l r m f = without_append live (joined l.sealed) (joined (mended r.sealed l.sealed)) l.tail (cond (tail_stands l r) r.tail l.tail)
      (without_blocks r.sealed l.sealed f.blocks) (without_tail l r f (tail_stands l r) refl)

  abbrev Filled : List (ℕ × P) → Type 0
  Filled b = IsFilled b

  filled_blocks : (rs : List (BlockRepair P)) (bs : List (List (ℕ × P))) → BlocksFit live rs bs → AllByRecursion Filled bs → AllByRecursion Filled (mended rs bs)
  filled_blocks [] bs f a = a
  filled_blocks (r ∷ rs) [] f a = absurd f
  filled_blocks (Same ∷ rs) (b ∷ bs) f a = (a.0, filled_blocks rs bs f.1 a.1)
  filled_blocks (Gone ∷ rs) (b ∷ bs) f a = filled_blocks rs bs f.1 a.1
  filled_blocks (Changed c ∷ rs) (b ∷ bs) f a =
      let h : length c ≤ length b = length_without live b c f.0.1 in
      let few : length b ≤ 100 = a.0.1 in
      ((f.0.0, omega (arith, h, few)), filled_blocks rs bs f.1 a.1)

  pub sound_spliced : (l : Picture P) (r : Repair P) (m : Marker) → Fits live r l → Sound l → Sound (splice_of l r m)
  sound_spliced l r m f s =
      let w = without_spliced l r m f in
      let last : last_id 0 (entries (splice_of l r m)) ≤ last_id 0 (entries l) = last_without live 0 (entries l) (entries (splice_of l r m)) w s.rises in
      let fits : last_id 0 (entries l) < 2 ^ 64 = s.fits in
      let tail : length (cond (tail_stands l r) r.tail l.tail) ≤ length l.tail = length_without live l.tail (cond (tail_stands l r) r.tail l.tail) (without_tail l r f (tail_stands l r) refl) in
      let rest : length l.tail < 100 = s.rest in
      record {
        rises = rises_without live 0 (entries l) (entries (splice_of l r m)) w s.rises;
        fits = omega (arith, last, fits);
        blocks = All-from_recursion Filled (mended r.sealed l.sealed) (filled_blocks r.sealed l.sealed f.blocks (recursion_from_All Filled l.sealed s.blocks));
        rest = omega (arith, tail, rest);
      }

  -- the list as contracts see it
  pub without_list : (l : Listing P) (r : Repair P) (m : Marker) → BlocksComeFirst l → Fits live r (picture_of l) → Without live l.entries (spliced l r m).entries
  without_list l r m first f = subst (λ es. Without live es (spliced l r m).entries) first (without_spliced (picture_of l) r m f)

  -- the entries that are live now are the same, in order
  pub alive_spliced : (l : Listing P) (r : Repair P) (m : Marker) → BlocksComeFirst l → Fits live r (picture_of l) → alive live (spliced l r m).entries ≡ alive live l.entries
  alive_spliced l r m first f = alive_without live l.entries (spliced l r m).entries (without_list l r m first f)

  -- what holds of each entry holds of each that is left
  pub all_spliced : (Q : ℕ × P → Type 0) (l : Listing P) (r : Repair P) (m : Marker) → BlocksComeFirst l → Fits live r (picture_of l) → AllByRecursion Q l.entries → AllByRecursion Q (spliced l r m).entries
  all_spliced Q l r m first f a = all_without live Q l.entries (spliced l r m).entries (without_list l r m first f) a

  -- none comes
  pub length_spliced : (l : Listing P) (r : Repair P) (m : Marker) → BlocksComeFirst l → Fits live r (picture_of l) → length (spliced l r m).entries ≤ length l.entries
  length_spliced l r m first f = length_without live l.entries (spliced l r m).entries (without_list l r m first f)
