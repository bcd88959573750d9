-- Nothing is dead exactly where all blocks stay and the tail keeps its entries; and results that were collected are those of the blocks.
use Rattle.std.proofs.Common.{◌≡◌, ◌≢◌, ◌<◌, ◌⊎◌, ℕ, ◌∷◌, [], ◌&&◌, List, length, map, Bool, true, false, cond, Some, None, refl, ap, inl, inr, sym, ◌∙◌, arith, subst}
use Rattle.std.specs.Prelude.{IfOk, Ok, Err, Result, MatchResult}
use Rattle.std.specs.List.{AllZip, list_all}
use Rattle.inverted_list.specs.declared.picture.Picture.{Picture}
use Rattle.inverted_list.specs.Blocks.{entries, joined}
use Rattle.gc_splice.specs.declared.repair.BlockRepair.{BlockRepair}
use Rattle.gc_splice.specs.declared.repair.BlockRepair.TheVariants.{Same}
use Rattle.gc_splice.specs.declared.repair.Repair.{Repair}
use Rattle.gc_splice.specs.Alive.{alive, all_alive}
use Rattle.gc_splice.specs.Repaired.{changed_to, repair_of_block, repaired}
use Rattle.gc_splice.proofs.AliveLaws.{all_append, all_counted, fewer_alive, not_all}
use Rattle.gc_splice.proofs.RepairLaws.{dead_blocks, dead_tail}
use Rattle.gc_scan.specs.Staying.{stays}

module _ {P : Type 0} (live : ℕ → Bool) where
  -- a block that is written anew doesn't stay
  changed_goes : (es : List (ℕ × P)) → stays (changed_to es) ≡ false
  changed_goes [] = refl
  changed_goes (e ∷ es) = refl

  -- a block stays where each of its entries is live
  stays_live : (b : List (ℕ × P)) → stays (repair_of_block live b) ≡ all_alive live b
  stays_live b = by (all_alive live b)
    where
      by : (t : Bool) → stays (cond t Same (changed_to (alive live b))) ≡ t
      by true = refl
      by false = changed_goes (alive live b)

  -- so do all blocks
  all_stay : (bs : List (List (ℕ × P))) → list_all stays (map (repair_of_block live) bs) ≡ all_alive live (joined bs)
  all_stay [] = refl
  all_stay (b ∷ bs) =
      ap (λ t. t && list_all stays (map (repair_of_block live) bs)) (stays_live b) ∙ ap (λ t. all_alive live b && t) (all_stay bs)
      ∙ sym (all_append live b (joined bs))

  abbrev made : Picture P → List (BlockRepair P) → List (ℕ × P) → ℕ → Repair P
  made p sealed tail n = record { seen = p.marker; sealed = sealed; tail = tail; tail_len = n }

  -- all blocks stay, and the tail has as many entries as it had: nothing is dead
  pub none_told : (p : Picture P) (sealed : List (BlockRepair P)) (tail : List (ℕ × P)) → sealed ≡ map (repair_of_block live) p.sealed → tail ≡ alive live p.tail
      → list_all stays sealed ≡ true → length tail ≡ length p.tail → None ≡ cond (all_alive live (entries p)) None (Some (repaired live p))
  none_told p sealed tail blocks left stay same =
      let first : all_alive live (joined p.sealed) ≡ true = sym (all_stay p.sealed) ∙ (ap (λ rs. list_all stays rs) (sym blocks) ∙ stay) in
      let count : length (alive live p.tail) ≡ length p.tail = ap (λ es. length es) (sym left) ∙ same in
      let clean : all_alive live (entries p) ≡ true =
      all_append live (joined p.sealed) p.tail ∙ (ap (λ t. t && all_alive live p.tail) first ∙ all_counted live p.tail count) in
      sym (ap (λ t. cond t None (Some (repaired live p))) clean)

  -- some block doesn't, or the tail has fewer
  pub some_told : (p : Picture P) (sealed : List (BlockRepair P)) (tail : List (ℕ × P)) (n : ℕ) → sealed ≡ map (repair_of_block live) p.sealed → tail ≡ alive live p.tail → n ≡ length p.tail
      → (list_all stays sealed ≡ false) ⊎ (length tail ≢ length p.tail) → Some (made p sealed tail n) ≡ cond (all_alive live (entries p)) None (Some (repaired live p))
  some_told p sealed tail n blocks left count dead =
      ap (λ rs. Some (made p rs tail n)) blocks ∙ (ap (λ es. Some (made p (map (repair_of_block live) p.sealed) es n)) left
      ∙ (ap (λ k. Some (made p (map (repair_of_block live) p.sealed) (alive live p.tail) k)) count ∙ sym (ap (λ t. cond t None (Some (repaired live p))) (some_dead dead))))
    where
      some_dead : (list_all stays sealed ≡ false) ⊎ (length tail ≢ length p.tail) → all_alive live (entries p) ≡ false
      some_dead (inl block) = dead_blocks live p (sym (all_stay p.sealed) ∙ (ap (λ rs. list_all stays rs) (sym blocks) ∙ block))
      some_dead (inr other) =
          let fewer : length (alive live p.tail) < length p.tail = omega (arith, other, ap (λ es. length es) left, fewer_alive live p.tail) in
          dead_tail live p (not_all live p.tail fewer)

-- what is in each Ok
zip_ok : {X Y : Type 0} (E : Type 0) (f : X → Y) (xs : List X) (ys : List Y) → AllZip (λ x (r : Result Y E). IfOk r (λ y. y ≡ f x)) xs (map Ok ys) → ys ≡ map f xs
zip_ok E f [] [] h = refl
zip_ok E f [] (y ∷ ys) h = absurd h
zip_ok E f (x ∷ xs) [] h = absurd h
zip_ok E f (x ∷ xs) (y ∷ ys) h = ap (λ z. z ∷ ys) h.0 ∙ ap (λ zs. f x ∷ zs) (zip_ok E f xs ys h.1)

-- a collection of results
pub if_made : {X Y V E : Type 0} (items : V → List Y) (f : X → Y) (r : Result V E) (bs : List X) (xs : List (Result Y E)) (Bad : E → Type 0)
    → AllZip (λ b x. IfOk x (λ y. y ≡ f b)) bs xs → MatchResult r (λ v. (ys : List Y) × (xs ≡ map Ok ys) × (items v ≡ ys)) Bad → IfOk r (λ v. items v ≡ map f bs)
if_made {E = E} items f (Ok v) bs xs Bad z h = h.2 ∙ zip_ok E f bs h.0 (subst (λ l. AllZip (λ b x. IfOk x (λ y. y ≡ f b)) bs l) h.1 z)
if_made items f (Err e) bs xs Bad z h = tt
