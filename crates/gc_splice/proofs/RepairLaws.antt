-- What becomes of blocks, by how many of their entries are live.
use Rattle.std.proofs.Common.{◌≡◌, ℕ, ◌<◌, ◌+◌, ◌∷◌, [], ◌++◌, List, length, take, drop, get_or, Bool, true, false, cond, ◌&&◌, refl, ap, sym, ◌∙◌, arith, zero, suc, map, ◌≤◌}
use Rattle.std.proofs.lemmas.List.{append-nil, take_more, take-append-drop}
use Rattle.std.proofs.Math.Seq.{take-length}
use Rattle.inverted_list.specs.declared.picture.Picture.{Picture}
use Rattle.inverted_list.specs.Blocks.{entries, joined}
use Rattle.inverted_list.proofs.BlocksLaws.{joined-append}
use Rattle.gc_splice.specs.declared.repair.BlockRepair.TheVariants.{Same, Gone, Changed}
use Rattle.gc_splice.specs.Alive.{alive, all_alive}
use Rattle.gc_splice.specs.Repaired.{changed_to, repair_of_block}
use Rattle.gc_splice.proofs.AliveLaws.{all_append, all_counted, all_kept, and_false}

first_true : (a b : Bool) → (a && b) ≡ true → a ≡ true
first_true true b h = refl
first_true false b h = h

second_true : (a b : Bool) → (a && b) ≡ true → b ≡ true
second_true true b h = h
second_true false b h = absurd (let no : ⊥ = cc (h) in no)

module _ {P : Type 0} (live : ℕ → Bool) where
  pub joined_next : (bs : List (List (ℕ × P))) (i : ℕ) (b : List (ℕ × P)) → i < length bs → b ≡ get_or bs i b → joined (take (i + 1) bs) ≡ joined (take i bs) ++ b
  joined_next bs i b h is = ap (λ x. joined x) (take_more bs i b h) ∙ joined-append (take i bs) (get_or bs i b ∷ []) ∙ ap (λ x. joined (take i bs) ++ x) (append-nil (get_or bs i b) ∙ sym is)

  pub blocks_more : (bs : List (List (ℕ × P))) (i : ℕ) (b : List (ℕ × P)) → i < length bs → b ≡ get_or bs i b → all_alive live b ≡ true → all_alive live (joined (take i bs)) ≡ true → all_alive live (joined (take (i + 1) bs)) ≡ true
  blocks_more bs i b h is t a = ap (λ x. all_alive live x) (joined_next bs i b h is) ∙ all_append live (joined (take i bs)) b ∙ ap (λ x. x && all_alive live b) a ∙ t

  pub blocks_not : (bs : List (List (ℕ × P))) (i : ℕ) (b : List (ℕ × P)) → i < length bs → b ≡ get_or bs i b → all_alive live b ≡ false → all_alive live (joined bs) ≡ false
  blocks_not bs i b h is t =
      ap (λ x. all_alive live (joined x)) (sym (take-append-drop (i + 1) bs)) ∙ ap (λ x. all_alive live x) (joined-append (take (i + 1) bs) (drop (i + 1) bs)) ∙ all_append live (joined (take (i + 1) bs)) (joined (drop (i + 1) bs))
      ∙ ap (λ x. x && all_alive live (joined (drop (i + 1) bs))) (ap (λ x. all_alive live x) (joined_next bs i b h is) ∙ all_append live (joined (take i bs)) b ∙ ap (λ x. all_alive live (joined (take i bs)) && x) t ∙ and_false (all_alive live (joined (take i bs))))

  -- as many live as there are: the block stays as it is
  pub repair_same : (b : List (ℕ × P)) → length (alive live b) ≡ length b → repair_of_block live b ≡ Same
  repair_same b n = ap (λ t. cond t Same (changed_to (alive live b))) (all_counted live b n)

  -- fewer live than there are: it is what they are
  repair_other : (b : List (ℕ × P)) → length (alive live b) < length b → repair_of_block live b ≡ changed_to (alive live b)
  repair_other b n = by (all_alive live b) refl
    where
      by : (t : Bool) → all_alive live b ≡ t → cond t Same (changed_to (alive live b)) ≡ changed_to (alive live b)
      by true h = absurd (omega (arith, n, ap length (all_kept live b h)))
      by false h = refl

  none_left : (b : List (ℕ × P)) → length b ≡ 0 → changed_to b ≡ Gone
  none_left [] h = refl
  none_left (e ∷ es) h = absurd (omega (arith, h))

  some_left : (b : List (ℕ × P)) → 0 < length b → changed_to b ≡ Changed b
  some_left [] h = absurd (omega (arith, h))
  some_left (e ∷ es) h = refl

  pub repair_gone : (b : List (ℕ × P)) → length (alive live b) < length b → length (alive live b) ≡ 0 → repair_of_block live b ≡ Gone
  repair_gone b n none = repair_other b n ∙ none_left (alive live b) none

  pub repair_changed : (b : List (ℕ × P)) → length (alive live b) < length b → 0 < length (alive live b) → repair_of_block live b ≡ Changed (alive live b)
  repair_changed b n some = repair_other b n ∙ some_left (alive live b) some

  -- one more block of those that have no dead entry
  pub same_next : (bs : List (List (ℕ × P))) (front i : ℕ) → i < front → front ≤ length bs → all_alive live (joined (take front bs)) ≡ true
      → map (repair_of_block live) (take i bs) ++ Same ∷ [] ≡ map (repair_of_block live) (take (i + 1) bs)
  same_next [] front i h l a = absurd (omega (arith, h, l))
  same_next (b ∷ bs) zero i h l a = absurd (omega (arith, h))
  same_next (b ∷ bs) (suc front) zero h l a =
      let whole : (all_alive live b && all_alive live (joined (take front bs))) ≡ true = sym (all_append live b (joined (take front bs))) ∙ a in
      ap (λ r. r ∷ []) (sym (ap (λ t. cond t Same (changed_to (alive live b))) (first_true (all_alive live b) (all_alive live (joined (take front bs))) whole)))
  same_next (b ∷ bs) (suc front) (suc i) h l a =
      let whole : (all_alive live b && all_alive live (joined (take front bs))) ≡ true = sym (all_append live b (joined (take front bs))) ∙ a in
      let n : suc i + 1 ≡ suc (i + 1) = omega arith in
      ap (λ x. repair_of_block live b ∷ x) (same_next bs front i (omega (arith, h)) (omega (arith, l)) (second_true (all_alive live b) (all_alive live (joined (take front bs))) whole))
      ∙ sym (ap (λ k. map (repair_of_block live) (take k (b ∷ bs))) n)

  -- a picture has a dead entry where its blocks or its tail have one
  pub clean_picture : (p : Picture P) (front : ℕ) → front ≡ length p.sealed → all_alive live (joined (take front p.sealed)) ≡ true → all_alive live p.tail ≡ true → all_alive live (entries p) ≡ true
  clean_picture p front n a t =
      let blocks : all_alive live (joined p.sealed) ≡ true = ap (λ bs. all_alive live (joined bs)) (sym (ap (λ k. take k p.sealed) n ∙ take-length p.sealed)) ∙ a in
      all_append live (joined p.sealed) p.tail ∙ ap (λ b. b && all_alive live p.tail) blocks ∙ t

  pub dead_blocks : (p : Picture P) → all_alive live (joined p.sealed) ≡ false → all_alive live (entries p) ≡ false
  dead_blocks p h = all_append live (joined p.sealed) p.tail ∙ ap (λ b. b && all_alive live p.tail) h

  pub dead_tail : (p : Picture P) → all_alive live p.tail ≡ false → all_alive live (entries p) ≡ false
  dead_tail p h = all_append live (joined p.sealed) p.tail ∙ ap (λ b. all_alive live (joined p.sealed) && b) h ∙ and_false (all_alive live (joined p.sealed))
