-- Repairs are laid over blocks in place.
use Rattle.std.proofs.Common.{◌≡◌, ℕ, zero, suc, ◌<◌, ◌≤◌, ◌+◌, ◌∷◌, [], ◌++◌, List, length, take, drop, get_or, refl, ap, sym, ◌∙◌, arith, set, append_assoc}
use Rattle.std.specs.Prelude.{option_to_list}
use Rattle.std.proofs.lemmas.List.{append-nil, length-take, length-set, take_more, take-set-le, drop-set-lt, drop-set, drop-drop}
use Rattle.gc_splice.specs.declared.repair.BlockRepair.{BlockRepair}
use Rattle.gc_splice.specs.declared.repair.BlockRepair.TheVariants.{Same, Gone, Changed}
use Rattle.gc_splice.specs.Repaired.{block_after}
use Rattle.gc_splice.specs.Splice.{mended}
use Rattle.gc_splice.specs.Written.{Written}

module _ {X : Type 0} where
  -- item i, and the items behind it
  one_of : (xs : List X) (i : ℕ) (d : X) → i < length xs → take 1 (drop i xs) ≡ get_or xs i d ∷ []
  one_of [] i d h = absurd (omega (arith, h))
  one_of (x ∷ xs) zero d h = refl
  one_of (x ∷ xs) (suc i) d h = one_of xs i d (omega (arith, h))

  one_same : (xs ys : List X) (i : ℕ) (d : X) → i < length xs → drop i xs ≡ drop i ys → length xs ≡ length ys → get_or xs i d ≡ get_or ys i d
  one_same xs ys i d h e l =
      let both : get_or xs i d ∷ [] ≡ get_or ys i d ∷ [] = sym (one_of xs i d h) ∙ ap (λ x. take 1 x) e ∙ one_of ys i d (omega (arith, h, l)) in
      cc (both)

  pub drop_further : (n : ℕ) (xs ys : List X) → drop n xs ≡ drop n ys → drop (n + 1) xs ≡ drop (n + 1) ys
  drop_further n xs ys e = sym (drop-drop 1 n xs) ∙ ap (λ z. drop 1 z) e ∙ drop-drop 1 n ys

  -- one more item is taken, which still stands where it stood
  pub take_next : (start xs : List X) (i : ℕ) (r : X) → i < length xs → length xs ≡ length start → drop i xs ≡ drop i start → r ≡ get_or xs i r → take i start ++ r ∷ [] ≡ take (i + 1) start
  take_next start xs i r h l e is =
      ap (λ x. take i start ++ x ∷ []) (is ∙ one_same xs start i r h e l) ∙ sym (take_more start i r (omega (arith, h, l)))

module _ {P : Type 0} where
  -- a repair of one more block
  mended_push : (rs : List (BlockRepair P)) (bs : List (List (ℕ × P))) (r : BlockRepair P) (b : List (ℕ × P)) → length rs ≡ length bs
      → mended (rs ++ r ∷ []) (bs ++ b ∷ []) ≡ mended rs bs ++ option_to_list (block_after b r)
  mended_push [] [] r b h = append-nil (option_to_list (block_after b r))
  mended_push [] (c ∷ bs) r b h = absurd (omega (arith, h))
  mended_push (q ∷ rs) [] r b h = absurd (omega (arith, h))
  mended_push (q ∷ rs) (c ∷ bs) r b h =
      ap (λ x. option_to_list (block_after c q) ++ x) (mended_push rs bs r b (omega (arith, h)))
      ∙ sym (append_assoc (option_to_list (block_after c q)) (mended rs bs) (option_to_list (block_after b r)))

  -- one more block behind those that are repaired
  mended_behind : (rs : List (BlockRepair P)) (bs cs : List (List (ℕ × P))) → length rs ≤ length bs → mended rs (bs ++ cs) ≡ mended rs bs ++ cs
  mended_behind [] bs cs h = refl
  mended_behind (r ∷ rs) [] cs h = absurd (omega (arith, h))
  mended_behind (r ∷ rs) (b ∷ bs) cs h =
      ap (λ x. option_to_list (block_after b r) ++ x) (mended_behind rs bs cs (omega (arith, h)))
      ∙ sym (append_assoc (option_to_list (block_after b r)) (mended rs bs) cs)

  -- a block that is at its place already
  pub stay_first : (bs : List (List (ℕ × P))) (kept i : ℕ) → i ≡ kept → i < length bs → take (kept + 1) bs ≡ take kept bs ++ take 1 (drop i bs)
  stay_first bs kept i same h =
      take_more bs kept [] (omega (arith, same, h)) ∙ ap (λ k. take kept bs ++ get_or bs k [] ∷ []) (sym same) ∙ ap (λ x. take kept bs ++ x) (sym (one_of bs i [] h))

  module _ (start : List (List (ℕ × P))) (taken : List (BlockRepair P)) (i kept : ℕ) (bs : List (List (ℕ × P))) (w : Written start taken i kept bs) (h : i < length bs) where
    there : i < length start
    there = omega (arith, h, w.len)

    taken_to : length (take i start) ≡ i
    taken_to = let l = length-take i start in let t : i < length start = there in omega (arith, l, t)

    next_mended : (r : BlockRepair P) → length taken ≡ i → mended (taken ++ r ∷ []) (take (i + 1) start) ≡ mended taken (take i start) ++ option_to_list (block_after (get_or start i []) r)
    next_mended r n = ap (λ x. mended (taken ++ r ∷ []) x) (take_more start i [] there) ∙ mended_push taken (take i start) r (get_or start i []) (n ∙ sym taken_to)

    -- the block goes
    pub write_gone : (r : BlockRepair P) → length taken ≡ i → r ≡ Gone → Written start (taken ++ r ∷ []) (i + 1) kept bs
    write_gone r n gone = record {
      few = let f : kept ≤ i = w.few in omega (arith, f);
      first = w.first ∙ sym (append-nil (mended taken (take i start))) ∙ ap (λ q. mended taken (take i start) ++ option_to_list (block_after (get_or start i []) q)) (sym gone) ∙ sym (next_mended r n);
      behind = drop_further i bs start w.behind;
      len = w.len;
    }

    write_kept : (r : BlockRepair P) (new : List (List (ℕ × P))) → length taken ≡ i
        → take (kept + 1) new ≡ take kept bs ++ option_to_list (block_after (get_or bs i []) r) → drop (i + 1) new ≡ drop (i + 1) bs → length new ≡ length bs
        → Written start (taken ++ r ∷ []) (i + 1) (kept + 1) new
    write_kept r new n first behind len = record {
      few = let f : kept ≤ i = w.few in omega (arith, f);
      first = first ∙ ap (λ x. x ++ option_to_list (block_after (get_or bs i []) r)) w.first
          ∙ ap (λ b. mended taken (take i start) ++ option_to_list (block_after b r)) (one_same bs start i [] h w.behind w.len) ∙ sym (next_mended r n);
      behind = behind ∙ drop_further i bs start w.behind;
      len = len ∙ w.len;
    }

    -- the block is written anew, and moved to the front part
    pub write_changed : (r : BlockRepair P) (c : List (ℕ × P)) (mid new : List (List (ℕ × P))) → length taken ≡ i → r ≡ Changed c → mid ≡ set bs i c
        → take (kept + 1) new ≡ take kept mid ++ take 1 (drop i mid) → drop (i + 1) new ≡ drop (i + 1) mid → length new ≡ length mid
        → Written start (taken ++ r ∷ []) (i + 1) (kept + 1) new
    write_changed r c mid new n is put first behind len = write_kept r new n
        (first ∙ ap (λ x. take kept x ++ take 1 (drop i x)) put ∙ ap (λ x. x ++ take 1 (drop i (set bs i c))) (take-set-le kept bs i c w.few)
        ∙ ap (λ x. take kept bs ++ take 1 x) (drop-set bs i c h) ∙ ap (λ q. take kept bs ++ option_to_list (block_after (get_or bs i []) q)) (sym is))
        (behind ∙ ap (λ x. drop (i + 1) x) put ∙ drop-set-lt (i + 1) bs i c (omega arith))
        (len ∙ ap length put ∙ length-set bs i c)

    -- the block stays as it is, and is moved to the front part
    pub write_same : (r : BlockRepair P) (mid new : List (List (ℕ × P))) → length taken ≡ i → r ≡ Same → mid ≡ bs
        → take (kept + 1) new ≡ take kept mid ++ take 1 (drop i mid) → drop (i + 1) new ≡ drop (i + 1) mid → length new ≡ length mid
        → Written start (taken ++ r ∷ []) (i + 1) (kept + 1) new
    write_same r mid new n is put first behind len = write_kept r new n
        (first ∙ ap (λ x. take kept x ++ take 1 (drop i x)) put ∙ ap (λ x. take kept bs ++ x) (one_of bs i [] h)
        ∙ ap (λ q. take kept bs ++ option_to_list (block_after (get_or bs i []) q)) (sym is))
        (behind ∙ ap (λ x. drop (i + 1) x) put)
        (len ∙ ap length put)

    -- a block behind those that are repaired is moved to the front part
    pub write_behind : (new : List (List (ℕ × P))) → length taken ≤ i
        → take (kept + 1) new ≡ take kept bs ++ take 1 (drop i bs) → drop (i + 1) new ≡ drop (i + 1) bs → length new ≡ length bs
        → Written start taken (i + 1) (kept + 1) new
    write_behind new n first behind len = record {
      few = let f : kept ≤ i = w.few in omega (arith, f);
      first = first ∙ ap (λ x. x ++ take 1 (drop i bs)) w.first
          ∙ ap (λ x. mended taken (take i start) ++ x) (ap (λ x. take 1 x) w.behind ∙ one_of start i [] there)
          ∙ sym (ap (λ x. mended taken x) (take_more start i [] there) ∙ mended_behind taken (take i start) (get_or start i [] ∷ []) (let t : length (take i start) ≡ i = taken_to in omega (arith, n, t)));
      behind = behind ∙ drop_further i bs start w.behind;
      len = len ∙ w.len;
    }

  pub write_start : (start : List (List (ℕ × P))) → Written start [] 0 0 start
  write_start start = record { few = omega arith; first = refl; behind = refl; len = refl }

  -- all blocks are taken
  pub write_end : (start : List (List (ℕ × P))) (taken : List (BlockRepair P)) (i kept : ℕ) (bs : List (List (ℕ × P))) → Written start taken i kept bs → length start ≤ i → take kept bs ≡ mended taken start
  write_end start taken i kept bs w all = w.first ∙ ap (λ x. mended taken x) (take_all i start all)
    where
      take_all : (n : ℕ) (xs : List (List (ℕ × P))) → length xs ≤ n → take n xs ≡ xs
      take_all zero [] l = refl
      take_all zero (x ∷ xs) l = absurd (omega (arith, l))
      take_all (suc n) [] l = refl
      take_all (suc n) (x ∷ xs) l = ap (λ t. x ∷ t) (take_all n xs (omega (arith, l)))
