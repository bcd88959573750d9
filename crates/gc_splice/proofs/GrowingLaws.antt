-- What has grown grows on, and the repair of an old picture fits it.
use Rattle.std.proofs.Common.{◌≡◌, ℕ, ◌<◌, ◌≤◌, ◌∷◌, [], ◌++◌, List, length, map, Bool, true, false, cond, ltb, Option, Some, None, refl, ap, sym, ◌∙◌, subst, arith, append_assoc}
use Rattle.std.specs.List.{AllByRecursion}
use Rattle.std.proofs.lemmas.List.{append-nil, length-map, length-append, nil_from_length}
use Rattle.inverted_list.specs.declared.marker.Marker.{Marker}
use Rattle.inverted_list.specs.declared.picture.Picture.{Picture}
use Rattle.inverted_list.specs.Blocks.{joined, entries, listing}
use Rattle.inverted_list.specs.Listing.{Listing, with_entry, tail_behind}
use Rattle.inverted_list.proofs.BlocksLaws.{tail_is}
use Rattle.gc_splice.specs.declared.repair.BlockRepair.TheVariants.{Same}
use Rattle.gc_splice.specs.Alive.{alive, all_alive, Without}
use Rattle.gc_splice.specs.Repaired.{changed_to, repair_of_block, repaired}
use Rattle.gc_splice.specs.Splice.{picture_of, BlockFits, BlocksFit, Fits}
use Rattle.gc_splice.specs.Growing.{Grows, ComesFrom}
use Rattle.gc_splice.proofs.AliveLaws.{recursion_first, recursion_second}
use Rattle.gc_splice.proofs.WithoutLaws.{without_alive}

module _ {P : Type 0} where
  pub grows_same : (l : Listing P) → Grows l l
  grows_same l = record { marker = refl; more = []; sealed = sym (append-nil l.sealed); rest = []; entries = sym (append-nil l.entries) }

  pub grows_entry : (l : Listing P) (id : ℕ) (hit : P) → Grows l (with_entry l id hit)
  grows_entry l id hit = by (ltb (length tail) 100) refl
    where
      tail : List (ℕ × P)
      tail = tail_behind l.sealed (l.entries ++ (id, hit) ∷ [])

      by : (b : Bool) → ltb (length tail) 100 ≡ b → Grows l (with_entry l id hit)
      by true e = record { marker = refl; more = []; sealed = ap (λ t. cond t l.sealed (l.sealed ++ tail ∷ [])) e ∙ sym (append-nil l.sealed); rest = (id, hit) ∷ []; entries = refl }
      by false e = record { marker = refl; more = tail ∷ []; sealed = ap (λ t. cond t l.sealed (l.sealed ++ tail ∷ [])) e; rest = (id, hit) ∷ []; entries = refl }

  pub grows_again : (a b c : Listing P) → Grows a b → Grows b c → Grows a c
  grows_again a b c g h = record {
    marker = h.marker ∙ g.marker;
    more = g.more ++ h.more;
    sealed = h.sealed ∙ ap (λ x. x ++ h.more) g.sealed ∙ append_assoc a.sealed g.more h.more;
    rest = g.rest ++ h.rest;
    entries = h.entries ∙ ap (λ x. x ++ h.rest) g.entries ∙ append_assoc a.entries g.rest h.rest;
  }

  pub comes_same : (event : ℕ) (o : Option (Listing P)) → ComesFrom event o o
  comes_same event o l is low = (l, is, grows_same l)

  pub comes_again : (early late : ℕ) (a b c : Option (Listing P)) → early ≤ late → ComesFrom early a b → ComesFrom late b c → ComesFrom early a c
  comes_again early late a b c h f g l is low =
      let below : l.marker.event < late = omega (arith, h, low) in
      let m = g l is below in
      let low' : m.0.marker.event < early = subst (λ (x : Marker). x.event < early) m.2.marker low in
      let k = f m.0 m.1 low' in
      (k.0, k.1, grows_again k.0 m.0 l k.2 m.2)

  -- an entry came to a list
  pub comes_entry : (event : ℕ) (l : Listing P) (id : ℕ) (hit : P) → ComesFrom event (Some l) (Some (with_entry l id hit))
  comes_entry event l id hit m is low = (l, refl, subst (λ x. Grows l x) (some_same (with_entry l id hit) m is) (grows_entry l id hit))
    where
      some_same : (x y : Listing P) → Some x ≡ Some y → x ≡ y
      some_same x y e = cc

  -- a list that is made in this event, also by a splice
  pub comes_fresh : (event : ℕ) (o : Option (Listing P)) (l : Listing P) → event ≤ l.marker.event → ComesFrom event o (Some l)
  comes_fresh event o l h m is low =
      let same : l ≡ m = cc in
      let e : l.marker.event ≡ m.marker.event = ap (λ (x : Listing P). x.marker.event) same in
      absurd (omega (arith, h, low, e))

  pub comes_gone : (event : ℕ) (o : Option (Listing P)) → ComesFrom event o None
  comes_gone event o m is low = absurd (let no : ⊥ = cc in no)

  -- the repair of a block fits it, and so it does with blocks behind it
  changed_fits : (live : ℕ → Bool) (b c : List (ℕ × P)) → Without live b c → BlockFits live (changed_to c) b
  changed_fits live b [] w = w
  changed_fits live b (e ∷ es) w = (omega arith, w)

  block_fits : (was live : ℕ → Bool) (b : List (ℕ × P)) → AllByRecursion (λ e. live e.0 ≡ true → was e.0 ≡ true) b → BlockFits live (repair_of_block was b) b
  block_fits was live b a = by (all_alive was b)
    where
      by : (t : Bool) → BlockFits live (cond t Same (changed_to (alive was b))) b
      by true = tt
      by false = changed_fits live b (alive was b) (without_alive live was b a)

  blocks_fit : (was live : ℕ → Bool) (bs more : List (List (ℕ × P))) → AllByRecursion (λ e. live e.0 ≡ true → was e.0 ≡ true) (joined bs)
      → BlocksFit live (map (repair_of_block was) bs) (bs ++ more)
  blocks_fit was live [] more a = tt
  blocks_fit was live (b ∷ bs) more a = (
    block_fits was live b (recursion_first (λ e. live e.0 ≡ true → was e.0 ≡ true) b (joined bs) a),
    blocks_fit was live bs more (recursion_second (λ e. live e.0 ≡ true → was e.0 ≡ true) b (joined bs) a),
  )

  -- the tail is the pictured one, where nothing was sealed and as many entries are in it
  same_tail : (p : Picture P) (b : Listing P) (more : List (List (ℕ × P))) (rest : List (ℕ × P)) → length more ≡ 0 → b.sealed ≡ p.sealed ++ more → b.entries ≡ entries p ++ rest
      → length (tail_behind b.sealed b.entries) ≡ length p.tail → tail_behind b.sealed b.entries ≡ p.tail
  same_tail p b more rest none s e count =
      let m : more ≡ [] = nil_from_length more none in
      let sealed : b.sealed ≡ p.sealed = s ∙ ap (λ x. p.sealed ++ x) m ∙ append-nil p.sealed in
      let tail : tail_behind b.sealed b.entries ≡ p.tail ++ rest =
      ap (λ x. tail_behind x b.entries) sealed ∙ ap (λ x. tail_behind p.sealed x) (e ∙ append_assoc (joined p.sealed) p.tail rest) ∙ tail_is p.sealed (p.tail ++ rest) in
      let r : length rest ≡ 0 = omega (arith, ap length tail, length-append p.tail rest, count) in
      tail ∙ ap (λ x. p.tail ++ x) (nil_from_length rest r) ∙ append-nil p.tail

  -- the repair of an old picture fits the list as it has grown since
  pub fits_grows : (was live : ℕ → Bool) (p : Picture P) (a b : Listing P) → listing p ≡ a → Grows a b → AllByRecursion (λ e. live e.0 ≡ true → was e.0 ≡ true) (entries p) → Fits live (repaired was p) (picture_of b)
  fits_grows was live p a b view g all =
      let sealed : b.sealed ≡ p.sealed ++ g.more = g.sealed ∙ ap (λ (l : Listing P). l.sealed ++ g.more) (sym view) in
      let entries_is : b.entries ≡ entries p ++ g.rest = g.entries ∙ ap (λ (l : Listing P). l.entries ++ g.rest) (sym view) in
      record {
        blocks = subst (λ bs. BlocksFit live (map (repair_of_block was) p.sealed) bs) (sym sealed)
            (blocks_fit was live p.sealed g.more (recursion_first (λ e. live e.0 ≡ true → was e.0 ≡ true) (joined p.sealed) p.tail all));
        tail = λ blocks count.
            let n = length-map p.sealed (repair_of_block was) in
            let none : length g.more ≡ 0 = omega (arith, length-append p.sealed g.more, ap length sealed, blocks, n) in
            subst (λ xs. Without live xs (alive was p.tail)) (sym (same_tail p b g.more g.rest none sealed entries_is count))
            (without_alive live was p.tail (recursion_second (λ e. live e.0 ≡ true → was e.0 ≡ true) (joined p.sealed) p.tail all));
      }
