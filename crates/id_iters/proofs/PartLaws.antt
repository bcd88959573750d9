-- What several parts have together.
use Rattle.std.proofs.Common.{◌≡◌, ℕ, zero, suc, ◌<◌, ◌≤◌, ◌+◌, Bool, true, false, cond, ◌&&◌, ◌||◌, List, [], ◌∷◌, Option, Some, None, map, take, length, get_or, refl, sym, ap, ◌∙◌, subst, arith}
use Rattle.std.specs.List.{All}
use Rattle.std.proofs.lemmas.Bool.{leb-true, leb-false}
use Rattle.std.proofs.lemmas.List.{take_more}
use Rattle.std.proofs.lemmas.List.Folds.{list_any-append}
use lib.Dec.{leb}
use Rattle.id_iters.specs.Least.{IsLeast, IsLeastAt, lesser_of}
use Rattle.id_iters.specs.Sets.{About, about_ahead, any_has, deepest, living}
use Rattle.id_iters.specs.Held.{Held}
use Rattle.id_iters.specs.Ready.{AheadReady}
use Rattle.id_iters.specs.declared.iter.Ahead.{Ahead}
use Rattle.std.proofs.Math.ListN.{set}
use Rattle.std.proofs.lemmas.List.Elements.{All-set}
use Rattle.id_iters.proofs.LoopLaws.{at_first, within_first, set_same}

pub depth_of_part : (parts : List About) (i : ℕ) (d : About) → i < length parts → (get_or parts i d).depth ≤ deepest parts
depth_of_part [] i d h = absurd (omega (arith, h))
depth_of_part (p ∷ parts) zero d h = omega arith
depth_of_part (p ∷ parts) (suc i) d h = omega (arith, depth_of_part parts i d (omega (arith, h)))

-- the lesser of two answers is the least of both sets
pub lesser_least : (p q r : ℕ → Bool) (from : ℕ) (a b : Option ℕ) → ((id : ℕ) → r id ≡ (p id || q id)) → IsLeast p from a → IsLeast q from b → IsLeast r from (lesser_of a b)
lesser_least p q r from None None e x y = record { fails = λ id low. e id ∙ neither (p id) (q id) (x.fails id low) (y.fails id low) }
  where
    neither : (s t : Bool) → s ≡ false → t ≡ false → (s || t) ≡ false
    neither s t f g = rw (f, g) refl
lesser_least p q r from None (Some n) e x y = record {
  reached = y.reached;
  passes = e n ∙ (ap (λ s. s || q n) (x.fails n y.reached) ∙ y.passes);
  below = record { fails = λ id low high. e id ∙ (ap (λ s. s || q id) (x.fails id low) ∙ y.below.fails id low high) };
}
lesser_least p q r from (Some m) None e x y = record {
  reached = x.reached;
  passes = e m ∙ ap (λ s. s || q m) x.passes;
  below = record { fails = λ id low high. e id ∙ (ap (λ s. s || q id) (x.below.fails id low high) ∙ y.fails id low) };
}
lesser_least p q r from (Some m) (Some n) e x y = pick (leb m n) refl
  where
    pick : (b : Bool) → leb m n ≡ b → IsLeastAt r from (cond b m n)
    pick true h = record {
      reached = x.reached;
      passes = e m ∙ ap (λ s. s || q m) x.passes;
      below = record { fails = λ id low high. e id ∙ (ap (λ s. s || q id) (x.below.fails id low high) ∙ y.below.fails id low (omega (arith, high, leb-true m n h))) };
    }
    pick false h = record {
      reached = y.reached;
      passes = e n ∙ (ap (λ s. s || q n) (x.below.fails n y.reached (leb-false m n h)) ∙ y.passes);
      below = record { fails = λ id low high. e id ∙ (ap (λ s. s || q id) (x.below.fails id low (omega (arith, high, leb-false m n h))) ∙ y.below.fails id low high) };
    }

pub any_more : (live : ℕ → Bool) (parts : List About) (at : ℕ) (p d : About) (id : ℕ) → at < length parts → p ≡ get_or parts at d → (live id && any_has (take (at + 1) parts) id) ≡ ((live id && any_has (take at parts) id) || living live p id)
any_more live parts at p d id h e =
    ap (λ (xs : List About). live id && any_has xs id) (take_more parts at d h)
    ∙ (ap (λ b. live id && b) (list_any-append (λ (a : About). a.has id) (take at parts) (get_or parts at d ∷ []))
    ∙ (shared (live id) (any_has (take at parts) id) ((get_or parts at d).has id) ∙ ap (λ (a : About). (live id && any_has (take at parts) id) || (live id && a.has id)) (sym e)))
  where
    shared : (x y z : Bool) → (x && (y || (z || false))) ≡ ((x && y) || (x && z))
    shared true y true = refl
    shared true y false = refl
    shared false y z = refl

module _ (held : Held) where
  -- the parts before `at` were tried
  pub record Tried (first parts : List Ahead) (from at : ℕ) (best : Option ℕ) : Type 0 where
    pub same : map (about_ahead held) parts ≡ map (about_ahead held) first
    pub ready : All (λ p. AheadReady held p from) parts
    pub least : IsLeast (λ n. held.live n && any_has (take at (map (about_ahead held) first)) n) from best

  pub tries : (first parts : List Ahead) (from at : ℕ) (best answer : Option ℕ) (old new : Ahead) → Tried first parts from at best → at < length parts → old ≡ get_or parts at old
      → about_ahead held new ≡ about_ahead held old → IsLeast (living held.live (about_ahead held old)) from answer → AheadReady held new from → Tried first (set parts at new) from (at + 1) (lesser_of best answer)
  tries first parts from at best answer old new t h e g least r = record {
    same = set_same (about_ahead held) parts first at old new e g t.same;
    ready = All-set (λ p. AheadReady held p from) parts at new r t.ready;
    least = lesser_least _ (living held.live (about_ahead held old)) _ from best answer
        (λ id. any_more held.live (map (about_ahead held) first) at (about_ahead held old) (about_ahead held old) id (within_first (about_ahead held) parts first at h t.same) (at_first (about_ahead held) parts first at old h e t.same))
        t.least least;
  }

pub depth_in : {X : Type 0} (f : X → About) (parts first : List X) (at : ℕ) (old : X) → at < length parts → old ≡ get_or parts at old → map f parts ≡ map f first → (f old).depth ≤ deepest (map f first)
depth_in f parts first at old h e same =
    subst (λ (a : About). a.depth ≤ deepest (map f first)) (sym (at_first f parts first at old h e same)) (depth_of_part (map f first) at (f old) (within_first f parts first at h same))
