-- What the loops over parts keep that look for an id that every part has.
use Rattle.std.proofs.Common.{◌≡◌, ◌≢◌, ℕ, zero, suc, ◌<◌, ◌≤◌, ◌+◌, Bool, true, false, eqb, ◌&&◌, List, [], ◌∷◌, map, length, get_or, refl, sym, ap, ◌∙◌, subst, arith}
use Rattle.std.specs.List.{list_all}
use Rattle.std.proofs.Math.ListN.{set}
use Rattle.std.proofs.Math.Seq.{map-set_same}
use Rattle.std.proofs.lemmas.List.{get_or-map, length-map, length-set, get_or-set_same, get_or-set_other}
use Rattle.std.proofs.lemmas.Bool.{ltb-true, ltb-false, eqb-true, eqb-false}
use lib.Dec.{ltb}
use Rattle.id_iters.specs.Least.{IsLeastAt, NoneFrom, NoneBetween}
use Rattle.id_iters.proofs.LeastLaws.{none_part, none_part_from, none_longer, none_joined, and_left, and_right, and_both, and_first, and_second}

module _ {X B : Type 0} (f : X → B) where
  -- a part as one of those that there were at first
  pub at_first : (parts first : List X) (at : ℕ) (old : X) → at < length parts → old ≡ get_or parts at old → map f parts ≡ map f first → f old ≡ get_or (map f first) at (f old)
  at_first parts first at old h e same = ap f e ∙ (sym (get_or-map f parts at old (f old) h) ∙ ap (λ l. get_or l at (f old)) same)

  pub within_first : (parts first : List X) (at : ℕ) → at < length parts → map f parts ≡ map f first → at < length (map f first)
  within_first parts first at h same = subst (λ (l : List B). at < length l) same (subst (λ (n : ℕ). at < n) (sym (length-map parts f)) h)

  pub set_same : (parts first : List X) (at : ℕ) (old new : X) → old ≡ get_or parts at old → f new ≡ f old → map f parts ≡ map f first → map f (set parts at new) ≡ map f first
  set_same parts first at old new e g same = map-set_same f parts at new old (g ∙ ap f e) ∙ same

module _ {B : Type 0} (has : B → ℕ → Bool) where
  -- whether each of some has an id
  abbrev pub all_of : List B → ℕ → Bool
  all_of parts id = list_all (λ part. has part id) parts

  pub all_at : (parts : List B) (id i : ℕ) (d : B) → i < length parts → has (get_or parts i d) id ≡ false → all_of parts id ≡ false
  all_at [] id i d h e = absurd (omega (arith, h))
  all_at (p ∷ parts) id zero d h e = and_left (has p id) (all_of parts id) e
  all_at (p ∷ parts) id (suc i) d h e = and_right (has p id) (all_of parts id) (all_at parts id i d (omega (arith, h)) e)

-- A part has a description, which does not change. It is ready to be asked from a number on, or it has answered an id.
module _ {X B : Type 0} (f : X → B) (has : B → ℕ → Bool) (live : ℕ → Bool) (Asks Holds : X → ℕ → Type 0) where
  part_fails : (parts first : List X) (at : ℕ) (old : X) → at < length parts → old ≡ get_or parts at old → map f parts ≡ map f first
      → (id : ℕ) → (live id && has (f old) id) ≡ false → (live id && all_of has (map f first) id) ≡ false
  part_fails parts first at old h e same id none =
      by_live (live id) (has (f old) id) (all_of has (map f first) id)
      (λ b. all_at has (map f first) id at (f old) (within_first f parts first at h same) (ap (λ (a : B). has a id) (sym (at_first f parts first at old h e same)) ∙ b)) none
    where
      by_live : (a b c : Bool) → (b ≡ false → c ≡ false) → (a && b) ≡ false → (a && c) ≡ false
      by_live true b c k n = k n
      by_live false b c k n = refl

  -- some parts have the candidate: those before `at`, and the one that led
  pub record Agreed (first parts : List X) (from id lead at : ℕ) : Type 0 where
    pub same : map f parts ≡ map f first
    pub within : at ≤ length parts
    pub low : from ≤ id
    pub alive : live id ≡ true
    pub none : NoneBetween (λ n. live n && all_of has (map f first) n) from id
    pub before : (k : ℕ) (d : X) → k < at → (has (f (get_or parts k d)) id ≡ true) × Holds (get_or parts k d) id
    pub leader : (d : X) → lead < length parts → (has (f (get_or parts lead d)) id ≡ true) × Holds (get_or parts lead d) id
    pub rest : (k : ℕ) (d : X) → at ≤ k → k < length parts → k ≢ lead → Asks (get_or parts k d) id

  pub nothing : (first parts : List X) (from id lead at : ℕ) (old : X) → Agreed first parts from id lead at → at < length parts → old ≡ get_or parts at old
      → NoneFrom (λ n. live n && has (f old) n) id → NoneFrom (λ n. live n && all_of has (map f first) n) from
  nothing first parts from id lead at old a h e none =
      none_joined _ from id a.none (none_part_from _ (λ n. live n && has (f old) n) id (part_fails parts first at old h e a.same) none)

  pub all_agree : (first parts : List X) (from id lead at : ℕ) → Agreed first parts from id lead at → length parts ≤ at → IsLeastAt (λ n. live n && all_of has (map f first) n) from id
  all_agree first parts from id lead at a h = record {
    reached = a.low;
    passes = and_both (live id) (all_of has (map f first) id) a.alive (ap (λ (l : List B). all_of has l id) (sym a.same) ∙ all_parts parts (λ k d l. (a.before k d (omega (arith, l, h))).0));
    below = a.none;
  }
    where
      all_parts : (ps : List X) → ((k : ℕ) (d : X) → k < length ps → has (f (get_or ps k d)) id ≡ true) → all_of has (map f ps) id ≡ true
      all_parts [] q = refl
      all_parts (p ∷ ps) q = and_both _ _ (q zero p (omega arith)) (all_parts ps (λ k d l. q (suc k) d (omega (arith, l))))

  module _ (waits : (x : X) (from to : ℕ) → Asks x from → from ≤ to → Asks x to) (rests : (x : X) (id to : ℕ) → Holds x id → id < to → Asks x to) where
    -- any part may be asked beyond the candidate
    beyond : (first parts : List X) (from id lead at next : ℕ) → Agreed first parts from id lead at → id < next → (k : ℕ) (d : X) → k < length parts → Asks (get_or parts k d) next
    beyond first parts from id lead at next a up k d h = by_place (ltb k at) refl (eqb k lead) refl
      where
        by_place : (b : Bool) → ltb k at ≡ b → (c : Bool) → eqb k lead ≡ c → Asks (get_or parts k d) next
        by_place true t c u = rests _ id next (a.before k d (ltb-true k at t)).1 up
        by_place false t true u =
            let is : lead ≡ k = sym (eqb-true k lead u) in
            subst (λ (n : ℕ). Asks (get_or parts n d) next) is (rests _ id next (a.leader d (omega (arith, h, is))).1 up)
        by_place false t false u = waits _ id next (a.rest k d (ltb-false k at t) h (eqb-false k lead u)) (omega (arith, up))

    pub leads : (first parts : List X) (from id lead at next : ℕ) (old new : X) → Agreed first parts from id lead at → at < length parts → old ≡ get_or parts at old
        → f new ≡ f old → IsLeastAt (λ n. live n && has (f old) n) id next → Holds new next → id < next → Agreed first (set parts at new) from next at 0
    leads first parts from id lead at next old new a h e g least r up = record {
      same = set_same f parts first at old new e g a.same;
      within = omega arith;
      low = omega (arith, a.low, up);
      alive = and_first (live next) (has (f old) next) least.passes;
      none = none_longer _ from id next a.none (none_part _ (λ n. live n && has (f old) n) id next (part_fails parts first at old h e a.same) least.below);
      before = λ k d l. absurd (omega (arith, l));
      leader = λ d l. subst (λ (i : X). (has (f i) next ≡ true) × Holds i next) (sym (get_or-set_same parts at new d h))
          (ap (λ (x : B). has x next) g ∙ and_second (live next) (has (f old) next) least.passes, r);
      rest = λ k d l m n. subst (λ (i : X). Asks i next) (sym (get_or-set_other parts at k new d n)) (beyond first parts from id lead at next a up k d (omega (arith, m, length-set parts at new)));
    }

  pub agrees : (first parts : List X) (from id lead at next : ℕ) (old new : X) → Agreed first parts from id lead at → at < length parts → old ≡ get_or parts at old
      → f new ≡ f old → IsLeastAt (λ n. live n && has (f old) n) id next → Holds new next → next ≤ id → at ≢ lead → Agreed first (set parts at new) from id lead (at + 1)
  agrees first parts from id lead at next old new a h e g least r up apart = record {
    same = set_same f parts first at old new e g a.same;
    within = omega (arith, h, length-set parts at new);
    low = a.low;
    alive = a.alive;
    none = a.none;
    before = λ k d l. here k d l (eqb k at) refl;
    leader = λ d l. subst (λ (i : X). (has (f i) id ≡ true) × Holds i id) (sym (get_or-set_other parts at lead new d (λ x. apart (sym x)))) (a.leader d (omega (arith, l, length-set parts at new)));
    rest = λ k d l m n. subst (λ (i : X). Asks i id) (sym (get_or-set_other parts at k new d (λ x. omega (arith, l, x)))) (a.rest k d (omega (arith, l)) (omega (arith, m, length-set parts at new)) n);
  }
    where
      is : next ≡ id
      is = omega (arith, least.reached, up)

      new_has : (has (f new) id ≡ true) × Holds new id
      new_has = subst (λ (n : ℕ). (has (f new) n ≡ true) × Holds new n) is (ap (λ (x : B). has x next) g ∙ and_second (live next) (has (f old) next) least.passes, r)

      here : (k : ℕ) (d : X) → k < at + 1 → (b : Bool) → eqb k at ≡ b → (has (f (get_or (set parts at new) k d)) id ≡ true) × Holds (get_or (set parts at new) k d) id
      here k d l true t = subst (λ (i : X). (has (f i) id ≡ true) × Holds i id) (sym (get_or-set_same parts at new d h) ∙ ap (λ n. get_or (set parts at new) n d) (sym (eqb-true k at t))) new_has
      here k d l false t = subst (λ (i : X). (has (f i) id ≡ true) × Holds i id) (sym (get_or-set_other parts at k new d (eqb-false k at t))) (a.before k d (omega (arith, l, eqb-false k at t)))
