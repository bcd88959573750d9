-- Where values stand in their rising order.
use Rattle.std.proofs.Common.{◌≡◌, ℕ, zero, suc, ◌<◌, ◌≤◌, Bool, true, false, cond, not, ◌&&◌, ◌||◌, List, [], ◌∷◌, length, get_or, Some, inl, inr, refl, sym, ap, subst, ◌∙◌, arith, find, count_by, ℤ, pos}
use Rattle.std.specs.Prelude.{int_le, int_lt, ◌<ℤ◌, nat_le, nat_lt}
use Rattle.std.specs.Cmp.{int_cmp_total}
use Rattle.std.specs.List.{Contains, list_any, All}
use Rattle.std.specs.List.Sorted.{IsSorted, IsPermutation}
use Rattle.std.specs.Option.{unwrap_or}
use Rattle.std.specs.Ordering.{int_cmp, int_eq, is_lt}
use Rattle.std.proofs.lemmas.Bool.{cases_Bool, false≢true}
use Rattle.std.proofs.lemmas.Bool.Decides.{nat_tests}
use Rattle.std.proofs.lemmas.Int.{ints, to_z-of_z}
use mir.Syntax.{w64}
use mir.Val.{to_z, of_z, SFits}
use Rattle.std.proofs.lemmas.List.{get_or_default}
use Rattle.std.proofs.lemmas.List.Sums.{sum_by-cons, count_by-le-length}
use Rattle.std.proofs.lemmas.List.Sorted.{sorted_far, ranks_by, sum_by-IsPermutation, length_permutation, Contains-permutation, IsPermutation-sym, All-permutation}
use Rattle.numeric_ranges.specs.Rows.{IsInside}
use Rattle.numeric_ranges.specs.Values.{Entries, values, are_mixed, is_nth, nth_value, smallest, median, second_smallest, cut_of}

pub lt_no : (a b : ℤ) → is_lt (int_cmp a b) ≡ false → int_le b a ≡ true
lt_no a b h = grind (arith, ints)

pub lt_from_le : (a b : ℤ) → int_le a b ≡ true → int_lt b a ≡ false
lt_from_le a b h = grind (arith, ints)

pub le_from_lt : (a b : ℤ) → int_lt a b ≡ true → int_le b a ≡ false
le_from_lt a b h = grind (arith, ints)

pub le_from_not_lt : (a b : ℤ) → int_lt a b ≡ false → int_le b a ≡ true
le_from_not_lt a b h = grind (arith, ints)

pub lt_from_not_le : (a b : ℤ) → int_le a b ≡ false → int_lt b a ≡ true
lt_from_not_le a b h = grind (arith, ints)

pub lt_le_trans : (a b c : ℤ) → int_lt a b ≡ true → int_le b c ≡ true → int_lt a c ≡ true
lt_le_trans a b c h g = grind (arith, ints)

pub lt_trans : (a b c : ℤ) → int_lt a b ≡ true → int_lt b c ≡ true → int_lt a c ≡ true
lt_trans a b c h g = grind (arith, ints)

pub le_trans : (a b c : ℤ) → int_le a b ≡ true → int_le b c ≡ true → int_le a c ≡ true
le_trans a b c h g = grind (arith, ints)

same_from_le : (a b : ℤ) → int_le a b ≡ true → int_le b a ≡ true → a ≡ b
same_from_le a b h g = omega (arith, ints, h, g)

pub eq_true : (a b : ℤ) → int_eq a b ≡ true → a ≡ b
eq_true a b h = grind (arith, ints)

pub eq_same : (a : ℤ) → int_eq a a ≡ true
eq_same a = grind (arith, ints)

and_both : (a b : Bool) → (a && b) ≡ true → (a ≡ true) × (b ≡ true)
and_both true true h = (refl, refl)
and_both true false h = absurd (false≢true h)
and_both false b h = absurd (false≢true h)

module _ {X : Type 0} (p : X → Bool) where
  pub count_yes : (x : X) (xs : List X) → p x ≡ true → count_by p (x ∷ xs) ≡ suc (count_by p xs)
  count_yes x xs h =
      let step = sum_by-cons (λ (y : X). cond (p y) 1 0) x xs in
      let one : cond (p x) 1 0 ≡ 1 = ap {B = ℕ} (λ b. cond b 1 0) h in
      omega (arith, step, one)

  pub count_no : (x : X) (xs : List X) → p x ≡ false → count_by p (x ∷ xs) ≡ count_by p xs
  count_no x xs h =
      let step = sum_by-cons (λ (y : X). cond (p y) 1 0) x xs in
      let none : cond (p x) 1 0 ≡ 0 = ap {B = ℕ} (λ b. cond b 1 0) h in
      omega (arith, step, none)

  -- where none passes from a place on
  pub count_at_most : (xs : List X) (n : ℕ) → ((k : ℕ) (d : X) → n ≤ k → k < length xs → p (get_or xs k d) ≡ false) → count_by p xs ≤ n
  count_at_most [] n h = omega (arith, count_by-le-length p [])
  count_at_most (x ∷ xs) zero h =
      let rest = count_at_most xs zero (λ k d more less. h (suc k) d (omega arith) (omega (arith, less))) in
      omega (arith, rest, count_no x xs (h 0 x (omega arith) (omega arith)))
  count_at_most (x ∷ xs) (suc n) h =
      let rest = count_at_most xs n (λ k d more less. h (suc k) d (omega (arith, more)) (omega (arith, less))) in
      elim (cases_Bool (p x)) [
        | inl y ↦ omega (arith, rest, count_yes x xs y)
        | inr z ↦ omega (arith, rest, count_no x xs z)
      ]

  -- where all pass before a place
  pub count_at_least : (xs : List X) (n : ℕ) → n ≤ length xs → ((k : ℕ) (d : X) → k < n → p (get_or xs k d) ≡ true) → n ≤ count_by p xs
  count_at_least xs zero fits h = omega arith
  count_at_least [] (suc n) fits h = absurd (omega (arith, fits))
  count_at_least (x ∷ xs) (suc n) fits h =
      let rest = count_at_least xs n (omega (arith, fits)) (λ k d less. h (suc k) d (omega (arith, less))) in
      omega (arith, rest, count_yes x xs (h 0 x (omega arith)))

  -- the one that passes is found where it is there
  pub find_only : (x : X) (xs : List X) → ((y : X) → p y ≡ true → y ≡ x) → p x ≡ true → Contains xs x → find p xs ≡ Some x
  find_only x [] one passes there = absurd (omega (arith, there.1))
  find_only x (y ∷ xs) one passes there =
      elim (cases_Bool (p y)) [
        | inl h ↦ ap (λ b. cond b (Some y) (find p xs)) h ∙ ap Some (one y h)
        | inr h ↦ ap (λ b. cond b (Some y) (find p xs)) h ∙ find_only x xs one passes (behind x y xs h passes there.0 there.1 there.2)
      ]
    where
      behind : (x y : X) (xs : List X) → p y ≡ false → p x ≡ true → (k : ℕ) → k < length (y ∷ xs) → get_or (y ∷ xs) k x ≡ x → Contains xs x
      behind x y xs fails passes zero less same = absurd (false≢true (sym fails ∙ (ap p same ∙ passes)))
      behind x y xs fails passes (suc k) less same = (k, omega (arith, less), same)

-- what passes one test and so another counts no more by the first
count_more : {X : Type 0} (p q : X → Bool) → ((x : X) → p x ≡ true → q x ≡ true) → (xs : List X) → count_by p xs ≤ count_by q xs
count_more p q h [] = omega (arith, count_by-le-length p [])
count_more p q h (x ∷ xs) =
    let rest = count_more p q h xs in
    elim (cases_Bool (p x)) [
      | inl y ↦ omega (arith, rest, count_yes p x xs y, count_yes q x xs (h x y))
      | inr n ↦ elim (cases_Bool (q x)) [
        | inl y ↦ omega (arith, rest, count_no p x xs n, count_yes q x xs y)
        | inr m ↦ omega (arith, rest, count_no p x xs n, count_no q x xs m)
      ]
    ]

-- one value stands at a place
nth_below : (place : ℕ) (all : List ℤ) (a b : ℤ) → is_nth place all a ≡ true → is_nth place all b ≡ true → int_lt a b ≡ true → ⊥
nth_below place all a b h g less =
    let here = and_both _ _ h in
    let there = and_both _ _ g in
    let more = count_more (λ w. int_le w a) (λ w. int_lt w b) (λ w le. lt_below w a b le less) all in
    absurd (lt_le (count_by (λ w. int_le w a) all) (count_by (λ w. int_lt w b) all) place here.1 there.0 more)
  where
    lt_below : (w a b : ℤ) → int_le w a ≡ true → int_lt a b ≡ true → int_lt w b ≡ true
    lt_below w a b h g = grind (arith, ints)

    lt_le : (m n place : ℕ) → nat_lt place m ≡ true → nat_le n place ≡ true → m ≤ n → ⊥
    lt_le m n place h g more = grind (arith, nat_tests)

nth_one : (place : ℕ) (all : List ℤ) (a b : ℤ) → is_nth place all a ≡ true → is_nth place all b ≡ true → a ≡ b
nth_one place all a b h g =
    elim (cases_Bool (int_lt a b)) [
      | inl less ↦ absurd (nth_below place all a b h g less)
      | inr not_less ↦ elim (cases_Bool (int_lt b a)) [
        | inl less ↦ absurd (nth_below place all b a g h less)
        | inr nor ↦ same_from_le a b (le_from_not_lt b a nor) (le_from_not_lt a b not_less)
      ]
    ]

-- values in rising order, by their indexes
pub rising_le : (xs : List ℤ) (i j : ℕ) (d : ℤ) → IsSorted int_cmp xs → i ≤ j → j < length xs → int_le (get_or xs i d) (get_or xs j d) ≡ true
rising_le xs i j d sorted up fits =
    lt_no (get_or xs j d) (get_or xs i d) (sorted_far (λ x y. is_lt (int_cmp x y)) (ranks_by int_cmp_total (λ x. x)) xs sorted i j d up fits)

same_test : (place : ℕ) (all xs : List ℤ) (v : ℤ) → IsPermutation all xs → is_nth place xs v ≡ is_nth place all v
same_test place all xs v moved =
    ap (λ n. nat_le n place && nat_lt place (count_by (λ w. int_le w v) xs)) (sum_by-IsPermutation (λ w. cond (int_lt w v) 1 0) all xs moved)
    ∙ ap (λ n. nat_le (count_by (λ w. int_lt w v) all) place && nat_lt place n) (sum_by-IsPermutation (λ w. cond (int_le w v) 1 0) all xs moved)

-- what stands at an index of rising values stands at that place of all
pub nth_at : (place : ℕ) (xs : List ℤ) (d : ℤ) → IsSorted int_cmp xs → place < length xs → is_nth place xs (get_or xs place d) ≡ true
nth_at place xs d sorted fits =
    let v = get_or xs place d in
    let few = count_at_most (λ w. int_lt w v) xs place (λ k e more less. lt_from_le v (get_or xs k e)
    (subst (λ w. int_le w (get_or xs k e) ≡ true) (get_or_default xs place e d fits) (rising_le xs place k e sorted more less))) in
    let many = count_at_least (λ w. int_le w v) xs (suc place) (omega (arith, fits)) (λ k e less.
    subst (λ w. int_le (get_or xs k e) w ≡ true) (get_or_default xs place e d fits) (rising_le xs k place e sorted (omega (arith, less)) fits)) in
    tests (count_by (λ w. int_lt w v) xs) (count_by (λ w. int_le w v) xs) place few many
  where
    tests : (m n place : ℕ) → m ≤ place → suc place ≤ n → (nat_le m place && nat_lt place n) ≡ true
    tests m n place h g = grind (arith, nat_tests)

pub nth_is : (place : ℕ) (all xs : List ℤ) (d : ℤ) → IsPermutation all xs → IsSorted int_cmp xs → place < length xs → nth_value place all ≡ get_or xs place d
nth_is place all xs d moved sorted fits =
    let v = get_or xs place d in
    let here = sym (same_test place all xs v moved) ∙ nth_at place xs d sorted fits in
    ap (λ o. unwrap_or o (pos 0)) (find_only (is_nth place all) v all (λ y passes. nth_one place all y v passes here) here
    (Contains-permutation xs all v (IsPermutation-sym all xs moved) (place, fits, get_or_default xs place v d fits)))

length-values : (es : Entries) → length (values es) ≡ length es
length-values [] = refl
length-values (e ∷ es) = ap suc (length-values es)

-- where a value differs from the lower bound of all, not all are at the bound
other_count : (v u : ℤ) (es : Entries) → u ≡ v → All (λ w. int_le v w ≡ true) (values es)
    → list_any (λ other. not (int_eq other.1.value u)) es ≡ true → count_by (λ w. int_le w v) (values es) < length es
other_count v u [] same low any = absurd (false≢true any)
other_count v u (e ∷ es) same low any =
    elim (cases_Bool (int_le e.1.value v)) [
      | inl y ↦
          let here : e.1.value ≡ u = same_from_le e.1.value v y (low 0 v (omega arith)) ∙ sym same in
          let equal : int_eq e.1.value u ≡ true = subst (λ w. int_eq w u ≡ true) (sym here) (eq_same u) in
          let rest = other_count v u es same (λ k d less. low (suc k) d (omega (arith, less)))
          (subst (λ b. (not b || list_any (λ other. not (int_eq other.1.value u)) es) ≡ true) equal any) in
          omega (arith, rest, count_yes (λ w. int_le w v) e.1.value (values es) y)
      | inr n ↦ omega (arith, count_no (λ w. int_le w v) e.1.value (values es) n, count_fits v es)
    ]
  where
    count_fits : (v : ℤ) (es : Entries) → count_by (λ w. int_le w v) (values es) ≤ length es
    count_fits v es = omega (arith, count_by-le-length (λ w. int_le w v) (values es), length-values es)

pub mixed_count : (v : ℤ) (es : Entries) → All (λ w. int_le v w ≡ true) (values es) → are_mixed es ≡ true
    → count_by (λ w. int_le w v) (values es) < length es
mixed_count v [] low mixed = absurd (false≢true mixed)
mixed_count v (e ∷ es) low mixed =
    elim (cases_Bool (int_le e.1.value v)) [
      | inl y ↦ omega (
        arith,
        count_yes (λ w. int_le w v) e.1.value (values es) y,
        other_count v e.1.value es (same_from_le e.1.value v y (low 0 v (omega arith))) (λ k d less. low (suc k) d (omega (arith, less))) mixed,
      )
      | inr n ↦ omega (arith, count_no (λ w. int_le w v) e.1.value (values es) n, count_by-le-length (λ w. int_le w v) (values es), length-values es)
    ]

-- the counts of values in two orders
pub count_moved : (p : ℤ → Bool) (all xs : List ℤ) → IsPermutation all xs → count_by p xs ≡ count_by p all
count_moved p all xs moved = sum_by-IsPermutation (λ v. cond (p v) 1 0) all xs moved

-- the cut, by what stands where in rising order
pub cut_median : (all : List ℤ) (least middle : ℤ) → smallest all ≡ least → median all ≡ middle → int_lt least middle ≡ true → cut_of all ≡ middle
cut_median all least middle s m less =
    ap (λ b. cond b (median all) (second_smallest all)) (ap (λ v. int_lt v (median all)) s ∙ (ap (int_lt least) m ∙ less)) ∙ m

pub cut_second : (all : List ℤ) (least middle second : ℤ) → smallest all ≡ least → median all ≡ middle → int_lt least middle ≡ false
    → nth_value (count_by (λ v. int_le v least) all) all ≡ second → cut_of all ≡ second
cut_second all least middle second s m equal is =
    ap (λ b. cond b (median all) (second_smallest all)) (ap (λ v. int_lt v (median all)) s ∙ (ap (int_lt least) m ∙ equal))
    ∙ (ap (λ v. nth_value (count_by (λ w. int_le w v) all) all) s ∙ is)

-- numbers that fit are themselves
pub cast_lt : (a b : ℤ) (r : Bool) → SFits w64 a → SFits w64 b → int_lt (to_z w64 (of_z w64 a)) (to_z w64 (of_z w64 b)) ≡ r → int_lt a b ≡ r
cast_lt a b r f g h = sym (ap (λ x. int_lt x (to_z w64 (of_z w64 b))) (to_z-of_z w64 a f) ∙ ap (int_lt a) (to_z-of_z w64 b g)) ∙ h

-- the first of rising values above a number
first_count : (xs : List ℤ) (i : ℕ) (s : ℤ) → IsSorted int_cmp xs → i < length xs → ((k : ℕ) (d : ℤ) → k < i → int_le (get_or xs k d) s ≡ true)
    → int_lt s (get_or xs i (pos 0)) ≡ true → count_by (λ w. int_le w s) xs ≡ i
first_count xs i s sorted fits small less =
    let few = count_at_most (λ w. int_le w s) xs i (λ k d more within. le_from_lt s (get_or xs k d)
    (lt_le_trans s (get_or xs i (pos 0)) (get_or xs k d) less
    (subst (λ w. int_le w (get_or xs k d) ≡ true) (get_or_default xs i d (pos 0) fits) (rising_le xs i k d sorted more within)))) in
    let many = count_at_least (λ w. int_le w s) xs i (omega (arith, fits)) small in
    omega (arith, few, many)

pub first_above_is : (all xs : List ℤ) (i : ℕ) (s : ℤ) → IsSorted int_cmp xs → i < length xs → ((k : ℕ) (d : ℤ) → k < i → int_le (get_or xs k d) s ≡ true)
    → int_lt s (get_or xs i (pos 0)) ≡ true → IsPermutation all xs → get_or xs i (pos 0) ≡ nth_value (count_by (λ w. int_le w s) all) all
first_above_is all xs i s sorted fits small less moved =
    sym (ap (λ n. nth_value n all) (sym (count_moved (λ w. int_le w s) all xs moved) ∙ first_count xs i s sorted fits small less)
    ∙ nth_is i all xs (pos 0) moved sorted fits)

pub none_above : (xs : List ℤ) (i : ℕ) (s : ℤ) → length xs ≤ i → ((k : ℕ) (d : ℤ) → k < i → int_le (get_or xs k d) s ≡ true)
    → count_by (λ w. int_le w s) xs < length xs → ⊥
none_above xs i s all small mixed =
    absurd (omega (arith, mixed, count_at_least (λ w. int_le w s) xs (length xs) (omega arith) (λ k d less. small k d (omega (arith, less, all)))))

pub cast_small : (xs : List ℤ) (i : ℕ) (s : ℤ) → SFits w64 s → ((k : ℕ) (d : ℤ) → k < i → int_le (get_or xs k d) (to_z w64 (of_z w64 s)) ≡ true)
    → (k : ℕ) (d : ℤ) → k < i → int_le (get_or xs k d) s ≡ true
cast_small xs i s fits small k d less = subst (λ w. int_le (get_or xs k d) w ≡ true) (to_z-of_z w64 s fits) (small k d less)

-- where values are mixed, not all are the smallest
pub mixed_rising : (es : Entries) (xs : List ℤ) → IsPermutation (values es) xs → IsSorted int_cmp xs → are_mixed es ≡ true
    → count_by (λ w. int_le w (get_or xs 0 (pos 0))) xs < length xs
mixed_rising es xs moved sorted mixed =
    let v = get_or xs 0 (pos 0) in
    let low : All (λ w. int_le v w ≡ true) xs = λ k d less.
    subst (λ w. int_le w (get_or xs k d) ≡ true) (get_or_default xs 0 d (pos 0) (omega (arith, less))) (rising_le xs 0 k d sorted (omega arith) less) in
    let counts = mixed_count v es (All-permutation (λ w. int_le v w ≡ true) xs (values es) (IsPermutation-sym (values es) xs moved) low) mixed in
    omega (arith, counts, count_moved (λ w. int_le w v) (values es) xs moved, length_permutation (values es) xs moved, length-values es)

-- a cut above the smallest is inside
pub inside_rising : (es : Entries) (xs : List ℤ) (cut : ℤ) → IsPermutation (values es) xs → 0 < length xs → Contains xs cut
    → get_or xs 0 (pos 0) <ℤ cut → IsInside cut (values es)
inside_rising es xs cut moved some there above =
    let back = IsPermutation-sym (values es) xs moved in
    record {
      member = Contains-permutation xs (values es) cut back there;
      other = get_or xs 0 (pos 0);
      among = Contains-permutation xs (values es) (get_or xs 0 (pos 0)) back (0, some, get_or_default xs 0 (get_or xs 0 (pos 0)) (pos 0) some);
      above = above;
    }

pub some_mixed : (es : Entries) (xs : List ℤ) → IsPermutation (values es) xs → are_mixed es ≡ true → 0 < length xs
some_mixed [] xs moved mixed = absurd (false≢true mixed)
some_mixed (e ∷ es) xs moved mixed = omega (arith, length_permutation (values (e ∷ es)) xs moved, length-values (e ∷ es))
