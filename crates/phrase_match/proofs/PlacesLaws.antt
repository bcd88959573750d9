-- Lists of places that rise: which places they have, from one place on, and by number.
use Rattle.std.proofs.Common.{◌≡◌, ◌⊎◌, inl, inr, ℕ, zero, suc, ◌<◌, ◌≤◌, ◌+◌, Bool, true, false, cond, eqb, List, [], ◌∷◌, length, get_or, drop, Some, None, slice_get, refl, sym, ap, ◌∙◌, subst, filter, arith}
use Rattle.std.specs.List.{list_all}
use Rattle.std.specs.List.Sorted.{IsNonDecreasingBy}
use Rattle.std.proofs.lemmas.List.{get_or_default, drop_more}
use Rattle.std.proofs.lemmas.Option.{none-some, slice_get_within, get_or_from_slice_get, slice_get-get_or}
use Rattle.std.proofs.lemmas.Bool.{ltb-true, leb-true, leb-false, le-leb, lt-leb, eqb-true, eqb-false, eq-eqb, ne_eqb, false≢true, and_parts, and_from, or_cases, or_left, or_right, or_from, or_parts, cases_lt}
use lib.Dec.{ltb, leb}
use Rattle.phrase_match.specs.Phrase.{has, rises}
use Rattle.phrase_match.specs.Places.{AllRise}
use Rattle.phrase_match.specs.Look.{from}

-- a place of a list is its first or one behind that
pub has_cases : {P : Type 0} (x y : ℕ) (xs : List ℕ) → has (x ∷ xs) y ≡ true → (x ≡ y → P) → (has xs y ≡ true → P) → P
has_cases {P = P} x y xs h first behind = go (or_cases (eqb x y) (has xs y) h)
  where
    go : (eqb x y ≡ true) ⊎ (has xs y ≡ true) → P
    go (inl e) = first (eqb-true x y e)
    go (inr e) = behind e

pub has_first : (x : ℕ) (xs : List ℕ) → has (x ∷ xs) x ≡ true
has_first x xs = or_left (eqb x x) (has xs x) (eq-eqb x x refl)

pub has_behind : (x y : ℕ) (xs : List ℕ) → has xs y ≡ true → has (x ∷ xs) y ≡ true
has_behind x y xs h = or_right (eqb x y) (has xs y) h

pub has_none : (x y : ℕ) (xs : List ℕ) → (x ≡ y → ⊥) → has xs y ≡ false → has (x ∷ xs) y ≡ false
has_none x y xs other h = or_from (eqb x y) (has xs y) (ne_eqb x y other) h

pub has_neither : (x y : ℕ) (xs : List ℕ) → has (x ∷ xs) y ≡ false → (x ≡ y → ⊥) × (has xs y ≡ false)
has_neither x y xs h = let parts = or_parts (eqb x y) (has xs y) h in (eqb-false x y parts.0, parts.1)

-- what is not so is false
pub no_test : (a b : Bool) → (a ≡ true → b ≡ true) → b ≡ false → a ≡ false
no_test true b f e = absurd (false≢true (sym e ∙ f refl))
no_test false b f e = refl

-- ---- from a place on

pub from_has : (low x : ℕ) (xs : List ℕ) → has (from low xs) x ≡ true → (low ≤ x) × (has xs x ≡ true)
from_has low x [] h = absurd (false≢true h)
from_has low x (y ∷ xs) h = go (leb low y) refl (from_has low x xs) h
  where
    go : (b : Bool) → leb low y ≡ b → (has (from low xs) x ≡ true → (low ≤ x) × (has xs x ≡ true))
        → has (cond b (y ∷ from low xs) (from low xs)) x ≡ true → (low ≤ x) × (has (y ∷ xs) x ≡ true)
    go true e again k = has_cases y x (from low xs) k
        (λ same. (omega (arith, same, leb-true low y e), or_left (eqb y x) (has xs x) (eq-eqb y x same)))
        (λ behind. ((again behind).0, has_behind y x xs (again behind).1))
    go false e again k = ((again k).0, has_behind y x xs (again k).1)

pub has_from : (low x : ℕ) (xs : List ℕ) → has xs x ≡ true → low ≤ x → has (from low xs) x ≡ true
has_from low x [] h above = h
has_from low x (y ∷ xs) h above = go (leb low y) refl (λ k. has_from low x xs k above)
  where
    go : (b : Bool) → leb low y ≡ b → (has xs x ≡ true → has (from low xs) x ≡ true) → has (cond b (y ∷ from low xs) (from low xs)) x ≡ true
    go true e again = has_cases y x xs h (λ same. or_left (eqb y x) (has (from low xs) x) (eq-eqb y x same))
        (λ behind. has_behind y x (from low xs) (again behind))
    go false e again = has_cases y x xs h (λ same. absurd (omega (arith, same, leb-false low y e, above))) again

-- all of them, where none is below it
pub from_zero : (xs : List ℕ) → from 0 xs ≡ xs
from_zero [] = refl
from_zero (x ∷ xs) = ap (λ b. cond b (x ∷ from 0 xs) (from 0 xs)) (le-leb 0 x (omega arith)) ∙ ap (λ ys. x ∷ ys) (from_zero xs)

-- ---- rising lists

-- each place behind the first is above it
pub above_first : (x y : ℕ) (xs : List ℕ) → list_all (ltb x) xs ≡ true → has xs y ≡ true → x < y
above_first x y [] all h = absurd (false≢true h)
above_first x y (z ∷ xs) all h =
    let parts = and_parts (ltb x z) (list_all (ltb x) xs) all in
    has_cases z y xs h (λ same. omega (arith, same, ltb-true x z parts.0)) (λ behind. above_first x y xs parts.1 behind)

all_filter : (q p : ℕ → Bool) (xs : List ℕ) → list_all q xs ≡ true → list_all q (filter p xs) ≡ true
all_filter q p [] h = refl
all_filter q p (x ∷ xs) h = let parts = and_parts (q x) (list_all q xs) h in go (p x) parts.0 (all_filter q p xs parts.1)
  where
    go : (b : Bool) → q x ≡ true → list_all q (filter p xs) ≡ true → list_all q (cond b (x ∷ filter p xs) (filter p xs)) ≡ true
    go true e again = and_from (q x) (list_all q (filter p xs)) e again
    go false e again = again

pub rises_filter : (p : ℕ → Bool) (xs : List ℕ) → rises xs ≡ true → rises (filter p xs) ≡ true
rises_filter p [] h = refl
rises_filter p (x ∷ xs) h = let parts = and_parts (list_all (ltb x) xs) (rises xs) h in go (p x) (all_filter
    (ltb x) p xs parts.0) (rises_filter p xs parts.1)
  where
    go : (b : Bool) → list_all (ltb x) (filter p xs) ≡ true → rises (filter p xs) ≡ true → rises (cond b (x ∷ filter p xs) (filter p xs)) ≡ true
    go true e again = and_from (list_all (ltb x) (filter p xs)) (rises (filter p xs)) e again
    go false e again = again

pub rises_from : (low : ℕ) (xs : List ℕ) → rises xs ≡ true → rises (from low xs) ≡ true
rises_from low xs h = rises_filter (leb low) xs h

-- where the places below `low` end, those from it on begin
pub from_is_drop : (low k : ℕ) (xs : List ℕ) → ((i : ℕ) → i < k → get_or xs i 0 < low) → ((i : ℕ) → k ≤ i → i < length xs
    → low ≤ get_or xs i 0) → k ≤ length xs → drop k xs ≡ from low xs
from_is_drop low zero [] below above h = refl
from_is_drop low (suc k) [] below above h = absurd (omega (arith, h))
from_is_drop low zero (x ∷ xs) below above h =
    let rest : xs ≡ from low xs = from_is_drop low 0 xs (λ i lt. absurd (omega (arith, lt))) (λ i le lt. above (suc i)
    (omega arith) (omega (arith, lt))) (omega arith) in
    sym (ap (λ b. cond b (x ∷ from low xs) (from low xs)) (le-leb low x (above 0 (omega arith) (omega arith))) ∙ ap (λ ys. x ∷ ys) (sym rest))
from_is_drop low (suc k) (x ∷ xs) below above h =
    from_is_drop low k xs (λ i lt. below (suc i) (omega (arith, lt))) (λ i le lt. above (suc i) (omega (arith, le)) (omega
    (arith, lt))) (omega (arith, h))
    ∙ sym (ap (λ b. cond b (x ∷ from low xs) (from low xs)) (lt-leb low x (below 0 (omega arith))))

-- ---- by number

pub has_at : (r : ℕ) (xs : List ℕ) → r < length xs → has xs (get_or xs r 0) ≡ true
has_at r [] h = absurd (omega (arith, h))
has_at zero (x ∷ xs) h = has_first x xs
has_at (suc r) (x ∷ xs) h = has_behind x (get_or xs r 0) xs (has_at r xs (omega (arith, h)))

pub rises_at : (q r : ℕ) (xs : List ℕ) → rises xs ≡ true → q < r → r < length xs → get_or xs q 0 < get_or xs r 0
rises_at q r [] up lt h = absurd (omega (arith, h))
rises_at q zero (x ∷ xs) up lt h = absurd (omega (arith, lt))
rises_at zero (suc r) (x ∷ xs) up lt h = above_first x (get_or xs r 0) xs (and_parts (list_all (ltb x) xs) (rises xs) up).0
    (has_at r xs (omega (arith, h)))
rises_at (suc q) (suc r) (x ∷ xs) up lt h = rises_at q r xs (and_parts (list_all (ltb x) xs) (rises xs) up).1 (omega (arith, lt)) (omega (arith, h))

-- what the code reads of a place by its number
pub number_none : (r : ℕ) (xs : List ℕ) → slice_get xs r ≡ None → length xs ≤ r
number_none r xs h = go (cases_lt r (length xs))
  where
    go : (r < length xs) ⊎ (length xs ≤ r) → length xs ≤ r
    go (inl lt) = absurd (none-some (get_or xs r 0) (sym h ∙ slice_get-get_or xs r 0 lt))
    go (inr le) = le

pub number_some : (r x : ℕ) (xs : List ℕ) → slice_get xs r ≡ Some x → (r < length xs) × (get_or xs r 0 ≡ x)
number_some r x xs h = (slice_get_within xs r x h, get_or_from_slice_get xs r x 0 h)

-- a rising list is one that `partition_point` can halve
pub rises_by : (xs : List ℕ) → rises xs ≡ true → IsNonDecreasingBy (λ x. x) xs
rises_by xs up i j d le lt = go (cases_lt i j)
  where
    go : (i < j) ⊎ (j ≤ i) → get_or xs i d ≤ get_or xs j d
    go (inl less) = omega (arith, rises_at i j xs up less lt, get_or_default xs i d 0 (omega (arith, less, lt)), get_or_default xs j d 0 lt)
    go (inr more) = let same : i ≡ j = omega (arith, le, more) in omega (arith, ap (λ k. get_or xs k d) same)

-- the list that a loop reads at a place
pub record ListAt (i : ℕ) (xs : List ℕ) (lists : List (List ℕ)) : Type 0 where
  pub up : rises xs ≡ true
  pub read : xs ≡ get_or lists i xs
  pub rest : drop i lists ≡ xs ∷ drop (i + 1) lists

pub list_at : (i : ℕ) (xs ys : List ℕ) (lists : List (List ℕ)) → AllRise lists → i < length lists → ys ≡ get_or lists i ys
    → xs ≡ ys → ListAt i xs lists
list_at i xs ys lists up lt is same =
    let read : xs ≡ get_or lists i xs = subst (λ (zs : List ℕ). zs ≡ get_or lists i zs) (sym same) is in
    record {
      up = subst (λ (zs : List ℕ). rises zs ≡ true) (sym read) (up i xs lt);
      read = read;
      rest = drop_more lists i xs lt
          ∙ ap (λ zs. zs ∷ drop (i + 1) lists) (sym read);
    }

-- the same of a list that is read with an empty one for none
pub word_at : (i : ℕ) (xs : List ℕ) (lists : List (List ℕ)) → AllRise lists → i < length lists → xs ≡ get_or lists i [] → ListAt i xs lists
word_at i xs lists up lt is = list_at i xs xs lists up lt (is ∙ get_or_default lists i [] xs lt) refl
