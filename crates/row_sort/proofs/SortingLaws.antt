-- What is true of `sorted`: it is in order, keeps the order of ties, and is the only such list; and what its first
-- values are after one more is added.
use Rattle.std.proofs.Common.{◌≡◌, ℕ, zero, suc, ◌<◌, ◌≤◌, Bool, true, false, not, cond, List, [], ◌∷◌, ◌++◌, length, get_or, take, filter, fold, Ordering, is_lt, refl, sym, ap, subst, ◌∙◌, arith, append-nil, append_assoc, inl, inr, suc-le-suc, zero-le, add-one}
use Rattle.std.specs.Cmp.{IsStrictWeakOrder}
use Rattle.std.specs.List.{AllByRecursion}
use Rattle.std.specs.List.Sorted.{IsPermutation, IsSortedBy, IsStableBy, ties}
use Rattle.std.proofs.lemmas.Bool.{false≢true, cases_Bool, cond-true, cond-false, cond_both, and_parts, and_from, not-true, not_from_false}
use Rattle.std.proofs.lemmas.List.{take-take}
use Rattle.std.proofs.lemmas.List.Elements.{All-from_recursion, recursion_from_All}
use Rattle.std.proofs.lemmas.List.Sorted.{sorted_far, length_permutation, IsPermutation-refl, IsPermutation-sym, IsPermutation-trans, IsPermutation-cons, IsPermutation-middle}
use Rattle.row_sort.specs.Sorting.{placed, sorted}

-- a value that comes later goes before the first one that it is less than
abbrev pub placed_later : {A : Type 0} → (A → A → Ordering) → A → List A → List A
placed_later order x [] = x ∷ []
placed_later order x (y ∷ ys) = cond (is_lt (order x y)) (x ∷ y ∷ ys) (y ∷ placed_later order x ys)

-- ---- parts of a list

pub take-nil : {A : Type 0} (k : ℕ) → take {A = A} k [] ≡ []
take-nil zero = refl
take-nil (suc k) = refl

all_nil : {A : Type 0} (P : A → Type 0) (k : ℕ) → AllByRecursion P (take k [])
all_nil P zero = tt
all_nil P (suc k) = tt

all_fewer : {A : Type 0} (P : A → Type 0) (k : ℕ) (xs : List A) → AllByRecursion P (take (suc k) xs)
    → AllByRecursion P (take k xs)
all_fewer P zero xs all = tt
all_fewer P (suc k) [] all = tt
all_fewer P (suc k) (x ∷ xs) all = (all.0, all_fewer P k xs all.1)

all_take : {A : Type 0} (P : A → Type 0) (k : ℕ) (xs : List A) → AllByRecursion P xs → AllByRecursion P (take k xs)
all_take P zero xs all = tt
all_take P (suc k) [] all = tt
all_take P (suc k) (x ∷ xs) all = (all.0, all_take P k xs all.1)

take-front : {A : Type 0} (k : ℕ) (y : A) (ys : List A) → take k (y ∷ take k ys) ≡ take k (y ∷ ys)
take-front zero y ys = refl
take-front (suc k) y ys = ap (λ l. y ∷ l) (take-take k (suc k) ys (omega arith))

filter-kept : {A : Type 0} (p : A → Bool) (y : A) (ys : List A) → p y ≡ true → filter p (y ∷ ys) ≡ y ∷ filter p ys
filter-kept p y ys h = cond-true _ _ _ h

filter-dropped : {A : Type 0} (p : A → Bool) (y : A) (ys : List A) → p y ≡ false → filter p (y ∷ ys) ≡ filter p ys
filter-dropped p y ys h = cond-false _ _ _ h

one_kept : {A : Type 0} (x y : A) (l : List A) (a b : Bool) → (a ≡ true → b ≡ true → ⊥)
    → cond b (y ∷ cond a (x ∷ l) l) (cond a (x ∷ l) l) ≡ cond a (x ∷ cond b (y ∷ l) l) (cond b (y ∷ l) l)
one_kept x y l true true h = absurd (h refl refl)
one_kept x y l true false h = refl
one_kept x y l false true h = refl
one_kept x y l false false h = refl

-- ---- by any order

module _ {A : Type 0} (order : A → A → Ordering) where
  abbrev pub lt : A → A → Bool
  lt x y = is_lt (order x y)

  -- no value is less than one before it
  abbrev pub IsUp : List A → Type 0
  IsUp [] = Unit {0}
  IsUp (x ∷ xs) = AllByRecursion (λ y. lt y x ≡ false) xs × IsUp xs

  placed-past : (x y : A) (ys : List A) → lt y x ≡ true → placed order x (y ∷ ys) ≡ y ∷ placed order x ys
  placed-past x y ys h = cond-true _ _ _ h

  placed-here : (x y : A) (ys : List A) → lt y x ≡ false → placed order x (y ∷ ys) ≡ x ∷ y ∷ ys
  placed-here x y ys h = cond-false _ _ _ h

  later-here : (x y : A) (ys : List A) → lt x y ≡ true → placed_later order x (y ∷ ys) ≡ x ∷ y ∷ ys
  later-here x y ys h = cond-true _ _ _ h

  later-past : (x y : A) (ys : List A) → lt x y ≡ false → placed_later order x (y ∷ ys) ≡ y ∷ placed_later order x ys
  later-past x y ys h = cond-false _ _ _ h

  -- a value that is behind the first k leaves them as they are
  pub turned_away : (k : ℕ) (x : A) (ys : List A) → k ≤ length ys → AllByRecursion (λ y. lt x y ≡ false) (take k ys)
      → take k (placed_later order x ys) ≡ take k ys
  turned_away zero x ys long all = refl
  turned_away (suc k) x [] long all = absurd (omega arith)
  turned_away (suc k) x (y ∷ ys) long all =
      ap (take (suc k)) (later-past x y ys all.0) ∙ ap (λ l. y ∷ l) (turned_away k x ys (omega arith) all.1)

  bar_push_by : (k : ℕ) (b x : A) (ys : List A) → lt b x ≡ false → AllByRecursion (λ y. lt b y ≡ false) (take k ys)
      → AllByRecursion (λ y. lt b y ≡ false) (take k (placed_later order x ys))
  bar_push_by zero b x ys h all = tt
  bar_push_by (suc k) b x [] h all = (h, all_nil (λ y. lt b y ≡ false) k)
  bar_push_by (suc k) b x (y ∷ ys) h all =
      cond_both (lt x y) (x ∷ y ∷ ys) (y ∷ placed_later order x ys)
      (λ l. AllByRecursion (λ y. lt b y ≡ false) (take (suc k) l))
      (λ _. (h, all_fewer (λ y. lt b y ≡ false) k (y ∷ ys) all)) (λ _. (all.0, bar_push_by k b x ys h all.1))

  take_later_by : (k : ℕ) (x y : A) (ys : List A) (b : Bool)
      → take k (placed_later order x (take k ys)) ≡ take k (placed_later order x ys)
      → take (suc k) (cond b (x ∷ y ∷ take k ys) (y ∷ placed_later order x (take k ys)))
      ≡ take (suc k) (cond b (x ∷ y ∷ ys) (y ∷ placed_later order x ys))
  take_later_by k x y ys true same = ap (λ l. x ∷ l) (take-front k y ys)
  take_later_by k x y ys false same = ap (λ l. y ∷ l) same

  take-placed_later : (k : ℕ) (x : A) (ys : List A)
      → take k (placed_later order x (take k ys)) ≡ take k (placed_later order x ys)
  take-placed_later zero x ys = refl
  take-placed_later (suc k) x [] = refl
  take-placed_later (suc k) x (y ∷ ys) = take_later_by k x y ys (lt x y) (take-placed_later k x ys)

  pub up_take : (k : ℕ) (xs : List A) → IsUp xs → IsUp (take k xs)
  up_take zero xs up = tt
  up_take (suc k) [] up = tt
  up_take (suc k) (x ∷ xs) up = (all_take (λ y. lt y x ≡ false) k xs up.0, up_take k xs up.1)

  placed-front : (x : A) (xs : List A) → AllByRecursion (λ y. lt y x ≡ false) xs → placed order x xs ≡ x ∷ xs
  placed-front x [] above = refl
  placed-front x (y ∷ ys) above = placed-here x y ys above.0

  sorted-up : (xs : List A) → IsUp xs → sorted order xs ≡ xs
  sorted-up [] up = refl
  sorted-up (x ∷ xs) up = ap (placed order x) (sorted-up xs up.1) ∙ placed-front x xs up.0

  up_from : (xs : List A)
      → ((i j : ℕ) (d : A) → i ≤ j → j < length xs → lt (get_or xs j d) (get_or xs i d) ≡ false) → IsUp xs
  up_from [] h = tt
  up_from (x ∷ xs) h = (
    recursion_from_All (λ y. lt y x ≡ false) xs (λ k d below. h zero (suc k) d zero-le (suc-le-suc below)),
    up_from xs (λ i j d le below. h (suc i) (suc j) d (suc-le-suc le) (suc-le-suc below)),
  )

  neighbours : (xs : List A) → IsUp xs → (k : ℕ) (d : A) → suc k < length xs
      → lt (get_or xs (suc k) d) (get_or xs k d) ≡ false
  neighbours [] up k d below = absurd (omega arith)
  neighbours (x ∷ []) up k d below = absurd (omega arith)
  neighbours (x ∷ y ∷ ys) up zero d below = up.0.0
  neighbours (x ∷ y ∷ ys) up (suc k) d below = neighbours (y ∷ ys) up.1 k d (omega arith)

  placed-permutation : (x : A) (ys : List A) → IsPermutation (x ∷ ys) (placed order x ys)
  placed-permutation x [] = IsPermutation-refl (x ∷ [])
  placed-permutation x (y ∷ ys) =
      cond_both (lt y x) (y ∷ placed order x ys) (x ∷ y ∷ ys) (λ l. IsPermutation (x ∷ y ∷ ys) l)
      (λ _. IsPermutation-trans (x ∷ y ∷ ys) (y ∷ x ∷ ys) (y ∷ placed order x ys)
      (IsPermutation-sym (y ∷ x ∷ ys) (x ∷ y ∷ ys) (IsPermutation-middle (y ∷ []) x ys))
      (IsPermutation-cons y (x ∷ ys) (placed order x ys) (placed-permutation x ys)))
      (λ _. IsPermutation-refl (x ∷ y ∷ ys))

  pub sorted-permutation : (xs : List A) → IsPermutation xs (sorted order xs)
  sorted-permutation [] = IsPermutation-refl []
  sorted-permutation (x ∷ xs) =
      IsPermutation-trans (x ∷ xs) (x ∷ sorted order xs) (sorted order (x ∷ xs))
      (IsPermutation-cons x xs (sorted order xs) (sorted-permutation xs)) (placed-permutation x (sorted order xs))

  pub length-sorted : (xs : List A) → length (sorted order xs) ≡ length xs
  length-sorted xs = length_permutation xs (sorted order xs) (sorted-permutation xs)

  -- ---- by a total preorder

  module _ (w : IsStrictWeakOrder lt) where
    pub never : (x : A) → lt x x ≡ false
    never x = elim (cases_Bool (lt x x)) [ inl e ↦ w.one_way x x e | inr e ↦ e ]

    both : (x z y : A) → lt x z ≡ true → lt z y ≡ true → lt x y ≡ true
    both x z y p q =
        elim (cases_Bool (lt x y)) [
          | inl e ↦ e
          | inr e ↦ absurd (false≢true (sym (w.chain x y z e (w.one_way z y q)) ∙ p))
        ]

    -- it doesn't matter which of an earlier and a later value is placed first
    swap : (x y : A) (zs : List A) → placed order y (placed_later order x zs) ≡ placed_later order x (placed order y zs)
    swap x y [] = refl
    swap x y (z ∷ zs) =
        elim (cases_Bool (lt x z)) [
          | inl here ↦
              ap (placed order y) (later-here x z zs here)
              ∙ elim (cases_Bool (lt z y)) [
                | inl past ↦
                    placed-past y x (z ∷ zs) (both x z y here past) ∙ ap (λ l. x ∷ l) (placed-past y z zs past)
                    ∙ sym (later-here x z (placed order y zs) here)
                    ∙ ap (placed_later order x) (sym (placed-past y z zs past))
                | inr stays ↦
                    elim (cases_Bool (lt x y)) [
                      | inl before ↦
                          placed-past y x (z ∷ zs) before ∙ ap (λ l. x ∷ l) (placed-here y z zs stays)
                          ∙ sym (later-here x y (z ∷ zs) before)
                          ∙ ap (placed_later order x) (sym (placed-here y z zs stays))
                      | inr behind ↦
                          placed-here y x (z ∷ zs) behind ∙ ap (λ l. y ∷ l) (sym (later-here x z zs here))
                          ∙ sym (later-past x y (z ∷ zs) behind)
                          ∙ ap (placed_later order x) (sym (placed-here y z zs stays))
                    ]
              ]
          | inr further ↦
              ap (placed order y) (later-past x z zs further)
              ∙ elim (cases_Bool (lt z y)) [
                | inl past ↦
                    placed-past y z (placed_later order x zs) past ∙ ap (λ l. z ∷ l) (swap x y zs)
                    ∙ sym (later-past x z (placed order y zs) further)
                    ∙ ap (placed_later order x) (sym (placed-past y z zs past))
                | inr stays ↦
                    placed-here y z (placed_later order x zs) stays ∙ ap (λ l. y ∷ l) (sym (later-past x z zs further))
                    ∙ sym (later-past x y (z ∷ zs) (w.chain x z y further stays))
                    ∙ ap (placed_later order x) (sym (placed-here y z zs stays))
              ]
        ]

    pub sorted-push : (xs : List A) (x : A) → sorted order (xs ++ x ∷ []) ≡ placed_later order x (sorted order xs)
    sorted-push [] x = refl
    sorted-push (y ∷ xs) x = ap (placed order y) (sorted-push xs x) ∙ swap x y (sorted order xs)

    above_placed : (z x : A) (ys : List A) → lt x z ≡ false → AllByRecursion (λ y. lt y z ≡ false) ys
        → AllByRecursion (λ y. lt y z ≡ false) (placed order x ys)
    above_placed z x [] h above = (h, tt)
    above_placed z x (y ∷ ys) h above =
        cond_both (lt y x) (y ∷ placed order x ys) (x ∷ y ∷ ys) (λ l. AllByRecursion (λ y. lt y z ≡ false) l)
        (λ _. (above.0, above_placed z x ys h above.1)) (λ _. (h, above))

    above_less : (x y : A) (zs : List A) → lt y x ≡ false → AllByRecursion (λ z. lt z y ≡ false) zs
        → AllByRecursion (λ z. lt z x ≡ false) zs
    above_less x y [] h above = tt
    above_less x y (z ∷ zs) h above = (w.chain z y x above.0 h, above_less x y zs h above.1)

    up_placed : (x : A) (ys : List A) → IsUp ys → IsUp (placed order x ys)
    up_placed x [] up = (tt, tt)
    up_placed x (y ∷ ys) up =
        cond_both (lt y x) (y ∷ placed order x ys) (x ∷ y ∷ ys) (λ l. IsUp l)
        (λ past. (above_placed y x ys (w.one_way y x past) up.0, up_placed x ys up.1))
        (λ here. ((here, above_less x y ys here up.0), up))

    pub up_sorted : (xs : List A) → IsUp (sorted order xs)
    up_sorted [] = tt
    up_sorted (x ∷ xs) = up_placed x (sorted order xs) (up_sorted xs)

    sorted-again : (k : ℕ) (xs : List A) → sorted order (take k (sorted order xs)) ≡ take k (sorted order xs)
    sorted-again k xs = sorted-up (take k (sorted order xs)) (up_take k (sorted order xs) (up_sorted xs))

    pub first-again : (k : ℕ) (xs : List A)
        → take k (sorted order (take k (sorted order xs))) ≡ take k (sorted order xs)
    first-again k xs = ap (take k) (sorted-again k xs) ∙ take-take k k (sorted order xs) (omega arith)

    pub first-push : (k : ℕ) (xs : List A) (x : A)
        → take k (sorted order (take k (sorted order xs) ++ x ∷ [])) ≡ take k (sorted order (xs ++ x ∷ []))
    first-push k xs x =
        ap (take k) (sorted-push (take k (sorted order xs)) x)
        ∙ ap (λ l. take k (placed_later order x l)) (sorted-again k xs)
        ∙ take-placed_later k x (sorted order xs)
        ∙ ap (take k) (sym (sorted-push xs x))

    -- what isn't before a bar is before none that the bar isn't before
    behind_bar : (x b : A) (ys : List A) → lt x b ≡ false → AllByRecursion (λ y. lt b y ≡ false) ys
        → AllByRecursion (λ y. lt x y ≡ false) ys
    behind_bar x b [] h all = tt
    behind_bar x b (y ∷ ys) h all = (w.chain x b y h all.0, behind_bar x b ys h all.1)

    -- what is before none of the first k stays so, whatever is added
    pub bar_push : (k : ℕ) (b x : A) (ys : List A) → k ≤ length ys → AllByRecursion (λ y. lt b y ≡ false) (take k ys)
        → AllByRecursion (λ y. lt b y ≡ false) (take k (placed_later order x ys))
    bar_push k b x ys long all =
        elim (cases_Bool (lt b x)) [
          | inl past ↦
              subst (AllByRecursion (λ y. lt b y ≡ false))
              (sym (turned_away k x ys long (behind_bar x b (take k ys) (w.one_way b x past) all))) all
          | inr before ↦ bar_push_by k b x ys before all
        ]

    -- a value that isn't before such a bar changes nothing
    pub away : (k : ℕ) (b x : A) (xs : List A) → k ≤ length xs → lt x b ≡ false
        → AllByRecursion (λ y. lt b y ≡ false) (take k (sorted order xs))
        → take k (sorted order (take k (sorted order xs) ++ x ∷ [])) ≡ take k (sorted order xs)
    away k b x xs long h all =
        first-push k xs x ∙ ap (take k) (sorted-push xs x)
        ∙ turned_away k x (sorted order xs) (omega (arith, length-sorted xs))
        (behind_bar x b (take k (sorted order xs)) h all)

    first_by_one : (k : ℕ) (xs ys : List A)
        → fold (λ first x. take k (sorted order (first ++ x ∷ []))) (take k (sorted order xs)) ys
        ≡ take k (sorted order (xs ++ ys))
    first_by_one k xs [] = ap (λ l. take k (sorted order l)) (sym (append-nil xs))
    first_by_one k xs (y ∷ ys) =
        ap (λ first. fold (λ first x. take k (sorted order (first ++ x ∷ []))) first ys) (first-push k xs y)
        ∙ first_by_one k (xs ++ y ∷ []) ys ∙ ap (λ l. take k (sorted order l)) (append_assoc xs (y ∷ []) ys)

    pub first_by_ones : (k : ℕ) (xs : List A)
        → fold (λ first x. take k (sorted order (first ++ x ∷ []))) [] xs ≡ take k (sorted order xs)
    first_by_ones k xs =
        ap (λ first. fold (λ first x. take k (sorted order (first ++ x ∷ []))) first xs) (sym (take-nil k))
        ∙ first_by_one k [] xs

    -- the last of a sorted list is before none of it
    pub last_bar : (j : ℕ) (zs : List A) (d : A) → IsUp zs → length zs ≡ suc j
        → AllByRecursion (λ y. lt (get_or zs j d) y ≡ false) zs
    last_bar j [] d up long = tt
    last_bar zero (z ∷ []) d up long = (never z, tt)
    last_bar zero (z ∷ y ∷ zs) d up long = absurd (omega arith)
    last_bar (suc j) (z ∷ zs) d up long = (
      All-from_recursion (λ y. lt y z ≡ false) zs up.0 j d (omega arith),
      last_bar j zs d up.1 (omega arith),
    )

    tie_parts : (x y : A) → ties lt x y ≡ true → (lt x y ≡ false) × (lt y x ≡ false)
    tie_parts x y h =
        let parts = and_parts (not (lt x y)) (not (lt y x)) h in (not-true (lt x y) parts.0, not-true (lt y x) parts.1)

    tie_from : (x y : A) → lt x y ≡ false → lt y x ≡ false → ties lt x y ≡ true
    tie_from x y p q = and_from (not (lt x y)) (not (lt y x)) (not_from_false (lt x y) p) (not_from_false (lt y x) q)

    tie_itself : (x : A) → ties lt x x ≡ true
    tie_itself x = tie_from x x (never x) (never x)

    filter-placed : (t x : A) (ys : List A) → filter (ties lt t) (placed order x ys) ≡ filter (ties lt t) (x ∷ ys)
    filter-placed t x [] = refl
    filter-placed t x (y ∷ ys) =
        elim (cases_Bool (lt y x)) [
          | inr stays ↦ ap (filter (ties lt t)) (placed-here x y ys stays)
          | inl past ↦
              ap (filter (ties lt t)) (placed-past x y ys past)
              ∙ ap (λ l. cond (ties lt t y) (y ∷ l) l) (filter-placed t x ys)
              ∙ one_kept x y (filter (ties lt t) ys) (ties lt t x) (ties lt t y)
              (λ p q. false≢true (sym (w.chain y t x (tie_parts t y q).1 (tie_parts t x p).0) ∙ past))
        ]

    pub sorted-stable : (t : A) (xs : List A) → filter (ties lt t) (sorted order xs) ≡ filter (ties lt t) xs
    sorted-stable t [] = refl
    sorted-stable t (x ∷ xs) =
        filter-placed t x (sorted order xs) ∙ ap (λ l. cond (ties lt t x) (x ∷ l) l) (sorted-stable t xs)

    -- something that ties with x is there
    found : (n x : A) (ys : List A) (v : A) (vs : List A) → AllByRecursion (λ y. lt y n ≡ false) ys
        → filter (ties lt x) ys ≡ v ∷ vs → lt x n ≡ false
    found n x [] v vs all e = cc
    found n x (y ∷ ys) v vs all e =
        elim (cases_Bool (ties lt x y)) [
          | inl with ↦ w.chain x y n (tie_parts x y with).0 all.0
          | inr without ↦ found n x ys v vs all.1 (sym (filter-dropped (ties lt x) y ys without) ∙ e)
        ]

    only : (ys zs : List A) → IsUp ys → IsUp zs → ((x : A) → filter (ties lt x) ys ≡ filter (ties lt x) zs) → ys ≡ zs
    only [] [] up right same = refl
    only [] (z ∷ zs) up right same =
        let clash = same z ∙ filter-kept (ties lt z) z zs (tie_itself z) in cc
    only (y ∷ ys) [] up right same =
        let clash = sym (same y) ∙ filter-kept (ties lt y) y ys (tie_itself y) in cc
    only (y ∷ ys) (z ∷ zs) up right same =
        let at_y = filter-kept (ties lt y) y ys (tie_itself y) in
        let at_z = filter-kept (ties lt z) z zs (tie_itself z) in
        let down : lt y z ≡ false =
        found z y (z ∷ zs) y (filter (ties lt y) ys) (never z, right.0) (sym (same y) ∙ at_y) in
        let back : lt z y ≡ false = found y z (y ∷ ys) z (filter (ties lt z) zs) (never y, up.0) (same z ∙ at_z) in
        let heads = sym at_y ∙ same y ∙ filter-kept (ties lt y) z zs (tie_from y z down back) in
        let head : y ≡ z = cc in
        let tails : (x : A) → filter (ties lt x) ys ≡ filter (ties lt x) zs =
        λ x. elim (cases_Bool (ties lt x y)) [
          | inl with ↦
              let whole = sym (filter-kept (ties lt x) y ys with) ∙ same x
              ∙ filter-kept (ties lt x) z zs (ap (ties lt x) (sym head) ∙ with) in cc
          | inr without ↦
              sym (filter-dropped (ties lt x) y ys without) ∙ same x
              ∙ filter-dropped (ties lt x) z zs (ap (ties lt x) (sym head) ∙ without)
        ] in
        ap (λ v. v ∷ ys) head ∙ ap (λ l. z ∷ l) (only ys zs up.1 right.1 tails)

    pub sorted_only : (xs ys : List A) → IsSortedBy lt ys → IsStableBy lt xs ys → ys ≡ sorted order xs
    sorted_only xs ys up stable =
        only ys (sorted order xs) (up_from ys (sorted_far lt w ys up)) (up_sorted xs)
        (λ x. stable x ∙ sym (sorted-stable x xs))

    pub sorted-sorted : (xs : List A) → IsSortedBy lt (sorted order xs)
    sorted-sorted xs = λ k d low high. rw add-one (neighbours (sorted order xs) (up_sorted xs) k d (omega arith))
