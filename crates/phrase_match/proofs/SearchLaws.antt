-- How many places of a rising list are below another: where the search of a list ends.
use Rattle.std.proofs.Common.{◌≡◌, ◌⊎◌, inl, inr, ℕ, zero, suc, ◌<◌, ◌≤◌, ◌+◌, ◌-◌, min, true, false, cond, List, [], ◌∷◌, length, get_or, take, drop, refl, sym, ap, ◌∙◌, subst, arith, length-take, length-drop, get_or-take, get_or-drop}
use Rattle.std.specs.List.{list_all}
use Rattle.std.specs.List.Sorted.{IsPartitionPoint}
use Rattle.std.proofs.lemmas.Bool.{ltb-true, ltb-false, lt-leb, and_parts, cases_lt}
use Rattle.std.proofs.lemmas.List.{drop-drop, take_rest}
use lib.Dec.{ltb}
use Rattle.phrase_match.specs.Phrase.{rises}
use Rattle.phrase_match.specs.Look.{from}
use Rattle.phrase_match.proofs.PlacesLaws.{from_is_drop, rises_at}

pub rises_drop : (k : ℕ) (xs : List ℕ) → rises xs ≡ true → rises (drop k xs) ≡ true
rises_drop zero xs up = up
rises_drop (suc k) [] up = refl
rises_drop (suc k) (x ∷ xs) up = rises_drop k xs (and_parts (list_all (ltb x) xs) (rises xs) up).1

-- the last of so many places is below, and so all of them are
passed_all : (low k : ℕ) (xs : List ℕ) → rises xs ≡ true → k ≤ length xs → (0 < k → get_or xs (k - 1) 0 < low) → (i : ℕ) → i < k → get_or xs i 0 < low
passed_all low k xs up le passed i lt = go (cases_lt i (k - 1))
  where
    go : (i < k - 1) ⊎ (k - 1 ≤ i) → get_or xs i 0 < low
    go (inl less) = omega (arith, rises_at i (k - 1) xs up less (omega (arith, lt, le)), passed (omega (arith, lt)))
    go (inr more) = let same : i ≡ k - 1 = omega (arith, lt, more) in subst (λ (n : ℕ). get_or xs n 0 < low) (sym same) (passed (omega (arith, lt)))

-- the search ends where a place is below and the next is not
pub ends_at : (low k : ℕ) (xs : List ℕ) → rises xs ≡ true → k ≤ length xs → (0 < k → get_or xs (k - 1) 0 < low)
    → (k < length xs → low ≤ get_or xs k 0) → drop k xs ≡ from low xs
ends_at low k xs up le passed next = from_is_drop low k xs (passed_all low k xs up le passed) above le
  where
    above : (i : ℕ) → k ≤ i → i < length xs → low ≤ get_or xs i 0
    above i from_k lt = go (cases_lt k i)
      where
        go : (k < i) ⊎ (i ≤ k) → low ≤ get_or xs i 0
        go (inl less) = omega (arith, rises_at k i xs up less lt, next (omega (arith, less, lt)))
        go (inr more) = let same : k ≡ i = omega (arith, from_k, more) in subst (λ (n : ℕ). low ≤ get_or xs n 0) same (next (omega (arith, same, lt)))

skip : (low k : ℕ) (xs : List ℕ) → ((i : ℕ) → i < k → get_or xs i 0 < low) → k ≤ length xs → from low (drop k xs) ≡ from low xs
skip low zero xs below le = refl
skip low (suc k) [] below le = refl
skip low (suc k) (x ∷ xs) below le =
    skip low k xs (λ i lt. below (suc i) (omega (arith, lt))) (omega (arith, le))
    ∙ sym (ap (λ b. cond b (x ∷ from low xs) (from low xs)) (lt-leb low x (below 0 (omega arith))))

-- a search that begins behind places that are below
pub behind_passed : (low start more : ℕ) (xs : List ℕ) → rises xs ≡ true → start ≤ length xs → (0 < start → get_or xs (start - 1) 0 < low)
    → drop more (take (length xs - start) (drop start xs)) ≡ from low (take (length xs - start) (drop start xs))
    → drop (start + more) xs ≡ from low xs
behind_passed low start more xs up le passed is =
    sym (drop-drop more start xs) ∙ (ap (drop more) (sym (take_rest xs start)) ∙ (is ∙ (ap (from low) (take_rest xs start)
    ∙ skip low start xs (passed_all low start xs up le passed) le)))

-- the last step of the search by doubled steps, between the places that it passed over and the one that went too far
pub halved : (low below reach end more : ℕ) (xs : List ℕ) → rises xs ≡ true → below ≤ length xs → below < reach → (0 < below
    → get_or xs (below - 1) 0 < low) → end ≡ min reach (length xs)
    → (reach ≤ length xs → low ≤ get_or xs (reach - 1) 0) → more ≤ length (take (end - below) (drop below xs))
    → IsPartitionPoint (λ y. ltb y low ≡ true) (λ y. ltb y low ≡ false) (take (end - below) (drop below xs)) more
    → drop (below + more) xs ≡ from low xs
halved low below reach end more xs up le ahead passed is too_far within point = ends_at low (below + more) xs up (omega
    (arith, inside, le, is)) last next
  where
    part : List ℕ
    part = take (end - below) (drop below xs)

    inside : more ≤ end - below
    inside = omega (arith, within, length-take (end - below) (drop below xs))

    all : length part ≡ end - below
    all = omega (arith, length-take (end - below) (drop below xs), length-drop below xs, is, le)

    at : (i : ℕ) → i < end - below → get_or part i 0 ≡ get_or xs (below + i) 0
    at i lt = get_or-take (end - below) (drop below xs) i 0 lt ∙ get_or-drop below xs i 0

    under : (i : ℕ) → i < more → get_or xs (below + i) 0 < low
    under i lt = omega (arith, at i (omega (arith, lt, inside)), ltb-true (get_or part i 0) low (point.0 i 0 (omega arith) lt))

    last : 0 < below + more → get_or xs (below + more - 1) 0 < low
    last h = go (cases_lt 0 more)
      where
        go : (0 < more) ⊎ (more ≤ 0) → get_or xs (below + more - 1) 0 < low
        go (inl some) = let same : below + (more - 1) ≡ below + more - 1 = omega (arith, some) in subst (λ
            (n : ℕ). get_or xs n 0 < low) same (under (more - 1) (omega (arith, some)))
        go (inr none) = let same : below - 1 ≡ below + more - 1 = omega (arith, none) in subst (λ
            (n : ℕ). get_or xs n 0 < low) same (passed (omega (arith, h, none)))

    next : below + more < length xs → low ≤ get_or xs (below + more) 0
    next h = go (cases_lt more (end - below))
      where
        go : (more < end - below) ⊎ (end - below ≤ more) → low ≤ get_or xs (below + more) 0
        go (inl some) = omega (arith, at more some, ltb-false (get_or part more 0) low (point.1 more 0 (omega arith) (omega (arith, some, all))))
        go (inr none) =
            let whole : end ≡ reach = omega (arith, is, none, inside, h, ahead, le) in
            let same : below + (reach - 1 - below) ≡ reach - 1 = omega (arith, ahead) in
            absurd (omega (
              arith,
              too_far (omega (arith, whole, is)),
              subst (λ (n : ℕ). get_or xs n 0 < low) same (under
                  (reach - 1 - below) (omega (arith, none, whole, ahead))),
            ))
