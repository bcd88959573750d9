-- Choices of one place from each list, and when one fits.
use Rattle.std.proofs.Common.{◌≡◌, ◌⊎◌, inl, inr, ℕ, suc, ◌≤◌, ◌+◌, ◌-◌, Bool, true, false, List, [], ◌∷◌, length, Option, Some, None, refl, sym, ap, ◌∙◌, arith}
use Rattle.std.specs.List.{list_any}
use Rattle.std.proofs.lemmas.Bool.{false≢true, leb-true, le-leb, or_cases, or_left, or_right, false_from_ne_true}
use Rattle.phrase_match.specs.Phrase.{has, least, greatest, gaps, is_close, fits, some_choice, within}
use Rattle.phrase_match.specs.Look.{from, all_from, earliest}
use Rattle.phrase_match.proofs.PlacesLaws.{has_cases, has_first, has_behind, from_has, has_from, from_zero}

-- one place of each list, from `low` on
abbrev pub Chosen : ℕ → List (List ℕ) → List ℕ → Type 0
Chosen low [] [] = Unit {0}
Chosen low [] (x ∷ choice) = ⊥
Chosen low (xs ∷ lists) [] = ⊥
Chosen low (xs ∷ lists) (x ∷ choice) = (low ≤ x) × (has xs x ≡ true) × Chosen low lists choice

pub chosen_length : (low : ℕ) (lists : List (List ℕ)) (choice : List ℕ) → Chosen low lists choice → length choice ≡ length lists
chosen_length low [] [] h = refl
chosen_length low [] (x ∷ choice) h = absurd h
chosen_length low (xs ∷ lists) [] h = absurd h
chosen_length low (xs ∷ lists) (x ∷ choice) h = ap suc (chosen_length low lists choice h.2)

-- all places of a choice lie further on
pub chosen_later : (low start : ℕ) (lists : List (List ℕ)) (choice : List ℕ) → ((x : ℕ) → has choice x ≡ true → start ≤ x)
    → Chosen low lists choice → Chosen start lists choice
chosen_later low start [] [] above h = tt
chosen_later low start [] (x ∷ choice) above h = absurd h
chosen_later low start (xs ∷ lists) [] above h = absurd h
chosen_later low start (xs ∷ lists) (x ∷ choice) above h = (
  above x
      (has_first x choice),
  h.1,
  chosen_later low start lists choice (λ y k. above y (has_behind x y choice k)) h.2,
)

pub chosen_above : (low : ℕ) (lists : List (List ℕ)) (choice : List ℕ) → Chosen low lists choice → (x : ℕ) → has choice x ≡ true → low ≤ x
chosen_above low [] [] h x k = absurd (false≢true k)
chosen_above low [] (y ∷ choice) h x k = absurd h
chosen_above low (xs ∷ lists) [] h x k = absurd h
chosen_above low (xs ∷ lists) (y ∷ choice) h x k = has_cases y x choice k (λ same. omega (arith, same, h.0))
    (λ behind. chosen_above low lists choice h.2 x behind)

-- an element that passes
record Passing (p : ℕ → Bool) (xs : List ℕ) : Type 0 where
  one : ℕ
  there : has xs one ≡ true
  passes : p one ≡ true

any_found : (p : ℕ → Bool) (xs : List ℕ) → list_any p xs ≡ true → Passing p xs
any_found p [] h = absurd (false≢true h)
any_found p (x ∷ xs) h = go (or_cases (p x) (list_any p xs) h) (any_found p xs)
  where
    go : (p x ≡ true) ⊎ (list_any p xs ≡ true) → (list_any p xs ≡ true → Passing p xs) → Passing p (x ∷ xs)
    go (inl e) behind = record { one = x; there = has_first x xs; passes = e }
    go (inr e) behind = let found = behind e in record { one = found.one; there = has_behind x found.one xs found.there; passes = found.passes }

any_given : (p : ℕ → Bool) (xs : List ℕ) (x : ℕ) → has xs x ≡ true → p x ≡ true → list_any p xs ≡ true
any_given p [] x there passes = there
any_given p (y ∷ xs) x there passes = has_cases y x xs there (λ same. or_left (p y) (list_any p xs) (ap p same
    ∙ passes)) (λ behind. or_right (p y) (list_any p xs) (any_given p xs x behind passes))

-- a choice that passes
pub record Choice (test : List ℕ → Bool) (low : ℕ) (lists : List (List ℕ)) : Type 0 where
  pub places : List ℕ
  pub chosen : Chosen low lists places
  pub passes : test places ≡ true

pub choice_found : (test : List ℕ → Bool) (low : ℕ) (lists : List (List ℕ)) → some_choice test (all_from low lists) ≡ true → Choice test low lists
choice_found test low [] h = record { places = []; chosen = tt; passes = h }
choice_found test low (xs ∷ lists) h =
    let first = any_found (λ x. some_choice (λ choice. test (x ∷ choice)) (all_from low lists)) (from low xs) h in
    let others = choice_found (λ choice. test (first.one ∷ choice)) low lists first.passes in
    let place = from_has low first.one xs first.there in
    record { places = first.one ∷ others.places; chosen = (place.0, place.1, others.chosen); passes = others.passes }

pub choice_given : (test : List ℕ → Bool) (low : ℕ) (lists : List (List ℕ)) (choice : List ℕ) → Chosen low lists choice
    → test choice ≡ true → some_choice test (all_from low lists) ≡ true
choice_given test low [] [] h passes = passes
choice_given test low [] (x ∷ choice) h passes = absurd h
choice_given test low (xs ∷ lists) [] h passes = absurd h
choice_given test low (xs ∷ lists) (x ∷ choice) h passes =
    any_given (λ y. some_choice (λ others. test (y ∷ others)) (all_from low lists)) (from low xs) x (has_from low x xs h.1 h.0)
    (choice_given (λ others. test (x ∷ others)) low lists choice h.2 passes)

-- ---- the three things that a look says

-- no choice fits
pub nowhere : (slop : Option ℕ) (in_order : Bool) (low : ℕ) (lists : List (List ℕ)) → ((choice : List ℕ)
    → Chosen low lists choice → fits slop in_order choice ≡ true → ⊥) → within (all_from low lists) slop in_order ≡ false
nowhere slop in_order low lists none = false_from_ne_true (within (all_from low lists) slop in_order)
    (λ h. let found = choice_found (fits slop in_order) low lists h in none found.places found.chosen found.passes)

same_test : (a b : Bool) → (a ≡ true → b ≡ true) → (b ≡ true → a ≡ true) → a ≡ b
same_test true b f g = sym (f refl)
same_test false true f g = g refl
same_test false false f g = refl

-- each choice that fits lies further on
pub later : (slop : Option ℕ) (in_order : Bool) (low start : ℕ) (lists : List (List ℕ)) → low ≤ start → ((choice : List ℕ)
    → Chosen low lists choice → fits slop in_order choice ≡ true → (x : ℕ) → has choice x ≡ true → start ≤ x)
    → within (all_from start lists) slop in_order ≡ within (all_from low lists) slop in_order
later slop in_order low start lists after above = same_test _ _ wider narrower
  where
    wider : within (all_from start lists) slop in_order ≡ true → within (all_from low lists) slop in_order ≡ true
    wider h =
        let found = choice_found (fits slop in_order) start lists h in
        choice_given (fits slop in_order) low lists found.places (chosen_later start low lists found.places (λ x k. omega
        (arith, after, chosen_above start lists found.places found.chosen x k)) found.chosen) found.passes

    narrower : within (all_from low lists) slop in_order ≡ true → within (all_from start lists) slop in_order ≡ true
    narrower h =
        let found = choice_found (fits slop in_order) low lists h in
        choice_given (fits slop in_order) start lists found.places (chosen_later low start lists found.places
        (above found.places found.chosen found.passes) found.chosen) found.passes

-- from 0 on are all
pub all_from_zero : (lists : List (List ℕ)) → all_from 0 lists ≡ lists
all_from_zero [] = refl
all_from_zero (xs ∷ lists) = ap (λ ys. ys ∷ all_from 0 lists) (from_zero xs) ∙ ap (λ rest. xs ∷ rest) (all_from_zero lists)

-- ---- windows

least_low : (low x : ℕ) (xs : List ℕ) → ((y : ℕ) → has (x ∷ xs) y ≡ true → low ≤ y) → low ≤ least x xs
least_low low x [] above = above x (has_first x [])
least_low low x (y ∷ xs) above = omega (arith, above x (has_first x (y ∷ xs)), least_low low y xs (λ z k. above z (has_behind x z (y ∷ xs) k)))

greatest_high : (most x : ℕ) (xs : List ℕ) → ((y : ℕ) → has (x ∷ xs) y ≡ true → y ≤ most) → greatest x xs ≤ most
greatest_high most x [] below = below x (has_first x [])
greatest_high most x (y ∷ xs) below = omega (
  arith,
  below x (has_first x (y ∷ xs)),
  greatest_high most y xs (λ z k. below z
      (has_behind x z (y ∷ xs) k)),
)

least_is : (x y : ℕ) (xs : List ℕ) → has (x ∷ xs) y ≡ true → least x xs ≤ y
least_is x y [] h = has_cases x y [] h (λ same. omega (arith, same)) (λ k. absurd (false≢true k))
least_is x y (z ∷ xs) h = has_cases x y (z ∷ xs) h (λ same. omega (arith, same)) (λ k. omega (arith, least_is z y xs k))

greatest_is : (x y : ℕ) (xs : List ℕ) → has (x ∷ xs) y ≡ true → y ≤ greatest x xs
greatest_is x y [] h = has_cases x y [] h (λ same. omega (arith, same)) (λ k. absurd (false≢true k))
greatest_is x y (z ∷ xs) h = has_cases x y (z ∷ xs) h (λ same. omega (arith, same)) (λ k. omega (arith, greatest_is z y xs k))

-- a close choice has no place before the earliest from which a window reaches any of its places
pub close_reach : (slop : Option ℕ) (choice : List ℕ) (x y : ℕ) → is_close slop (gaps choice) ≡ true → has choice x ≡ true
    → has choice y ≡ true → earliest y (length choice - 1) slop ≤ x
close_reach None choice x y close hx hy = omega arith
close_reach (Some slop) [] x y close hx hy = absurd (false≢true hx)
close_reach (Some slop) (z ∷ choice) x y close hx hy = omega (
  arith,
  leb-true (gaps
      (z ∷ choice)) slop close,
  least_is z x choice hx,
  greatest_is z y choice hy,
)

-- a choice from `low` on is close where a window from there reaches all its places
pub reach_close : (slop : Option ℕ) (low : ℕ) (choice : List ℕ) → ((x : ℕ) → has choice x ≡ true → low ≤ x) → ((x : ℕ)
    → has choice x ≡ true → earliest x (length choice - 1) slop ≤ low) → is_close slop (gaps choice) ≡ true
reach_close None low choice above reach = refl
reach_close (Some slop) low [] above reach = le-leb 0 slop (omega arith)
reach_close (Some slop) low (x ∷ choice) above reach =
    le-leb (gaps (x ∷ choice)) slop (omega (
      arith,
      least_low low x choice above,
      greatest_high
          (low + length choice + slop) x choice (λ y k. omega (arith, reach y k)),
    ))
