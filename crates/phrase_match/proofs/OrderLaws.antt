-- Of each word the first place behind that of the word before: no choice that rises has its words earlier.
use Rattle.std.proofs.Common.{◌≡◌, ℕ, zero, suc, ◌<◌, ◌≤◌, ◌+◌, ◌-◌, true, false, not, ◌&&◌, List, [], ◌∷◌, length, get_or, drop, Option, Some, None, refl, sym, ap, ◌∙◌, subst, arith, add-one, length-drop}
use Rattle.std.specs.List.{list_all}
use Rattle.std.proofs.lemmas.Bool.{false≢true, lt-ltb, not_from_false, and_parts, and_from}
use lib.Dec.{ltb}
use Rattle.phrase_match.specs.Phrase.{has, rises, is_distinct, gaps, is_close, fits, within}
use Rattle.phrase_match.specs.Look.{from, all_from, earliest}
use Rattle.phrase_match.proofs.PlacesLaws.{has_cases, has_first, has_behind, has_none, from_has, has_from, above_first, has_at, rises_from}
use Rattle.phrase_match.proofs.ChoiceLaws.{Chosen, chosen_length, chosen_above, choice_given, nowhere, later, close_reach, reach_close}

-- one place of each list, each above the one before, the first from `next` on
abbrev pub Rising : ℕ → List (List ℕ) → List ℕ → Type 0
Rising next [] [] = Unit {0}
Rising next [] (x ∷ choice) = ⊥
Rising next (xs ∷ lists) [] = ⊥
Rising next (xs ∷ lists) (x ∷ choice) = (next ≤ x) × (has xs x ≡ true) × Rising (x + 1) lists choice

pub rising_before : (before next : ℕ) (lists : List (List ℕ)) (choice : List ℕ) → before ≤ next → Rising next lists choice
    → Rising before lists choice
rising_before before next [] [] le h = tt
rising_before before next [] (x ∷ choice) le h = absurd h
rising_before before next (xs ∷ lists) [] le h = absurd h
rising_before before next (xs ∷ lists) (x ∷ choice) le h = (omega (arith, le, h.0), h.1, h.2)

-- a choice that rises is one, and the other way round
rising_from : (low next : ℕ) (lists : List (List ℕ)) (choice : List ℕ) → Chosen low lists choice → rises choice ≡ true
    → ((x : ℕ) → has choice x ≡ true → next ≤ x) → Rising next lists choice
rising_from low next [] [] h up above = tt
rising_from low next [] (x ∷ choice) h up above = absurd h
rising_from low next (xs ∷ lists) [] h up above = absurd h
rising_from low next (xs ∷ lists) (x ∷ choice) h up above =
    let parts = and_parts (list_all (ltb x) choice) (rises choice) up in
    (above x (has_first x choice), h.1, rising_from low (x + 1) lists choice h.2 parts.1 (λ y k. omega (arith, above_first x y choice parts.0 k)))

rising_above : (next : ℕ) (lists : List (List ℕ)) (choice : List ℕ) → Rising next lists choice → (x : ℕ) → has choice x ≡ true → next ≤ x
rising_above next [] [] h x k = absurd (false≢true k)
rising_above next [] (y ∷ choice) h x k = absurd h
rising_above next (xs ∷ lists) [] h x k = absurd h
rising_above next (xs ∷ lists) (y ∷ choice) h x k = has_cases y x choice k (λ same. omega (arith, same, h.0)) (λ behind. omega
    (arith, h.0, rising_above (y + 1) lists choice h.2 x behind))

rising_chosen : (low next : ℕ) (lists : List (List ℕ)) (choice : List ℕ) → low ≤ next → Rising next lists choice → Chosen low lists choice
rising_chosen low next [] [] le h = tt
rising_chosen low next [] (x ∷ choice) le h = absurd h
rising_chosen low next (xs ∷ lists) [] le h = absurd h
rising_chosen low next (xs ∷ lists) (x ∷ choice) le h = (
  omega (arith, le, h.0),
  h.1,
  rising_chosen low (x + 1) lists choice
      (omega (arith, le, h.0)) h.2,
)

all_above : (x : ℕ) (xs : List ℕ) → ((y : ℕ) → has xs y ≡ true → x < y) → list_all (ltb x) xs ≡ true
all_above x [] above = refl
all_above x (y ∷ xs) above = and_from (ltb x y) (list_all (ltb x) xs) (lt-ltb x y (above y (has_first y xs))) (all_above x xs
    (λ z k. above z (has_behind y z xs k)))

rising_rises : (next : ℕ) (lists : List (List ℕ)) (choice : List ℕ) → Rising next lists choice → rises choice ≡ true
rising_rises next [] [] h = refl
rising_rises next [] (x ∷ choice) h = absurd h
rising_rises next (xs ∷ lists) [] h = absurd h
rising_rises next (xs ∷ lists) (x ∷ choice) h =
    and_from (list_all (ltb x) choice) (rises choice) (all_above x choice (λ y k. omega (
      arith,
      rising_above
          (x + 1) lists choice h.2 y k,
    ))) (rising_rises (x + 1) lists choice h.2)

not_there : (x : ℕ) (xs : List ℕ) → ((y : ℕ) → has xs y ≡ true → x < y) → has xs x ≡ false
not_there x [] above = refl
not_there x (y ∷ xs) above = has_none y x xs (λ same. absurd (omega (arith, same, above y (has_first y xs)))) (not_there x xs
    (λ z k. above z (has_behind y z xs k)))

rising_distinct : (next : ℕ) (lists : List (List ℕ)) (choice : List ℕ) → Rising next lists choice → is_distinct choice ≡ true
rising_distinct next [] [] h = refl
rising_distinct next [] (x ∷ choice) h = absurd h
rising_distinct next (xs ∷ lists) [] h = absurd h
rising_distinct next (xs ∷ lists) (x ∷ choice) h =
    and_from (not (has choice x)) (is_distinct choice) (not_from_false (has choice x) (not_there x choice (λ y k. omega
    (arith, rising_above (x + 1) lists choice h.2 y k)))) (rising_distinct (x + 1) lists choice h.2)

-- the first place of a list from `next` on
abbrev pub first_from : ℕ → List ℕ → ℕ
first_from next xs = get_or (from next xs) 0 0

-- the first places, each behind the one before, are all there, and a window from `low` on reaches each
abbrev pub Reached : Option ℕ → ℕ → ℕ → ℕ → List (List ℕ) → Type 0
Reached slop low i next [] = Unit {0}
Reached slop low i next (xs ∷ lists) =
    (0 < length (from next xs)) × (earliest (first_from next xs) i slop ≤ low) × Reached slop low (i + 1) (first_from next xs + 1) lists

-- What a look knows with i words behind it: the others' places are all that is left to test, and a choice that rises
-- goes on behind the last place.
pub record Going (slop : Option ℕ) (low : ℕ) (lists : List (List ℕ)) (i next : ℕ) : Type 0 where
  pub after : low ≤ next
  pub left : Reached slop low i next (drop i lists) → Reached slop low 0 low lists
  pub goes_on : (choice : List ℕ) → Rising low lists choice → Rising next (drop i lists) (drop i choice)

pub going_start : (slop : Option ℕ) (low : ℕ) (lists : List (List ℕ)) → Going slop low lists 0 low
going_start slop low lists = record { after = omega arith; left = λ h. h; goes_on = λ choice h. h }

-- the place at the front of what is left of a choice
record Front (next : ℕ) (xs : List ℕ) (lists : List (List ℕ)) (choice : List ℕ) : Type 0 where
  place : ℕ
  others : List ℕ
  is : choice ≡ place ∷ others
  reached : next ≤ place
  there : has xs place ≡ true
  behind : Rising (place + 1) lists others

front : (next : ℕ) (xs : List ℕ) (lists : List (List ℕ)) (choice : List ℕ) → Rising next (xs ∷ lists) choice → Front next xs lists choice
front next xs lists [] h = absurd h
front next xs lists (x ∷ choice) h = record { place = x; others = choice; is = refl; reached = h.0; there = h.1; behind = h.2 }

-- no place from `next` on is before the first
first_least : (next x : ℕ) (xs : List ℕ) → rises xs ≡ true → has xs x ≡ true → next ≤ x → (0 < length (from next xs)) × (first_from next xs ≤ x)
first_least next x xs up there le = go (from next xs) (rises_from next xs up) (has_from next x xs there le)
  where
    go : (ys : List ℕ) → rises ys ≡ true → has ys x ≡ true → (0 < length ys) × (get_or ys 0 0 ≤ x)
    go [] r h = absurd (false≢true h)
    go (y ∷ ys) r h = (
      omega arith,
      has_cases y x ys h (λ same. omega (arith, same)) (λ k. omega (
        arith,
        above_first y x ys
            (and_parts (list_all (ltb y) ys) (rises ys) r).0 k,
      )),
    )

-- what is behind the front of what is left
behind_front : (i x : ℕ) (xs ys : List ℕ) → drop i xs ≡ x ∷ ys → drop (suc i) xs ≡ ys
behind_front zero x [] ys h = cc
behind_front (suc i) x [] ys h = cc
behind_front zero x (z ∷ xs) ys h = cc
behind_front (suc i) x (z ∷ xs) ys h = behind_front i x xs ys h

-- one word further
pub going_on : (slop : Option ℕ) (low : ℕ) (lists : List (List ℕ)) (i next : ℕ) (xs : List ℕ) → rises xs ≡ true
    → drop i lists ≡ xs ∷ drop (i + 1) lists → Going slop low lists i next
    → 0 < length (from next xs) → earliest (first_from next xs) i slop ≤ low → Going slop low lists (i + 1) (first_from next xs + 1)
going_on slop low lists i next xs up is k some reach = record {
  after = omega (arith, k.after, (from_has next (first_from next xs) xs (has_at 0 (from next xs) some)).0);
  left = λ others. k.left (subst (λ (ls : List (List ℕ)). Reached slop low i next ls) (sym is) (some, reach, others));
  goes_on = λ choice h.
      let f = front next xs (drop (i + 1) lists) (drop i choice) (subst (λ (ls : List (List ℕ)). Rising next ls
      (drop i choice)) is (k.goes_on choice h)) in
      let rest : drop (i + 1) choice ≡ f.others = ap (λ n. drop n choice) (add-one i) ∙ behind_front i f.place choice f.others f.is in
      subst (λ (ys : List ℕ). Rising (first_from next xs + 1) (drop (i + 1) lists) ys) (sym rest)
      (rising_before (first_from next xs + 1) (f.place + 1) (drop (i + 1) lists) f.others (omega (
        arith,
        (first_least next f.place xs up f.there f.reached).1,
      )) f.behind);
}

-- a choice that rises from `low` on
fits_rising : (slop : Option ℕ) (low : ℕ) (lists : List (List ℕ)) (choice : List ℕ) → Chosen low lists choice
    → fits slop true choice ≡ true → Rising low lists choice
fits_rising slop low lists choice h fit =
    let parts = and_parts (is_distinct choice) (is_close slop (gaps choice) && rises choice) fit in
    rising_from low low lists choice h (and_parts (is_close slop (gaps choice)) (rises choice) parts.1).1 (λ x k. chosen_low x k)
  where
    chosen_low : (x : ℕ) → has choice x ≡ true → low ≤ x
    chosen_low = chosen_above low lists choice h

-- where a word has no place left, no choice rises
pub going_nowhere : (slop : Option ℕ) (low : ℕ) (lists : List (List ℕ)) (i next : ℕ) (xs : List ℕ) → rises xs ≡ true
    → drop i lists ≡ xs ∷ drop (i + 1) lists → Going slop low lists i next
    → length (from next xs) ≡ 0 → within (all_from low lists) slop true ≡ false
going_nowhere slop low lists i next xs up is k none = nowhere slop true low lists (λ choice h fit.
    let f = front next xs (drop (i + 1) lists) (drop i choice) (subst (λ (ls : List (List ℕ)). Rising next ls
    (drop i choice)) is (k.goes_on choice (fits_rising slop low lists choice h fit))) in
    omega (arith, none, (first_least next f.place xs up f.there f.reached).0))

-- the last place of a choice that rises is as far behind its first as it has places between
record Last (x : ℕ) (choice : List ℕ) : Type 0 where
  place : ℕ
  there : has (x ∷ choice) place ≡ true
  far : x + length choice ≤ place

last : (x next : ℕ) (lists : List (List ℕ)) (choice : List ℕ) → x < next → Rising next lists choice → Last x choice
last x next [] [] lt h = record { place = x; there = has_first x []; far = omega arith }
last x next [] (y ∷ choice) lt h = absurd h
last x next (xs ∷ lists) [] lt h = absurd h
last x next (xs ∷ lists) (y ∷ choice) lt h =
    let behind = last y (y + 1) lists choice (omega arith) h.2 in
    record { place = behind.place; there = has_behind x behind.place (y ∷ choice) behind.there; far = omega (arith, behind.far, lt, h.0) }

has_drop : (i x : ℕ) (xs : List ℕ) → has (drop i xs) x ≡ true → has xs x ≡ true
has_drop zero x xs h = h
has_drop (suc i) x [] h = h
has_drop (suc i) x (y ∷ xs) h = has_behind y x xs (has_drop i x xs h)

pub earliest_less : (place other others more : ℕ) (slop : Option ℕ) → place + more ≤ other + others
    → earliest place others slop ≤ earliest other more slop
earliest_less place other others more None h = omega arith
earliest_less place other others more (Some slop) h = omega (arith, h)

-- where a window from `low` on does not reach a word's place, each choice begins at the earliest that does, or later
pub going_later : (slop : Option ℕ) (low : ℕ) (lists : List (List ℕ)) (i next : ℕ) (xs : List ℕ) → rises xs ≡ true
    → drop i lists ≡ xs ∷ drop (i + 1) lists → Going slop low lists i next
    → 0 < length (from next xs) → low ≤ earliest (first_from next xs) i slop
    → within (all_from (earliest (first_from next xs) i slop) lists) slop true ≡ within (all_from low lists) slop true
going_later slop low lists i next xs up is k some le = later slop true low (earliest (first_from next xs) i slop) lists le above
  where
    above : (choice : List ℕ) → Chosen low lists choice → fits slop true choice ≡ true → (x : ℕ) → has choice x ≡ true
        → earliest (first_from next xs) i slop ≤ x
    above choice h fit x there =
        let f = front next xs (drop (i + 1) lists) (drop i choice) (subst (λ (ls : List (List ℕ)). Rising next ls
        (drop i choice)) is (k.goes_on choice (fits_rising slop low lists choice h fit))) in
        let end = last f.place (f.place + 1) (drop (i + 1) lists) f.others (omega arith) f.behind in
        let count : length choice - i ≡ suc (length f.others) = sym (length-drop i choice) ∙ ap length f.is in
        let in_choice : has choice end.place ≡ true = has_drop i end.place choice (ap (λ ys. has ys end.place) f.is ∙ end.there) in
        let parts = and_parts (is_distinct choice) (is_close slop (gaps choice) && rises choice) fit in
        let close = (and_parts (is_close slop (gaps choice)) (rises choice) parts.1).0 in
        let reach = close_reach slop choice x end.place close there in_choice in
        let less = earliest_less (first_from next xs) end.place i (length choice - 1) slop (omega (
          arith,
          count,
          end.far,
          (first_least next f.place xs up f.there f.reached).1,
        )) in
        omega (arith, less, reach)

-- the first places, each behind the one before
firsts : ℕ → List (List ℕ) → List ℕ
firsts next [] = []
firsts next (xs ∷ lists) = first_from next xs ∷ firsts (first_from next xs + 1) lists

firsts_rising : (slop : Option ℕ) (low i next : ℕ) (lists : List (List ℕ)) → Reached slop low i next lists → Rising next lists (firsts next lists)
unfolding firsts
firsts_rising slop low i next [] h = tt
firsts_rising slop low i next (xs ∷ lists) h =
    let place = from_has next (first_from next xs) xs (has_at 0 (from next xs) h.0) in
    (place.0, place.1, firsts_rising slop low (i + 1) (first_from next xs + 1) lists h.2)

firsts_reached : (slop : Option ℕ) (low i next most : ℕ) (lists : List (List ℕ)) → i + length lists ≤ most + 1
    → Reached slop low i next lists → (x : ℕ) → has (firsts next lists) x ≡ true → earliest x most slop ≤ low
unfolding firsts
firsts_reached slop low i next most [] le h x there = absurd (false≢true there)
firsts_reached slop low i next most (xs ∷ lists) le h x there = has_cases (first_from next xs) x (firsts (first_from next xs + 1) lists) there
    (λ same. omega (arith, h.1, earliest_less x (first_from next xs) most i slop (omega (arith, same, le))))
    (λ behind. firsts_reached slop low (i + 1) (first_from next xs + 1) most lists (omega (arith, le)) h.2 x behind)

-- with every word behind it, the look has found a choice that fits
pub going_fits : (slop : Option ℕ) (low : ℕ) (lists : List (List ℕ)) → Reached slop low 0 low lists → within (all_from low lists) slop true ≡ true
going_fits slop low lists h =
    let choice = firsts low lists in
    let up = firsts_rising slop low 0 low lists h in
    let chosen = rising_chosen low low lists choice (omega arith) up in
    let close = reach_close slop low choice (chosen_above low lists choice chosen) (firsts_reached slop low 0 low
    (length choice - 1) lists (omega (arith, chosen_length low lists choice chosen)) h) in
    choice_given (fits slop true) low lists choice chosen
    (and_from (is_distinct choice) (is_close slop (gaps choice) && rises choice) (rising_distinct low lists choice up) (and_from
    (is_close slop (gaps choice)) (rises choice) close (rising_rises low lists choice up)))
