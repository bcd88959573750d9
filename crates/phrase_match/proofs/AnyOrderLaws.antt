-- Of each word the first place that its equals before it leave over: every choice reaches as far.
use Rattle.std.proofs.Common.{◌≡◌, ◌⊎◌, inl, inr, ℕ, suc, ◌<◌, ◌≤◌, ◌+◌, ◌-◌, Bool, true, false, not, cond, ◌&&◌, eqb, List, [], ◌∷◌, ◌++◌, length, get_or, take, drop, Option, refl, sym, ap, ◌∙◌, subst, arith, length-append, take-append-drop}
use Rattle.std.specs.List.{AllByRecursion, All, AllPairs}
use Rattle.std.proofs.lemmas.Bool.{eqb-true, eq-eqb, false≢true, not-true, not_from_false, and_parts, and_from, cases_lt}
use Rattle.std.proofs.lemmas.List.{get_or_append_left, get_or_at, take_more}
use Rattle.std.proofs.lemmas.List.Elements.{recursion_from_All}
use Rattle.std.proofs.lemmas.List.Sums.{sum_by-cons, sum_by-append}
use Rattle.phrase_match.specs.Phrase.{has, rises, is_distinct, gaps, is_close, fits, within}
use Rattle.phrase_match.specs.Places.{AreEqualOrApart}
use Rattle.phrase_match.specs.Look.{from, all_from, earliest, begins_with, twins}
use Rattle.phrase_match.proofs.PlacesLaws.{has_cases, has_first, has_behind, has_none, has_neither, from_has, has_from, has_at, rises_at, rises_from}
use Rattle.phrase_match.proofs.CountLaws.{AllIn, NumberFound, number_found}
use Rattle.phrase_match.proofs.ChoiceLaws.{Chosen, chosen_length, chosen_above, choice_given, nowhere, later, close_reach, reach_close}
use Rattle.phrase_match.proofs.OrderLaws.{earliest_less}

-- ---- equals

-- a list that begins as another does is that other
same_list : (first : ℕ) (places others : List ℕ) → AreEqualOrApart others (first ∷ places) → begins_with first others ≡ true → others ≡ first ∷ places
same_list first places [] apart h = absurd (false≢true h)
same_list first places (x ∷ others) (inl same) h = same
same_list first places (x ∷ others) (inr apart) h =
    absurd (false≢true (sym (apart x (has_first x others)) ∙ (ap (has (first ∷ places)) (eqb-true x first h) ∙ has_first first places)))

abbrev one_if : Bool → ℕ
one_if b = cond b 1 0

counts : (b c : Bool) → b ≡ c → one_if b ≡ one_if c
counts b c e = ap one_if e

twins_cons : (first : ℕ) (places others : List ℕ) (lists : List (List ℕ))
    → twins (first ∷ places) (others ∷ lists) ≡ cond (begins_with first others) 1 0 + twins (first ∷ places) lists
twins_cons first places others lists = sum_by-cons (λ ys. cond (begins_with first ys) 1 0) others lists

twins_push : (first : ℕ) (places others : List ℕ) (before : List (List ℕ))
    → twins (first ∷ places) (before ++ others ∷ []) ≡ twins (first ∷ places) before + cond (begins_with first others) 1 0
twins_push first places others before = omega (arith, sum_by-append (λ ys. cond (begins_with first ys) 1 0) before (others ∷ []))

twins_more : (xs others : List ℕ) (before : List (List ℕ)) → twins xs before ≤ twins xs (before ++ others ∷ [])
twins_more [] others before = omega arith
twins_more (first ∷ places) others before = omega (arith, twins_push first places others before)

twins_self : (xs : List ℕ) (before : List (List ℕ)) (x : ℕ) → has xs x ≡ true → twins xs before < twins xs (before ++ xs ∷ [])
twins_self [] before x h = absurd (false≢true h)
twins_self (first ∷ places) before x h =
    omega (arith, twins_push first places (first ∷ places) before, counts (eqb first first) true (eq-eqb first first refl))

-- ---- every choice reaches as far

-- none of these is among those
abbrev New : List ℕ → List ℕ → Type 0
New taken choice = AllByRecursion (λ x. has taken x ≡ false) choice

new_more : (x : ℕ) (taken choice : List ℕ) → has choice x ≡ false → New taken choice → New (x ∷ taken) choice
new_more x taken [] h n = tt
new_more x taken (y ∷ choice) h n = let parts = has_neither y x choice h in (
  has_none x y taken (λ same. parts.0
      (sym same)) n.0,
  new_more x taken choice parts.1 n.1,
)

-- A choice has a place for each equal before a word and one for the word itself: all distinct, and all of the word's
-- list. `taken` are those that were counted.
counted : (low most number first : ℕ) (places : List ℕ) (before behind : List (List ℕ)) (taken choice : List ℕ) → rises (first ∷ places) ≡ true
    → AllByRecursion (λ others. AreEqualOrApart others (first ∷ places)) before → is_distinct taken ≡ true
    → AllIn (from low (first ∷ places)) most taken → New taken choice → is_distinct choice ≡ true
    → Chosen low (before ++ (first ∷ places) ∷ behind) choice → ((x : ℕ) → has choice x ≡ true → x ≤ most)
    → number ≤ length taken + twins (first ∷ places) before → NumberFound (from low (first ∷ places)) most number
counted low most number first places [] behind taken [] up apart once all new distinct h below le = absurd h
counted low most number first places [] behind taken (x ∷ choice) up apart once all new distinct h below le =
    number_found (from low (first ∷ places)) (x ∷ taken) most number (rises_from low (first ∷ places) up) (and_from (not
    (has taken x)) (is_distinct taken) (not_from_false (has taken x) new.0) once)
    ((has_from low x (first ∷ places) h.1 h.0, below x (has_first x choice)), all) (omega (arith, le))
counted low most number first places (others ∷ before) behind taken [] up apart once all new distinct h below le = absurd h
counted low most number first places (others ∷ before) behind taken (x ∷ choice) up apart once all new distinct h below le =
    go (begins_with first others) refl
    (λ t a n l. counted low most number first places before behind t choice up apart.1 n.0 a n.1 parts.1 h.2 (λ y k. below y
    (has_behind x y choice k)) l)
  where
    parts : (not (has choice x) ≡ true) × (is_distinct choice ≡ true)
    parts = and_parts (not (has choice x)) (is_distinct choice) distinct

    go : (b : Bool) → begins_with first others ≡ b
        → ((t : List ℕ) → AllIn (from low (first ∷ places)) most t → (is_distinct t ≡ true) × New t choice
        → number ≤ length t + twins (first ∷ places) before → NumberFound (from low (first ∷ places)) most number)
        → NumberFound (from low (first ∷ places)) most number
    go true e again =
        let same = same_list first places others apart.0 e in
        let there : has (first ∷ places) x ≡ true = ap (λ ys. has ys x) (sym same) ∙ h.1 in
        again (x ∷ taken) ((has_from low x (first ∷ places) there h.0, below x (has_first x choice)), all) (
          and_from (not (has taken x)) (is_distinct taken) (not_from_false (has taken x) new.0) once,
          new_more x taken choice
              (not-true (has choice x) parts.0) new.1,
        )
        (omega (arith, le, twins_cons first places others before, counts (begins_with first others) true e))
    go false e again = again taken all (once, new.1) (omega (
      arith,
      le,
      twins_cons first places others before,
      counts
          (begins_with first others) false e,
    ))

all_new : (choice : List ℕ) → New [] choice
all_new [] = tt
all_new (x ∷ choice) = (refl, all_new choice)

-- the words before one are equal to it or have no place in common with it
apart_before : (xs : List ℕ) (before behind : List (List ℕ)) → AllPairs AreEqualOrApart (before ++ xs ∷ behind)
    → AllByRecursion (λ others. AreEqualOrApart others xs) before
apart_before xs before behind pairs = recursion_from_All (λ others. AreEqualOrApart others xs) before each
  where
    each : All (λ others. AreEqualOrApart others xs) before
    each k d lt =
        let pair = pairs k (length before) d lt (omega (arith, length-append before (xs ∷ behind))) in
        subst (λ (ys : List ℕ). AreEqualOrApart (get_or before k d) ys) (get_or_at before xs behind d (length before) refl)
        (subst (λ (ys : List ℕ). AreEqualOrApart ys (get_or (before ++ xs ∷ behind) (length before) d))
        (get_or_append_left before (xs ∷ behind) d k lt) pair)

chosen_some : {P : Type 0} (low : ℕ) (before behind : List (List ℕ)) (choice : List ℕ) → Chosen low (before ++ [] ∷ behind) choice → P
chosen_some low [] behind [] h = absurd h
chosen_some low [] behind (x ∷ choice) h = absurd (false≢true h.1)
chosen_some low (others ∷ before) behind [] h = absurd h
chosen_some low (others ∷ before) behind (x ∷ choice) h = chosen_some low before behind choice h.2

pub choice_reaches : (low most : ℕ) (xs : List ℕ) (before behind : List (List ℕ)) (choice : List ℕ) → rises xs ≡ true
    → AllPairs AreEqualOrApart (before ++ xs ∷ behind)
    → Chosen low (before ++ xs ∷ behind) choice → is_distinct choice ≡ true → ((x : ℕ) → has choice x ≡ true → x ≤ most)
    → NumberFound (from low xs) most (twins xs before)
choice_reaches low most [] before behind choice up pairs h distinct below = chosen_some low before behind choice h
choice_reaches low most (first ∷ places) before behind choice up pairs h distinct below =
    counted low most (twins (first ∷ places) before) first places before behind [] choice up (apart_before
    (first ∷ places) before behind pairs) refl tt (all_new choice) distinct h below (omega arith)

-- the greatest place of a choice
record Most (choice : List ℕ) : Type 0 where
  place : ℕ
  there : has choice place ≡ true
  below : (x : ℕ) → has choice x ≡ true → x ≤ place

most : (x : ℕ) (choice : List ℕ) → Most (x ∷ choice)
most x [] = record {
  place = x;
  there = has_first x [];
  below = λ y k. has_cases x y [] k (λ same. omega (arith, same))
      (λ none. absurd (false≢true none));
}
most x (z ∷ choice) = go (most z choice) (cases_lt x (most z choice).place)
  where
    go : (m : Most (z ∷ choice)) → (x < m.place) ⊎ (m.place ≤ x) → Most (x ∷ z ∷ choice)
    go m (inl lt) = record {
      place = m.place;
      there = has_behind x m.place (z ∷ choice) m.there;
      below = λ y k. has_cases x y
          (z ∷ choice) k (λ same. omega (arith, same, lt)) (m.below y);
    }
    go m (inr le) = record {
      place = x;
      there = has_first x (z ∷ choice);
      below = λ y k. has_cases x y (z ∷ choice) k
          (λ same. omega (arith, same)) (λ behind. omega (arith, le, m.below y behind));
    }

-- the place that the equals before a word leave over
abbrev pub left_over : ℕ → List (List ℕ) → List ℕ → ℕ
left_over low before xs = get_or (from low xs) (twins xs before) 0

some_most : (choice : List ℕ) (x : ℕ) → has choice x ≡ true → Most choice
some_most [] x h = absurd (false≢true h)
some_most (y ∷ choice) x h = most y choice

module _ (slop : Option ℕ) (low : ℕ) (lists before behind : List (List ℕ)) (xs : List ℕ) (up : rises xs ≡ true)
    (pairs : AllPairs AreEqualOrApart lists) (is : lists ≡ before ++ xs ∷ behind) where
  reaches : (most : ℕ) (choice : List ℕ) → Chosen low lists choice → fits slop false choice ≡ true → ((x : ℕ)
      → has choice x ≡ true → x ≤ most) → NumberFound (from low xs) most (twins xs before)
  reaches most choice h fit below =
      choice_reaches low most xs before behind choice up (subst (λ (ls : List (List ℕ)). AllPairs AreEqualOrApart ls) is pairs)
      (subst (λ (ls : List (List ℕ)). Chosen low ls choice) is h)
      (and_parts (is_distinct choice) (is_close slop (gaps choice) && true) fit).0 below

  -- where the equals of a word leave none over, no choice fits
  pub none_over : length (from low xs) ≤ twins xs before → within (all_from low lists) slop false ≡ false
  none_over le = nowhere slop false low lists none
    where
      none : (choice : List ℕ) → Chosen low lists choice → fits slop false choice ≡ true → ⊥
      none [] h fit = let found = reaches 0 [] h fit (λ x k. absurd (false≢true k)) in omega (arith, le, found.there)
      none (x ∷ choice) h fit = let m = most x choice in let found = reaches m.place (x ∷ choice) h fit m.below in omega (arith, le, found.there)

  -- where a window from `low` on does not reach the place left over, each choice begins at the earliest that does, or later
  pub later_over : low ≤ earliest (left_over low before xs) (length lists - 1) slop
      → within (all_from (earliest (left_over low before xs) (length lists - 1) slop) lists) slop false ≡ within (all_from low lists) slop false
  later_over le = later slop false low (earliest (left_over low before xs) (length lists - 1) slop) lists le above
    where
      above : (choice : List ℕ) → Chosen low lists choice → fits slop false choice ≡ true → (x : ℕ) → has choice x ≡ true
          → earliest (left_over low before xs) (length lists - 1) slop ≤ x
      above choice h fit x there =
          let m = some_most choice x there in
          let found = reaches m.place choice h fit m.below in
          let close = (and_parts (is_close slop (gaps choice)) true (and_parts (is_distinct choice) (is_close slop (gaps choice) && true) fit).1).0 in
          let reach = close_reach slop choice x m.place close there m.there in
          let less = earliest_less (left_over low before xs) m.place (length lists - 1) (length choice - 1) slop (omega
          (arith, found.low, chosen_length low lists choice h)) in
          omega (arith, less, reach)

-- ---- the places left over fit

-- each word has a place left over by its equals among those before it, and a window from `low` on reaches it
abbrev pub AllPlaced : Option ℕ → ℕ → ℕ → List (List ℕ) → List (List ℕ) → Type 0
AllPlaced slop low others before [] = Unit {0}
AllPlaced slop low others before (xs ∷ lists) =
    (twins xs before < length (from low xs)) × (earliest
    (left_over low before xs) others slop ≤ low) × AllPlaced slop low others (before ++ xs ∷ []) lists

-- a look from the last word back: what is before a word, and what is from it on
pub split_at : (at : ℕ) (xs : List ℕ) (lists : List (List ℕ)) → drop at lists ≡ xs ∷ drop (at + 1) lists
    → lists ≡ take at lists ++ xs ∷ drop (at + 1) lists
split_at at xs lists e = sym (take-append-drop at lists) ∙ ap (λ rest. take at lists ++ rest) e

pub placed_more : (slop : Option ℕ) (low others at left : ℕ) (xs : List ℕ) (lists : List (List ℕ)) → left ≡ at + 1
    → at < length lists → xs ≡ get_or lists at xs → drop at lists ≡ xs ∷ drop (at + 1) lists
    → twins xs (take at lists) < length (from low xs) → earliest (left_over low (take at lists) xs) others slop ≤ low
    → AllPlaced slop low others (take left lists) (drop left lists) → AllPlaced slop low others (take at lists) (drop at lists)
placed_more slop low others at left xs lists next lt is e there reach behind =
    subst (λ (ls : List (List ℕ)). AllPlaced slop low others (take at lists) ls) (sym e) (
      there,
      reach,
      subst (λ (ls : List (List ℕ)). AllPlaced slop low others ls (drop (at + 1) lists)) front (subst (λ
          (n : ℕ). AllPlaced slop low others (take n lists) (drop n lists)) next behind),
    )
  where
    front : take (at + 1) lists ≡ take at lists ++ xs ∷ []
    front = take_more lists at xs lt ∙ ap (λ ys. take at lists ++ ys ∷ []) (sym is)

left_overs : ℕ → List (List ℕ) → List (List ℕ) → List ℕ
left_overs low before [] = []
left_overs low before (xs ∷ lists) = left_over low before xs ∷ left_overs low (before ++ xs ∷ []) lists

overs_chosen : (slop : Option ℕ) (low others : ℕ) (before lists : List (List ℕ)) → AllPlaced slop low others before lists
    → Chosen low lists (left_overs low before lists)
unfolding left_overs
overs_chosen slop low others before [] h = tt
overs_chosen slop low others before (xs ∷ lists) h =
    let place = from_has low (left_over low before xs) xs (has_at (twins xs before) (from low xs) h.0) in
    (place.0, place.1, overs_chosen slop low others (before ++ xs ∷ []) lists h.2)

overs_reached : (slop : Option ℕ) (low others : ℕ) (before lists : List (List ℕ)) → AllPlaced slop low others before lists
    → (x : ℕ) → has (left_overs low before lists) x ≡ true → earliest x others slop ≤ low
unfolding left_overs
overs_reached slop low others before [] h x there = absurd (false≢true there)
overs_reached slop low others before (xs ∷ lists) h x there = has_cases (left_over low before xs) x (left_overs low (before ++ xs ∷ []) lists) there
    (λ same. omega (arith, h.1, earliest_less x (left_over low before xs) others others slop (omega (arith, same))))
    (λ behind. overs_reached slop low others (before ++ xs ∷ []) lists h.2 x behind)

-- an equal behind a word takes a later place, and another word has other places
overs_apart : (slop : Option ℕ) (low others number : ℕ) (xs : List ℕ) (before lists : List (List ℕ)) → rises xs ≡ true
    → number < length (from low xs) → number < twins xs before
    → AllByRecursion (AreEqualOrApart xs) lists → AllPlaced slop low others before lists
    → has (left_overs low before lists) (get_or (from low xs) number 0) ≡ false
unfolding left_overs
overs_apart slop low others number xs before [] up in' less apart h = refl
overs_apart slop low others number xs before (ys ∷ lists) up in' less apart h =
    has_none (left_over low before ys) (get_or (from low xs) number 0) (left_overs low (before ++ ys ∷ []) lists) (differs apart.0)
    (overs_apart slop low others number xs (before ++ ys ∷ []) lists up in' (omega (arith, less, twins_more xs ys before)) apart.1 h.2)
  where
    mine : has xs (get_or (from low xs) number 0) ≡ true
    mine = (from_has low (get_or (from low xs) number 0) xs (has_at number (from low xs) in')).1

    differs : AreEqualOrApart xs ys → left_over low before ys ≡ get_or (from low xs) number 0 → ⊥
    differs (inl equal) same =
        let further : get_or (from low xs) number 0 < get_or (from low xs) (twins xs before) 0 =
        rises_at number (twins xs before) (from low xs) (rises_from low xs up) less (subst (λ
        (zs : List ℕ). twins zs before < length (from low zs)) (sym equal) h.0) in
        let it : left_over low before xs ≡ left_over low before ys = ap (left_over low before) equal in
        omega (arith, further, same, it)
    differs (inr other) same =
        false≢true (sym (other (get_or (from low xs) number 0) mine) ∙ (ap (has ys) (sym same)
        ∙ (from_has low (left_over low before ys) ys (has_at (twins ys before) (from low ys) h.0)).1))

pairs_first : (xs : List ℕ) (lists : List (List ℕ)) → AllPairs AreEqualOrApart (xs ∷ lists) → AllByRecursion (AreEqualOrApart xs) lists
pairs_first xs lists pairs = recursion_from_All (AreEqualOrApart xs) lists (λ k d lt. pairs 0 (suc k) d (omega arith) (omega (arith, lt)))

pairs_behind : (xs : List ℕ) (lists : List (List ℕ)) → AllPairs AreEqualOrApart (xs ∷ lists) → AllPairs AreEqualOrApart lists
pairs_behind xs lists pairs i j d lt in' = pairs (suc i) (suc j) d (omega (arith, lt)) (omega (arith, in'))

overs_distinct : (slop : Option ℕ) (low others : ℕ) (before lists : List (List ℕ))
    → AllByRecursion (λ xs. rises xs ≡ true) lists → AllPairs AreEqualOrApart lists → AllPlaced slop low others before lists
    → is_distinct (left_overs low before lists) ≡ true
unfolding left_overs
overs_distinct slop low others before [] up pairs h = refl
overs_distinct slop low others before (xs ∷ lists) up pairs h =
    let place = from_has low (left_over low before xs) xs (has_at (twins xs before) (from low xs) h.0) in
    and_from (not (has (left_overs low (before ++ xs ∷ []) lists) (left_over low before xs))) (is_distinct (left_overs low (before ++ xs ∷ []) lists))
    (not_from_false (has (left_overs low (before ++ xs ∷ []) lists) (left_over low before xs))
    (overs_apart slop low others (twins xs before) xs (before ++ xs ∷ []) lists up.0 h.0 (twins_self xs before
    (left_over low before xs) place.1) (pairs_first xs lists pairs) h.2))
    (overs_distinct slop low others (before ++ xs ∷ []) lists up.1 (pairs_behind xs lists pairs) h.2)

-- with every word placed, the look has found a choice that fits
pub all_over : (slop : Option ℕ) (low : ℕ) (lists : List (List ℕ)) → AllByRecursion (λ xs. rises xs ≡ true) lists
    → AllPairs AreEqualOrApart lists → AllPlaced slop low (length lists - 1) [] lists
    → within (all_from low lists) slop false ≡ true
all_over slop low lists up pairs h =
    let choice = left_overs low [] lists in
    let chosen = overs_chosen slop low (length lists - 1) [] lists h in
    let close = reach_close slop low choice (chosen_above low lists choice chosen)
    (λ x k. subst (λ (n : ℕ). earliest x (n - 1) slop ≤ low) (sym (chosen_length low lists choice chosen))
    (overs_reached slop low (length lists - 1) [] lists h x k)) in
    choice_given (fits slop false) low lists choice chosen
    (and_from (is_distinct choice) (is_close slop (gaps choice) && true) (overs_distinct slop low
    (length lists - 1) [] lists up pairs h) (and_from (is_close slop (gaps choice)) true close refl))
