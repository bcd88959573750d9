-- Words that share lists: what is so of the lists is so of those of the words, and more words than places find nothing.
use Rattle.std.proofs.Common.{◌≡◌, ◌⊎◌, inl, inr, ℕ, zero, suc, ◌<◌, ◌≤◌, ◌+◌, Bool, true, false, not, ◌&&◌, cond, eqb, List, [], ◌∷◌, ◌++◌, take, length, get_or, Option, Some, None, slice_get, refl, sym, ap, ◌∙◌, subst, add-one, arith}
use Rattle.std.proofs.lemmas.Bool.{eqb-true, eqb-false, false≢true, not-true, and_parts, cases_lt, false_from_ne_true, or_left, or_right}
use Rattle.std.proofs.lemmas.List.{get_or_default, length-append}
use Rattle.std.proofs.lemmas.Option.{get_or_from_slice_get}
use Rattle.std.proofs.lemmas.List.Folds.{list_any-append}
use Rattle.phrase_match.specs.Phrase.{has, rises, is_distinct, is_close, gaps, fits, within}
use Rattle.phrase_match.specs.Places.{AllRise, AllEqualOrApart, AreEqualOrApart}
use Rattle.phrase_match.specs.Turns.{in_turn, place_count}
use Rattle.phrase_match.proofs.PlacesLaws.{has_cases, has_first, has_behind}
use Rattle.phrase_match.proofs.ChoiceLaws.{Chosen, chosen_length, nowhere, all_from_zero}

-- ---- lists that are read by their places

pub list_some : (lists : List (List ℕ)) (at : ℕ) (xs : List ℕ) → slice_get lists at ≡ Some xs → get_or lists at [] ≡ xs
list_some lists at xs h = get_or_from_slice_get lists at xs [] h

pub list_none : (lists : List (List ℕ)) (at : ℕ) → slice_get lists at ≡ None → get_or lists at [] ≡ []
list_none [] at h = refl
list_none (xs ∷ lists) zero h = absurd (cc (h))
list_none (xs ∷ lists) (suc at) h = list_none lists at h

past : (lists : List (List ℕ)) (at : ℕ) → length lists ≤ at → get_or lists at [] ≡ []
past [] at h = refl
past (xs ∷ lists) zero h = absurd (omega (arith, h))
past (xs ∷ lists) (suc at) h = past lists at (omega (arith, h))

turn_at : (lists : List (List ℕ)) (order : List ℕ) (i : ℕ) (d : List ℕ) → i < length (in_turn lists order)
    → get_or (in_turn lists order) i d ≡ get_or lists (get_or order i 0) []
turn_at lists [] i d h = absurd (omega (arith, h))
turn_at lists (at ∷ order) zero d h = refl
turn_at lists (at ∷ order) (suc i) d h = turn_at lists order i d (omega (arith, h))

pub turn_some : (lists : List (List ℕ)) (order : List ℕ) (i at : ℕ) → slice_get order i ≡ Some at → get_or (in_turn lists order) i [] ≡ get_or lists at []
turn_some lists [] i at h = absurd (cc (h))
turn_some lists (first ∷ order) zero at h = let same : first ≡ at = cc (h) in ap (λ k. get_or lists k []) same
turn_some lists (first ∷ order) (suc i) at h = turn_some lists order i at h

pub turn_none : (lists : List (List ℕ)) (order : List ℕ) (i : ℕ) → slice_get order i ≡ None → get_or (in_turn lists order) i [] ≡ []
turn_none lists [] i h = refl
turn_none lists (first ∷ order) zero h = absurd (cc (h))
turn_none lists (first ∷ order) (suc i) h = turn_none lists order i h

pub turns_length : (lists : List (List ℕ)) (order : List ℕ) → length (in_turn lists order) ≡ length order
turns_length lists [] = refl
turns_length lists (at ∷ order) = ap suc (turns_length lists order)

one_rises : (lists : List (List ℕ)) → AllRise lists → (at : ℕ) → rises (get_or lists at []) ≡ true
one_rises lists up at = go (cases_lt at (length lists))
  where
    go : (at < length lists) ⊎ (length lists ≤ at) → rises (get_or lists at []) ≡ true
    go (inl lt) = up at [] lt
    go (inr le) = ap rises (past lists at le)

pub turns_rise : (lists : List (List ℕ)) (order : List ℕ) → AllRise lists → AllRise (in_turn lists order)
turns_rise lists order up k d h = ap rises (turn_at lists order k d h) ∙ one_rises lists up (get_or order k 0)

apart_back : (xs ys : List ℕ) → AreEqualOrApart xs ys → AreEqualOrApart ys xs
apart_back xs ys (inl same) = inl (sym same)
apart_back xs ys (inr apart) = inr (λ place there. false_from_ne_true (has xs place) (λ h. false≢true (sym (apart place h) ∙ there)))

two_apart : (lists : List (List ℕ)) → AllEqualOrApart lists → (a b : ℕ) → AreEqualOrApart (get_or lists a []) (get_or lists b [])
two_apart lists apart a b = go (cases_lt a (length lists)) (cases_lt b (length lists)) (cases_lt a b) (cases_lt b a)
  where
    go : (a < length lists) ⊎ (length lists ≤ a) → (b < length lists) ⊎ (length lists ≤ b) → (a < b) ⊎ (b ≤ a) → (b < a) ⊎ (a ≤ b)
        → AreEqualOrApart (get_or lists a []) (get_or lists b [])
    go (inr none) there up down =
        inr (λ place h. absurd (false≢true (ap (λ (xs : List ℕ). has xs place) (sym (past lists a none)) ∙ h)))
    go (inl here) (inr none) up down = inr (λ place h. ap (λ (xs : List ℕ). has xs place) (past lists b none))
    go (inl here) (inl there) (inl less) down = apart a b [] less there
    go (inl here) (inl there) (inr le) (inl less) = apart_back (get_or lists b []) (get_or lists a []) (apart b a [] less here)
    go (inl here) (inl there) (inr le) (inr more) = inl (ap (λ k. get_or lists k []) (omega (arith, le, more)))

pub turns_apart : (lists : List (List ℕ)) (order : List ℕ) → AllEqualOrApart lists → AllEqualOrApart (in_turn lists order)
turns_apart lists order apart i j d less h =
    subst (λ (xs : List ℕ). AreEqualOrApart xs (get_or (in_turn lists order) j d)) (sym (turn_at lists order i d (omega (arith, less, h))))
    (subst (λ (ys : List ℕ). AreEqualOrApart (get_or lists (get_or order i 0) []) ys) (sym (turn_at lists order j d h))
    (two_apart lists apart (get_or order i 0) (get_or order j 0)))

-- ---- distinct places of a list are no more than it has

but_for : ℕ → List ℕ → List ℕ
but_for z [] = []
but_for z (y ∷ ys) = cond (eqb y z) ys (y ∷ but_for z ys)

but_for_length : (z : ℕ) (ys : List ℕ) → has ys z ≡ true → suc (length (but_for z ys)) ≡ length ys
unfolding but_for
but_for_length z [] h = absurd (false≢true h)
but_for_length z (y ∷ ys) h = go (eqb y z) refl (but_for_length z ys)
  where
    go : (b : Bool) → eqb y z ≡ b → (has ys z ≡ true → suc (length (but_for z ys)) ≡ length ys)
        → suc (length (cond b ys (y ∷ but_for z ys))) ≡ suc (length ys)
    go true e again = refl
    go false e again = ap suc (again (has_cases y z ys h (λ same. absurd (eqb-false y z e same)) (λ behind. behind)))

but_for_has : (z x : ℕ) (ys : List ℕ) → (z ≡ x → ⊥) → has ys x ≡ true → has (but_for z ys) x ≡ true
unfolding but_for
but_for_has z x [] other h = h
but_for_has z x (y ∷ ys) other h = go (eqb y z) refl (but_for_has z x ys other)
  where
    go : (b : Bool) → eqb y z ≡ b → (has ys x ≡ true → has (but_for z ys) x ≡ true) → has (cond b ys (y ∷ but_for z ys)) x ≡ true
    go true e again = has_cases y x ys h (λ same. absurd (other (sym (eqb-true y z e) ∙ same))) (λ behind. behind)
    go false e again =
        has_cases y x ys h (λ same. ap (λ k. has (k ∷ but_for z ys) x) same ∙ has_first x (but_for z ys))
        (λ behind. has_behind y x (but_for z ys) (again behind))

distinct_among : (xs ys : List ℕ) → is_distinct xs ≡ true → ((x : ℕ) → has xs x ≡ true → has ys x ≡ true) → length xs ≤ length ys
distinct_among [] ys once among = omega arith
distinct_among (x ∷ xs) ys once among =
    let parts = and_parts (not (has xs x)) (is_distinct xs) once in
    let less = distinct_among xs (but_for x ys) parts.1
    (λ y h. but_for_has x y ys (λ same. false≢true (sym (not-true (has xs x) parts.0) ∙ (ap (has xs) same ∙ h))) (among y (has_behind x y xs h))) in
    omega (arith, less, but_for_length x ys (among x (has_first x xs)))

-- ---- the places of a choice are among those of the lists

joined : List (List ℕ) → List ℕ
joined [] = []
joined (xs ∷ lists) = xs ++ joined lists

joined_length : (lists : List (List ℕ)) → length (joined lists) ≡ place_count lists
unfolding joined
joined_length [] = refl
joined_length (xs ∷ lists) = length-append xs (joined lists) ∙ ap (λ n. length xs + n) (joined_length lists)

joined_has : (lists : List (List ℕ)) (at x : ℕ) → has (get_or lists at []) x ≡ true → has (joined lists) x ≡ true
unfolding joined
joined_has [] at x h = absurd (false≢true h)
joined_has (xs ∷ lists) zero x h = list_any-append (λ other. eqb other x) xs (joined lists) ∙ or_left (has xs x) (has (joined lists) x) h
joined_has (xs ∷ lists) (suc at) x h =
    list_any-append (λ other. eqb other x) xs (joined lists) ∙ or_right (has xs x) (has (joined lists) x) (joined_has lists at x h)

chosen_in : (lists : List (List ℕ)) (order choice : List ℕ) → Chosen 0 (in_turn lists order) choice → (x : ℕ) → has choice x ≡ true → has (joined lists) x ≡ true
chosen_in lists [] [] h x k = absurd (false≢true k)
chosen_in lists [] (y ∷ choice) h x k = absurd h
chosen_in lists (at ∷ order) [] h x k = absurd h
chosen_in lists (at ∷ order) (y ∷ choice) h x k =
    has_cases y x choice k (λ same. joined_has lists at x (ap (has (get_or lists at [])) (sym same) ∙ h.1))
    (λ behind. chosen_in lists order choice h.2 x behind)

pub too_few : (slop : Option ℕ) (in_order : Bool) (lists : List (List ℕ)) (order : List ℕ) → place_count lists < length order
    → within (in_turn lists order) slop in_order ≡ false
too_few slop in_order lists order fewer =
    ap (λ (ls : List (List ℕ)). within ls slop in_order) (sym (all_from_zero (in_turn lists order)))
    ∙ nowhere slop in_order 0 (in_turn lists order) none
  where
    none : (choice : List ℕ) → Chosen 0 (in_turn lists order) choice → fits slop in_order choice ≡ true → ⊥
    none choice chosen fit =
        let most = distinct_among choice (joined lists) (and_parts (is_distinct choice) _ fit).0 (chosen_in lists order choice chosen) in
        omega (arith, fewer, most, chosen_length 0 (in_turn lists order) choice chosen, turns_length lists order, joined_length lists)

-- ---- a loop over lists

counted_suc : (lists : List (List ℕ)) (k : ℕ) (d : List ℕ) → k < length lists → place_count (take (suc k) lists) ≡ place_count (take k lists) + length (get_or lists k d)
counted_suc [] k d h = absurd (omega (arith, h))
counted_suc (xs ∷ lists) zero d h = omega arith
counted_suc (xs ∷ lists) (suc k) d h = ap (λ n. length xs + n) (counted_suc lists k d (omega (arith, h))) ∙ omega arith

pub counted_more : (lists : List (List ℕ)) (k : ℕ) (d : List ℕ) → k < length lists → place_count (take (k + 1) lists) ≡ place_count (take k lists) + length (get_or lists k d)
counted_more lists k d h = ap (λ n. place_count (take n lists)) (add-one k) ∙ counted_suc lists k d h
