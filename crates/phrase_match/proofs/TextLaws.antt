-- The places of the words of one text meet the conditions of `within`.
use Rattle.std.proofs.Common.{◌≡◌, ◌⊎◌, inl, inr, ℕ, zero, suc, ◌<◌, ◌+◌, Bool, true, false, cond, eqb, List, [], ◌∷◌, ◌++◌, length, get_or, refl, sym, ap, ◌∙◌, subst, filter, map, arith}
use Rattle.std.specs.List.{list_all, range_with_len}
use Rattle.std.proofs.lemmas.Bool.{eqb-true, eq-eqb, ne_eqb, false≢true, and_from, lt-ltb, cases_eq, false_from_ne_true}
use Rattle.std.proofs.lemmas.List.{get_or-map, length-map, map-id, append-nil}
use Rattle.std.proofs.lemmas.List.FromFn.{filter_of_map_range_with_len_more}
use lib.Dec.{ltb}
use Rattle.phrase_match.specs.Phrase.{has, rises}
use Rattle.phrase_match.specs.Places.{AllRise, AreEqualOrApart, AllEqualOrApart}
use Rattle.phrase_match.proofs.PlacesLaws.{has_cases, rises_filter}

-- the places of a word in a text, numbered from 0
abbrev pub places : List ℕ → ℕ → List ℕ
places text word = filter (λ place. eqb (get_or text place 0) word) (range_with_len 0 (length text))

range_above : (low first n : ℕ) → low < first → list_all (ltb low) (range_with_len first n) ≡ true
range_above low first zero lt = refl
range_above low first (suc n) lt = and_from (ltb low first) (list_all (ltb low) (range_with_len (first + 1) n))
    (lt-ltb low first lt) (range_above low (first + 1) n (omega (arith, lt)))

range_rises : (first n : ℕ) → rises (range_with_len first n) ≡ true
range_rises first zero = refl
range_rises first (suc n) = and_from (list_all (ltb first) (range_with_len (first + 1) n)) (rises (range_with_len
    (first + 1) n)) (range_above first (first + 1) n (omega arith)) (range_rises (first + 1) n)

filter_passes : (p : ℕ → Bool) (x : ℕ) (xs : List ℕ) → has (filter p xs) x ≡ true → p x ≡ true
filter_passes p x [] h = absurd (false≢true h)
filter_passes p x (y ∷ xs) h = go (p y) refl (filter_passes p x xs) h
  where
    go : (b : Bool) → p y ≡ b → (has (filter p xs) x ≡ true → p x ≡ true) → has (cond b (y ∷ filter p xs) (filter p xs)) x ≡ true → p x ≡ true
    go true e again k = has_cases y x (filter p xs) k (λ same. ap p (sym same) ∙ e) again
    go false e again k = again k

places_apart : (text : List ℕ) (word other : ℕ) → AreEqualOrApart (places text word) (places text other)
places_apart text word other = go (cases_eq word other)
  where
    at : (w x : ℕ) → has (places text w) x ≡ true → get_or text x 0 ≡ w
    at w x h = eqb-true (get_or text x 0) w (filter_passes (λ place. eqb (get_or text place 0) w) x (range_with_len 0 (length text)) h)

    go : (word ≡ other) ⊎ (word ≡ other → ⊥) → AreEqualOrApart (places text word) (places text other)
    go (inl same) = inl (ap (places text) same)
    go (inr differ) = inr (λ x h. false_from_ne_true (has (places text other) x) (λ k. differ (sym (at word x h) ∙ at other x k)))

pub all_places_rise : (text words : List ℕ) → AllRise (map (places text) words)
all_places_rise text words k d lt =
    ap rises (get_or-map (places text) words k 0 d (omega (arith, lt, length-map words (places text))))
    ∙ rises_filter (λ place. eqb (get_or text place 0) (get_or words k 0)) (range_with_len 0 (length text)) (range_rises 0
    (length text))

pub all_places_apart : (text words : List ℕ) → AllEqualOrApart (map (places text) words)
all_places_apart text words i j d lt in' =
    let one = get_or-map (places text) words i 0 d (omega (arith, lt, in', length-map words (places text))) in
    let other = get_or-map (places text) words j 0 d (omega (arith, in', length-map words (places text))) in
    subst (λ (xs : List ℕ). AreEqualOrApart (get_or (map (places text) words) i d) xs) (sym other)
    (subst (λ (xs : List ℕ). AreEqualOrApart xs (places text (get_or words j 0))) (sym one) (places_apart text (get_or words i 0) (get_or words j 0)))

-- one word further
pub places_more : (p : ℕ → Bool) (n : ℕ) → filter p (range_with_len 0 (n + 1)) ≡ filter p (range_with_len 0 n) ++ cond (p n) (n ∷ []) []
places_more p n = simp map-id at (filter_of_map_range_with_len_more p (λ k. k) 0 n n (omega arith))

-- the places in the first n words of a text
abbrev pub places_before : List ℕ → ℕ → ℕ → List ℕ
places_before text word n = filter (λ place. eqb (get_or text place 0) word) (range_with_len 0 n)

pub places_before_yes : (text : List ℕ) (word n : ℕ) → get_or text n 0 ≡ word → places_before text word (n + 1) ≡ places_before text word n ++ n ∷ []
places_before_yes text word n same =
    places_more (λ place. eqb (get_or text place 0) word) n ∙ ap (λ b. places_before text word n ++ cond b (n ∷ []) []) (eq-eqb
    (get_or text n 0) word same)

pub places_before_no : (text : List ℕ) (word n : ℕ) → (get_or text n 0 ≡ word → ⊥) → places_before text word (n + 1) ≡ places_before text word n
places_before_no text word n differ =
    places_more (λ place. eqb (get_or text place 0) word) n ∙ (ap (λ b. places_before text word n ++ cond b (n ∷ []) []) (ne_eqb
    (get_or text n 0) word differ) ∙ append-nil (places_before text word n))
