-- The places of codes that rise, and of codes that are equal or apart.
use Rattle.std.proofs.Common.{◌≡◌, inl, inr, ℕ, ◌<◌, ◌+◌, ◌*◌, ◌^◌, Bool, true, false, cond, eqb, List, [], ◌∷◌, length, get_or, refl, sym, ap, ◌∙◌, subst, filter, map, arith}
use Rattle.std.specs.List.{list_all, list_any}
use Rattle.std.proofs.lemmas.Bool.{eqb-true, false≢true, and_from, lt-ltb, ltb-true, false_from_ne_true}
use Rattle.std.proofs.lemmas.List.{get_or-map, length-map}
use Rattle.std.proofs.Math.Nat.{div-add-mod}
use Rattle.std.proofs.lemmas.List.Folds.{list_any_at, list_any_none}
use Rattle.std.proofs.lemmas.Grind.{get_or_default_zero}
use lib.Dec.{ltb}
use Rattle.phrase_match.specs.Phrase.{has, rises}
use Rattle.phrase_match.specs.Places.{AllRise, AreEqualOrApart, AllEqualOrApart}
use Rattle.phrase_match.proofs.PlacesLaws.{has_cases, has_first, has_behind}
use Rattle.id_iters.specs.Entries.{field_of, place_of, places_in}
use Rattle.id_iters.proofs.LeastLaws.{and_first, and_second}

-- a code is its field's first code and its place
code_is : (code field : ℕ) → field_of code ≡ field → 2 ^ 32 * field + place_of code ≡ code
code_is code field is = ap (λ f. 2 ^ 32 * f + place_of code) (sym is) ∙ div-add-mod code (2 ^ 32)

above_place : (code other field : ℕ) → field_of code ≡ field → field_of other ≡ field → code < other → place_of code < place_of other
above_place code other field is is' h = omega (arith, h, code_is code field is, code_is other field is')

above_places : (code field : ℕ) (codes : List ℕ) → field_of code ≡ field → list_all (ltb code) codes ≡ true
    → list_all (ltb (place_of code)) (places_in field codes) ≡ true
above_places code field [] is h = refl
above_places code field (other ∷ codes) is h =
    pick (eqb (field_of other) field) refl (above_places code field codes is (and_second (ltb code other) _ h))
  where
    pick : (b : Bool) → eqb (field_of other) field ≡ b → list_all (ltb (place_of code)) (places_in field codes) ≡ true
        → list_all (ltb (place_of code)) (map place_of (cond b (other ∷ filter (λ c. eqb (field_of c) field) codes) (filter (λ c. eqb (field_of c) field) codes))) ≡ true
    pick true e again = and_from (ltb (place_of code) (place_of other)) _ (lt-ltb (place_of code) (place_of other)
        (above_place code other field is (eqb-true (field_of other) field e) (ltb-true code other (and_first (ltb code other) _ h)))) again
    pick false e again = again

pub places_rise : (field : ℕ) (codes : List ℕ) → rises codes ≡ true → rises (places_in field codes) ≡ true
places_rise field [] h = refl
places_rise field (code ∷ codes) h =
    pick (eqb (field_of code) field) refl (places_rise field codes (and_second (list_all (ltb code) codes) _ h))
  where
    pick : (b : Bool) → eqb (field_of code) field ≡ b → rises (places_in field codes) ≡ true
        → rises (map place_of (cond b (code ∷ filter (λ c. eqb (field_of c) field) codes) (filter (λ c. eqb (field_of c) field) codes))) ≡ true
    pick true e again = and_from (list_all (ltb (place_of code)) (places_in field codes)) _
        (above_places code field codes (eqb-true (field_of code) field e) (and_first (list_all (ltb code) codes) _ h)) again
    pick false e again = again

-- a place that is among those of a field comes from its code
code_there : (field place : ℕ) (codes : List ℕ) → has (places_in field codes) place ≡ true → has codes (2 ^ 32 * field + place) ≡ true
code_there field place [] h = absurd (false≢true h)
code_there field place (code ∷ codes) h =
    pick (eqb (field_of code) field) refl (λ k. has_behind code (2 ^ 32 * field + place) codes (code_there field place codes k)) h
  where
    first : code ≡ 2 ^ 32 * field + place → has (code ∷ codes) (2 ^ 32 * field + place) ≡ true
    first same = subst (λ (n : ℕ). has (code ∷ codes) n ≡ true) same (has_first code codes)

    pick : (b : Bool) → eqb (field_of code) field ≡ b
        → (has (places_in field codes) place ≡ true → has (code ∷ codes) (2 ^ 32 * field + place) ≡ true)
        → has (map place_of (cond b (code ∷ filter (λ c. eqb (field_of c) field) codes) (filter (λ c. eqb (field_of c) field) codes))) place ≡ true
        → has (code ∷ codes) (2 ^ 32 * field + place) ≡ true
    pick true e again k = has_cases (place_of code) place (places_in field codes) k
        (λ same. first (sym (code_is code field (eqb-true (field_of code) field e)) ∙ ap (λ n. 2 ^ 32 * field + n) same)) again
    pick false e again k = again k

pub places_apart : (field : ℕ) (codes others : List ℕ) → AreEqualOrApart codes others → AreEqualOrApart (places_in field codes) (places_in field others)
places_apart field codes others (inl same) = inl (ap (places_in field) same)
places_apart field codes others (inr apart) = inr (λ place h. false_from_ne_true (has (places_in field others) place)
    (λ k. false≢true (sym (apart (2 ^ 32 * field + place) (code_there field place codes h)) ∙ code_there field place others k)))

pub all_places_rise : (field : ℕ) (words : List (List ℕ)) → AllRise words → AllRise (map (places_in field) words)
all_places_rise field words all k d h =
    let within : k < length words = omega (arith, h, length-map words (places_in field)) in
    ap rises (get_or-map (places_in field) words k [] d within) ∙ places_rise field (get_or words k []) (all k [] within)

pub all_places_apart : (field : ℕ) (words : List (List ℕ)) → AllEqualOrApart words → AllEqualOrApart (map (places_in field) words)
all_places_apart field words all i j d h in' =
    let within : j < length words = omega (arith, in', length-map words (places_in field)) in
    let one = get_or-map (places_in field) words i [] d (omega (arith, h, within)) in
    let other = get_or-map (places_in field) words j [] d within in
    subst (λ (xs : List ℕ). AreEqualOrApart (get_or (map (places_in field) words) i d) xs) (sym other)
    (subst (λ (xs : List ℕ). AreEqualOrApart xs (places_in field (get_or words j []))) (sym one) (places_apart field _ _ (all i j [] h within)))

-- what some code passes
pub none_passes : (p : ℕ → Bool) (codes : List ℕ) → ((k : ℕ) → k < length codes → p (get_or codes k 0) ≡ false) → list_any p codes ≡ false
none_passes p codes h = list_any_none p codes (λ k d l. ap p (get_or_default_zero codes k d l) ∙ h k l)

pub one_passes : (p : ℕ → Bool) (codes : List ℕ) (k : ℕ) → k < length codes → p (get_or codes k 0) ≡ true → list_any p codes ≡ true
one_passes p codes k h e = list_any_at p codes k 0 h e
