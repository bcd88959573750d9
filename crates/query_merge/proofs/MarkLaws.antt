-- Marked parts are the same set where each part that is not marked is equal to one that is.
use Rattle.std.proofs.Common.{◌≡◌, inl, inr, ℕ, zero, suc, ◌<◌, ◌+◌, Bool, true, false, ◌&&◌, ◌||◌, List, [], ◌∷◌, ◌++◌, add-one, take, length, get_or, slice_get, Some, refl, sym, ap, ◌∙◌, arith}
use Rattle.std.specs.List.{list_all, list_any}
use Rattle.std.specs.Option.{unwrap_or}
use Rattle.std.proofs.lemmas.Bool.{ltb-true}
use Rattle.std.proofs.lemmas.Option.{slice_get-get_or}
use lib.Dec.{ltb}
use Rattle.std.proofs.lemmas.List.{length-append, take_more}
use Rattle.std.proofs.lemmas.List.Folds.{list_all-append, list_any-append}
use Rattle.query_merge.specs.Merged.{AreParts, IsPart, marked}

-- ---- one of some parts

part_any : {X : Type 0} (test : X → Bool) (part : X) (parts : List X) → IsPart part parts → (list_any test parts || (test part || false)) ≡ list_any test parts
part_any test part [] h = absurd h
part_any test part (first ∷ parts) (inl same) = ap (λ p. list_any test (first ∷ parts) || (test p || false)) same ∙ go (test first) (list_any test parts)
  where
    go : (a b : Bool) → ((a || b) || (a || false)) ≡ (a || b)
    go true b = refl
    go false true = refl
    go false false = refl
part_any test part (first ∷ parts) (inr behind) = go (test first) (list_any test parts) (test part || false) (part_any test part parts behind)
  where
    go : (a b c : Bool) → (b || c) ≡ b → ((a || b) || c) ≡ (a || b)
    go true b c h = refl
    go false b c h = h

part_all : {X : Type 0} (test : X → Bool) (part : X) (parts : List X) → IsPart part parts → (list_all test parts && (test part && true)) ≡ list_all test parts
part_all test part [] h = absurd h
part_all test part (first ∷ parts) (inl same) = ap (λ p. list_all test (first ∷ parts) && (test p && true)) same ∙ go (test first) (list_all test parts)
  where
    go : (a b : Bool) → ((a && b) && (a && true)) ≡ (a && b)
    go false b = refl
    go true true = refl
    go true false = refl
part_all test part (first ∷ parts) (inr behind) = go (test first) (list_all test parts) (test part && true) (part_all test part parts behind)
  where
    go : (a b c : Bool) → (b && c) ≡ b → ((a && b) && c) ≡ (a && b)
    go false b c h = refl
    go true b c h = h

-- ---- marks

pub marked_at : {X : Type 0} (parts : List X) (marks : List Bool) (place : ℕ) (part : X) → slice_get parts place ≡ Some part → slice_get marks place ≡ Some true
    → IsPart part (marked parts marks)
marked_at [] marks place part h k = absurd (cc (h))
marked_at (first ∷ parts) [] place part h k = absurd (cc (k))
marked_at (first ∷ parts) (true ∷ marks) zero part h k = inl (let same : first ≡ part = cc (h) in sym same)
marked_at (first ∷ parts) (false ∷ marks) zero part h k = absurd (cc (k))
marked_at (first ∷ parts) (true ∷ marks) (suc place) part h k = inr (marked_at parts marks place part h k)
marked_at (first ∷ parts) (false ∷ marks) (suc place) part h k = marked_at parts marks place part h k

marked_yes : {X : Type 0} (parts : List X) (marks : List Bool) (d : X) → length marks < length parts → marked parts (marks ++ true ∷ []) ≡ marked parts marks ++ get_or parts (length marks) d ∷ []
marked_yes [] marks d h = absurd (omega (arith, h))
marked_yes (part ∷ []) [] d h = refl
marked_yes (part ∷ next ∷ parts) [] d h = refl
marked_yes (part ∷ parts) (true ∷ marks) d h = ap (λ (xs : List _). part ∷ xs) (marked_yes parts marks d (omega (arith, h)))
marked_yes (part ∷ parts) (false ∷ marks) d h = marked_yes parts marks d (omega (arith, h))

marked_no : {X : Type 0} (parts : List X) (marks : List Bool) → marked parts (marks ++ false ∷ []) ≡ marked parts marks
marked_no [] marks = refl
marked_no (part ∷ []) [] = refl
marked_no (part ∷ next ∷ parts) [] = refl
marked_no (part ∷ parts) (true ∷ marks) = ap (λ (xs : List _). part ∷ xs) (marked_no parts marks)
marked_no (part ∷ parts) (false ∷ marks) = marked_no parts marks

pub none_marked : {X : Type 0} (parts : List X) → AreParts [] (marked parts [])
none_marked [] = record { some = λ test. refl; every = λ test. refl }
none_marked (part ∷ parts) = record { some = λ test. refl; every = λ test. refl }

-- ---- one place further

pub set_at : (marks : List Bool) (place : ℕ) → unwrap_or (slice_get marks place) false ≡ true → slice_get marks place ≡ Some true
set_at [] place is = absurd (cc (is))
set_at (mark ∷ marks) zero is = ap (λ m. Some m) is
set_at (mark ∷ marks) (suc place) is = set_at marks place is

taken_yes : {X : Type 0} (parts : List X) (marks : List Bool) (k : ℕ) (d : X) → k < length parts → slice_get marks k ≡ Some true
    → marked (take (suc k) parts) marks ≡ marked (take k parts) marks ++ get_or parts k d ∷ []
taken_yes [] marks k d lt is = absurd (omega (arith, lt))
taken_yes (part ∷ parts) [] k d lt is = absurd (cc (is))
taken_yes (part ∷ []) (true ∷ marks) zero d lt is = refl
taken_yes (part ∷ next ∷ parts) (true ∷ marks) zero d lt is = refl
taken_yes (part ∷ parts) (false ∷ marks) zero d lt is = absurd (cc (is))
taken_yes (part ∷ parts) (true ∷ marks) (suc k) d lt is = ap (λ (xs : List _). part ∷ xs) (taken_yes parts marks k d (omega (arith, lt)) is)
taken_yes (part ∷ parts) (false ∷ marks) (suc k) d lt is = taken_yes parts marks k d (omega (arith, lt)) is

taken_no : {X : Type 0} (parts : List X) (marks : List Bool) (k : ℕ) → unwrap_or (slice_get marks k) false ≡ false
    → marked (take (suc k) parts) marks ≡ marked (take k parts) marks
taken_no [] marks zero is = refl
taken_no [] marks (suc k) is = refl
taken_no (part ∷ parts) [] zero is = refl
taken_no (part ∷ parts) [] (suc k) is = refl
taken_no (part ∷ parts) (true ∷ marks) zero is = absurd (cc (is))
taken_no (part ∷ []) (false ∷ marks) zero is = refl
taken_no (part ∷ next ∷ parts) (false ∷ marks) zero is = refl
taken_no (part ∷ parts) (true ∷ marks) (suc k) is = ap (λ (xs : List _). part ∷ xs) (taken_no parts marks k is)
taken_no (part ∷ parts) (false ∷ marks) (suc k) is = taken_no parts marks k is

-- the marked ones of the parts before a place, and of those before the next one
pub marked_more : {X : Type 0} (parts : List X) (marks : List Bool) (k : ℕ) (part : X) → k < length parts → part ≡ get_or parts k part
    → unwrap_or (slice_get marks k) false ≡ true → marked (take (k + 1) parts) marks ≡ marked (take k parts) marks ++ part ∷ []
marked_more parts marks k part lt at is =
    ap (λ (n : ℕ). marked (take n parts) marks) (add-one k)
    ∙ taken_yes parts marks k part lt (set_at marks k is)
    ∙ ap (λ (p : _). marked (take k parts) marks ++ p ∷ []) (sym at)

pub marked_same : {X : Type 0} (parts : List X) (marks : List Bool) (k : ℕ) → unwrap_or (slice_get marks k) false ≡ false
    → marked (take (k + 1) parts) marks ≡ marked (take k parts) marks
marked_same parts marks k is = ap (λ (n : ℕ). marked (take n parts) marks) (add-one k) ∙ taken_no parts marks k is

-- ---- marks of the parts before a place

-- one more that is marked
pub one_marked : {X : Type 0} (parts : List X) (marks more : List Bool) (k : ℕ) (d : X) → k < length parts → length marks ≡ k → more ≡ marks ++ true ∷ []
    → AreParts (take k parts) (marked parts marks) → AreParts (take (k + 1) parts) (marked parts more)
one_marked {X} parts marks more k d lt is is_more are = record {
  some = λ test.
      ap (list_any test) now
      ∙ list_any-append test (marked parts marks) (get_or parts k d ∷ [])
      ∙ ap (λ b. b || (test (get_or parts k d) || false)) (are.some test)
      ∙ sym (ap (list_any test) (take_more parts k d lt) ∙ list_any-append test (take k parts) (get_or parts k d ∷ []));
  every = λ test.
      ap (list_all test) now
      ∙ list_all-append test (marked parts marks) (get_or parts k d ∷ [])
      ∙ ap (λ b. b && (test (get_or parts k d) && true)) (are.every test)
      ∙ sym (ap (list_all test) (take_more parts k d lt) ∙ list_all-append test (take k parts) (get_or parts k d ∷ []));
}
  where
    now : marked parts more ≡ marked parts marks ++ get_or parts k d ∷ []
    now = ap (marked parts) is_more ∙ marked_yes parts marks d (omega (arith, lt, is)) ∙ ap (λ n. marked parts marks ++ get_or parts n d ∷ []) is

-- one more that is not, as it is equal to one that is
pub one_passed : {X : Type 0} (parts : List X) (marks more : List Bool) (k : ℕ) (part : X) → k < length parts → get_or parts k part ≡ part → more ≡ marks ++ false ∷ []
    → IsPart part (marked parts marks) → AreParts (take k parts) (marked parts marks) → AreParts (take (k + 1) parts) (marked parts more)
one_passed {X} parts marks more k part lt is is_more among are = record {
  some = λ test.
      ap (list_any test) now
      ∙ sym (part_any test part (marked parts marks) among)
      ∙ ap (λ b. b || (test part || false)) (are.some test)
      ∙ sym (ap (list_any test) last ∙ list_any-append test (take k parts) (part ∷ []));
  every = λ test.
      ap (list_all test) now
      ∙ sym (part_all test part (marked parts marks) among)
      ∙ ap (λ b. b && (test part && true)) (are.every test)
      ∙ sym (ap (list_all test) last ∙ list_all-append test (take k parts) (part ∷ []));
}
  where
    now : marked parts more ≡ marked parts marks
    now = ap (marked parts) is_more ∙ marked_no parts marks

    last : take (k + 1) parts ≡ take k parts ++ part ∷ []
    last = take_more parts k part lt ∙ ap (λ (x : X). take k parts ++ x ∷ []) is

pub count_more : (marks more : List Bool) (mark : Bool) (k : ℕ) → length marks ≡ k → more ≡ marks ++ mark ∷ [] → length more ≡ k + 1
count_more marks more mark k is is_more = ap length is_more ∙ length-append marks (mark ∷ []) ∙ omega (arith, is)

-- what is read at a place
pub got : {X : Type 0} (xs : List X) (i : ℕ) (x : X) → true ≡ ltb i (length xs) → x ≡ get_or xs i x → slice_get xs i ≡ Some x
got xs i x within is = slice_get-get_or xs i x (ltb-true i (length xs) (sym within)) ∙ ap (λ (y : _). Some y) (sym is)
