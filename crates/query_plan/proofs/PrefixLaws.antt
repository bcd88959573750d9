-- Words that begin with a text: those of a document, and those that have lists.
use Rattle.std.proofs.Common.{◌≡◌, ℕ, Bool, true, ◌&&◌, ◌||◌, List, [], ◌∷◌, filter, refl, sym, ap, ◌∙◌, subst, inl, inr}
use Rattle.std.specs.Prelude.{is_some}
use Rattle.std.specs.Cmp.{both_ways}
use Rattle.std.specs.List.{flat_map, list_any}
use Rattle.std.specs.Map.{keys_of, lookup}
use Rattle.std.specs.Str.{bytes_eq}
use Rattle.std.proofs.lemmas.Bool.{cases_Bool, false≢true, and_parts, and_from, or_left, or_right}
use Rattle.std.proofs.lemmas.Cmp.{nat_list_eq_equiv}
use Rattle.std.proofs.lemmas.List.Folds.{list_any-append}
use Rattle.std.proofs.lemmas.Map.Made.{is_some-lookup}
use Rattle.std.proofs.lemmas.Slice.Eq.{bytes_eq-Decides}
use Rattle.ft_base.proofs.AnyLaws.{any_filter_and}
use Rattle.ft_meaning.specs.Holds.{begins}

pub any_more : {X : Type 0} (f g : X → Bool) (xs : List X) → ((x : X) → f x ≡ true → g x ≡ true) → list_any f xs ≡ true → list_any g xs ≡ true
any_more f g [] more some = absurd (false≢true some)
any_more f g (x ∷ xs) more some =
    elim (cases_Bool (f x)) [
      | inl y ↦ or_left (g x) (list_any g xs) (more x y)
      | inr n ↦
          let rest : list_any f xs ≡ true = rw n at some in
          or_right (g x) (list_any g xs) (any_more f g xs more rest)
    ]

-- a word of some that passes
pub some_word : {P : Type 0} (p : List ℕ → Bool) (words : List (List ℕ)) → list_any p words ≡ true
    → ((word : List ℕ) → list_any (bytes_eq word) words ≡ true → p word ≡ true → P) → P
some_word p [] some next = absurd (false≢true some)
some_word p (word ∷ words) some next =
    elim (cases_Bool (p word)) [
      | inl y ↦ next word (or_left (bytes_eq word word) (list_any (bytes_eq word) words) (nat_list_eq_equiv.refl word)) y
      | inr n ↦
          let rest : list_any p words ≡ true = rw n at some in
          some_word p words rest (λ other among e. next other (or_right (bytes_eq other word) (list_any (bytes_eq other) words) among) e)
    ]

-- Some word begins with a text among those found, all of which have lists, where one with a list does that is found.
pub begins_among : (text : List ℕ) (names found : List (List ℕ)) → ((word : List ℕ) → list_any (bytes_eq word) found ≡ true → list_any (bytes_eq word) names ≡ true)
    → list_any (λ word. list_any (bytes_eq word) found) (filter (begins text) names) ≡ list_any (begins text) found
begins_among text names found named =
    both_ways _ _
    (λ some. some_word (λ word. begins text word && list_any (bytes_eq word) found) names (sym (any_filter_and (λ word. list_any (bytes_eq word) found) (begins text) names) ∙ some)
    (λ word among both.
    let parts = and_parts (begins text word) (list_any (bytes_eq word) found) both in
    any_more (bytes_eq word) (begins text) found (λ other e. ap (begins text) (sym ((bytes_eq-Decides word other).0 e)) ∙ parts.0) parts.1))
    (λ some. some_word (begins text) found some (λ word among does.
    any_filter_and (λ word. list_any (bytes_eq word) found) (begins text) names
    ∙ any_more (bytes_eq word) (λ other. begins text other && list_any (bytes_eq other) found) names
    (λ other e. subst (λ (w : List ℕ). (begins text w && list_any (bytes_eq w) found) ≡ true) ((bytes_eq-Decides word other).0 e)
    (and_from (begins text word) (list_any (bytes_eq word) found) does among))
    (named word among)))

-- a word with a list is one of the words
pub listed : {X : Type 0} (lists : List (List ℕ × X)) (word : List ℕ) → is_some (lookup (bytes_eq word) lists) ≡ true → list_any (bytes_eq word) (keys_of lists) ≡ true
listed lists word there = sym (is_some-lookup (bytes_eq word) lists) ∙ there

-- parts that are asked one after the other
pub any_flat : {X Y : Type 0} (g : Y → Bool) (f : X → List Y) (xs : List X) → list_any g (flat_map f xs) ≡ list_any (λ x. list_any g (f x)) xs
any_flat g f [] = refl
any_flat g f (x ∷ xs) = list_any-append g (f x) (flat_map f xs) ∙ ap (λ b. list_any g (f x) || b) (any_flat g f xs)
