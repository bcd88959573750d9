-- The fields that are searched, found by their numbers.
use Rattle.std.proofs.Common.{◌≡◌, ◌⊎◌, inl, inr, ℕ, zero, suc, ◌<◌, ◌≤◌, ◌+◌, length, get_or, Bool, true, false, ◌&&◌, eqb, List, [], ◌∷◌, Option, Some, None, refl, sym, ap, ◌∙◌, arith}
use Rattle.std.specs.List.{list_any, slice_get, filter_map, cons_option}
use Rattle.std.proofs.lemmas.Bool.{eqb-true, eq-eqb, false≢true, and_parts, and_from, or_cases, or_left, or_right, or_from, cases_lt}
use Rattle.std.proofs.lemmas.Option.{none-some, same_Some, slice_get_within, slice_get_read}
use Rattle.ft_base.specs.declared.definition.Field.{Field}
use Rattle.ft_base.specs.declared.definition.IndexDef.{IndexDef}
use Rattle.ft_base.specs.declared.query.Fields.{Fields}
use Rattle.ft_base.specs.declared.query.Fields.TheVariants.{All, Named}
use Rattle.ft_base.proofs.AnyLaws.{any_filter_and}
use Rattle.ft_meaning.specs.Holds.{named, searched}
use Rattle.ft_meaning.specs.Meaning.{has_words}
use Rattle.query_match.specs.Searched.{is_named}

-- an item at a place passes
any_at : {X : Type 0} (f : X → Bool) (xs : List X) (k : ℕ) (x : X) → slice_get xs k ≡ Some x → f x ≡ true → list_any f xs ≡ true
any_at f [] k x at h = absurd (none-some x at)
any_at f (y ∷ ys) zero x at h = or_left (f y) (list_any f ys) (ap f (same_Some y x at) ∙ h)
any_at f (y ∷ ys) (suc k) x at h = or_right (f y) (list_any f ys) (any_at f ys k x at h)

none_at : {X : Type 0} (f : X → Bool) (xs : List X) → ((k : ℕ) (x : X) → slice_get xs k ≡ Some x → f x ≡ false) → list_any f xs ≡ false
none_at f [] none = refl
none_at f (y ∷ ys) none = or_from (f y) (list_any f ys) (none 0 y refl) (none_at f ys (λ k x at. none (suc k) x at))

-- the same of the items that a list of numbers names
any-cons_option : {X : Type 0} (f : X → Bool) (o : Option X) (ys : List X) → list_any f ys ≡ true → list_any f (cons_option o ys) ≡ true
any-cons_option f None ys e = e
any-cons_option f (Some x) ys e = or_right (f x) (list_any f ys) e

none-cons_option : {X : Type 0} (f : X → Bool) (o : Option X) (ys : List X) → ((x : X) → o ≡ Some x → f x ≡ false) → list_any f ys ≡ false
    → list_any f (cons_option o ys) ≡ false
none-cons_option f None ys none e = e
none-cons_option f (Some x) ys none e = or_from (f x) (list_any f ys) (none x refl) e

named_at : {X : Type 0} (f : X → Bool) (xs : List X) (numbers : List ℕ) (k : ℕ) (x : X) → slice_get xs k ≡ Some x → f x ≡ true
    → list_any (λ named. eqb named k) numbers ≡ true → list_any f (filter_map (slice_get xs) numbers) ≡ true
named_at f xs [] k x at h among = absurd (false≢true among)
named_at {X = X} f xs (n ∷ numbers) k x at h among =
    go (or_cases (eqb n k) (list_any (λ named. eqb named k) numbers) among) (named_at f xs numbers k x at h)
  where
    go : (eqb n k ≡ true) ⊎ (list_any (λ named. eqb named k) numbers ≡ true)
        → (list_any (λ named. eqb named k) numbers ≡ true → list_any f (filter_map (slice_get xs) numbers) ≡ true)
        → list_any f (cons_option (slice_get xs n) (filter_map (slice_get xs) numbers)) ≡ true
    go (inl e) again =
        ap (λ (o : Option X). list_any f (cons_option o (filter_map (slice_get xs) numbers))) (ap (slice_get xs) (eqb-true n k e) ∙ at)
        ∙ or_left (f x) (list_any f (filter_map (slice_get xs) numbers)) h
    go (inr e) again = any-cons_option f (slice_get xs n) (filter_map (slice_get xs) numbers) (again e)

named_none : {X : Type 0} (f : X → Bool) (xs : List X) (numbers : List ℕ)
    → ((k : ℕ) (x : X) → slice_get xs k ≡ Some x → list_any (λ named. eqb named k) numbers ≡ true → f x ≡ false)
    → list_any f (filter_map (slice_get xs) numbers) ≡ false
named_none f xs [] none = refl
named_none f xs (n ∷ numbers) none =
    none-cons_option f (slice_get xs n) (filter_map (slice_get xs) numbers)
    (λ x at. none n x at (or_left (eqb n n) (list_any (λ named. eqb named n) numbers) (eq-eqb n n refl)))
    (named_none f xs numbers (λ k x at among. none k x at (or_right (eqb n k) (list_any (λ named. eqb named k) numbers) among)))

-- ---- the fields of an index

-- the field that a loop reads
pub field_at : (items fields : List Field) (number : ℕ) (field : Field) → items ≡ fields → number < length items
    → field ≡ get_or items number field → slice_get fields number ≡ Some field
field_at items fields number field same lt is =
    ap (λ (xs : List Field). slice_get xs number) (sym same) ∙ slice_get_read items (length items) number field refl lt is

-- the fields before a number that are searched do not pass
abbrev pub Missed : (Field → Bool) → IndexDef → Fields → ℕ → Type 0
Missed f def fields number =
    (k : ℕ) (field : Field) → k < number → slice_get def.fields k ≡ Some field → (is_named fields k && has_words field) ≡ true → f field ≡ false

pub missed_more : (f : Field → Bool) (def : IndexDef) (fields : Fields) (number : ℕ) (field : Field) → slice_get def.fields number ≡ Some field
    → Missed f def fields number → ((is_named fields number && has_words field) ≡ true → f field ≡ false) → Missed f def fields (number + 1)
missed_more f def fields number field at before here k other lt there named = go (cases_lt k number)
  where
    go : (k < number) ⊎ (number ≤ k) → f other ≡ false
    go (inl less) = before k other less there named
    go (inr more) =
        let same : k ≡ number = omega (arith, lt, more) in
        let item : field ≡ other = same_Some field other (sym at ∙ (ap (slice_get def.fields) (sym same) ∙ there)) in
        ap f (sym item)
        ∙ here (ap (λ n. is_named fields n && has_words field) (sym same) ∙ (ap (λ (x : Field). is_named fields k && has_words x) item ∙ named))

pub searched_has : (f : Field → Bool) (def : IndexDef) (fields : Fields) (k : ℕ) (field : Field) → slice_get def.fields k ≡ Some field
    → (is_named fields k && has_words field) ≡ true → f field ≡ true → list_any f (searched def fields) ≡ true
searched_has f def All k field at named h =
    any_filter_and f has_words def.fields ∙ any_at (λ x. has_words x && f x) def.fields k field at (and_from (has_words field) (f field) named h)
searched_has f def (Named numbers) k field at named h =
    let parts = and_parts (list_any (λ other. eqb other k) numbers) (has_words field) named in
    any_filter_and f has_words (filter_map (slice_get def.fields) numbers)
    ∙ named_at (λ x. has_words x && f x) def.fields numbers k field at (and_from (has_words field) (f field) parts.1 h) parts.0

both_false : (a b : Bool) → (a ≡ true → b ≡ false) → (a && b) ≡ false
both_false true b h = h refl
both_false false b h = refl

pub searched_none : (f : Field → Bool) (def : IndexDef) (fields : Fields) (count : ℕ) → length def.fields ≤ count → Missed f def fields count
    → list_any f (searched def fields) ≡ false
searched_none f def All count all missed =
    any_filter_and f has_words def.fields
    ∙ none_at (λ x. has_words x && f x) def.fields (λ k x at. both_false (has_words x) (f x) (λ words.
    missed k x (omega (arith, all, slice_get_within def.fields k x at)) at words))
searched_none f def (Named numbers) count all missed =
    any_filter_and f has_words (filter_map (slice_get def.fields) numbers)
    ∙ named_none (λ x. has_words x && f x) def.fields numbers (λ k x at among. both_false (has_words x) (f x) (λ words.
    missed k x (omega (arith, all, slice_get_within def.fields k x at)) at (and_from (list_any (λ other. eqb other k) numbers) (has_words x) among words)))
