-- Entries that are parted by ranges: those that lie in none do not matter, and the ids of the others are those of the ranges.
use Rattle.std.proofs.Common.{◌≡◌, ℕ, ◌<◌, Bool, false, true, ◌&&◌, ℤ, List, [], ◌∷◌, refl, ap, sym, subst, inl, inr, ◌∙◌, Option, None, Some}
use Rattle.std.specs.Prelude.{int_le, int_lt, negsuc}
use Rattle.std.proofs.Math.Bool.{and_comm}
use Rattle.std.proofs.lemmas.Bool.{cases_Bool}
use Rattle.std.specs.List.{AllByRecursion, filter}
use Rattle.inverted_list.specs.Listing.{Listing, RisesAbove}
use Rattle.numeric_ranges.proofs.AddLaws.{filter_both}
use Rattle.numeric_ranges.proofs.ReachLaws.{le_of_lt}
use Rattle.numeric_ranges.proofs.ValueLaws.{le_from_not_lt, le_trans}
use Rattle.numeric_ranges.specs.Ranges.{AreParted, IsAbove, IsPartition, LowsRise, Rows, is_below, lies_in, low_of}
use Rattle.numeric_ranges.specs.Values.{Entries}
use Rattle.posting_block.specs.declared.hits.NumHit.{NumHit}
use Rattle.ft_index.proofs.AliveLaws.{all-below}

module _ {X : Type 0} where
  filter-implied : (p q : X → Bool) (xs : List X) → ((x : X) → p x ≡ true → q x ≡ true) → filter p (filter q xs) ≡ filter p xs
  filter-implied p q xs implied = filter_both p q p (λ x. elim (cases_Bool (p x)) [ inl y ↦ rw (y, implied x y) refl | inr n ↦ rw (n, and_comm (q x) false) refl ]) xs

  -- two tests pass over what either of them does, in any order
  pub filter-twice : (p q : X → Bool) (xs : List X) → filter p (filter q xs) ≡ filter q (filter p xs)
  filter-twice p q xs =
      filter_both p q (λ x. q x && p x) (λ x. refl) xs ∙ sym (filter_both q p (λ x. q x && p x) (λ x. and_comm (p x) (q x)) xs)

  pub filter-all : (q : X → Bool) (xs : List X) → AllByRecursion (λ x. q x ≡ true) xs → filter q xs ≡ xs
  filter-all q [] each = refl
  filter-all q (x ∷ xs) each = rw each.0 (ap (λ rest. x ∷ rest) (filter-all q xs each.1))

  all-of-filter : (P : X → Type 0) (q : X → Bool) (xs : List X) → AllByRecursion P (filter q xs) → AllByRecursion (λ x. q x ≡ true → P x) xs
  all-of-filter P q [] each = tt
  all-of-filter P q (x ∷ xs) each = elim (cases_Bool (q x)) [
    | inl y ↦ let both : P x × AllByRecursion P (filter q xs) = rw y at each in (λ is. both.0, all-of-filter P q xs both.1)
    | inr n ↦ let rest : AllByRecursion P (filter q xs) = rw n at each in (λ is. absurd (cc (is, n)), all-of-filter P q xs rest)
  ]

  filter-of-all : (P : X → Type 0) (q : X → Bool) (xs : List X) → AllByRecursion (λ x. q x ≡ true → P x) xs → AllByRecursion P (filter q xs)
  filter-of-all P q [] each = tt
  filter-of-all P q (x ∷ xs) each = elim (cases_Bool (q x)) [
    | inl y ↦ rw y (each.0 y, filter-of-all P q xs each.1)
    | inr n ↦ rw n (filter-of-all P q xs each.1)
  ]

  all-both : (P Q R : X → Type 0) (xs : List X) → ((x : X) → P x → Q x → R x) → AllByRecursion P xs → AllByRecursion Q xs → AllByRecursion R xs
  all-both P Q R [] both first second = tt
  all-both P Q R (x ∷ xs) both first second = (both x first.0 second.0, all-both P Q R xs both first.1 second.1)

-- whether an entry's value is at least a low
abbrev pub is_from : ℤ → ℕ × NumHit → Bool
is_from low e = int_le low e.1.value

pub lies-from : (low : ℤ) (next : Option ℤ) (v : ℤ) → lies_in low next v ≡ true → int_le low v ≡ true
lies-from low next v lies = elim (cases_Bool (int_le low v)) [ inl y ↦ y | inr n ↦ absurd (cc (rw n at lies)) ]

lies-here : (low : ℤ) (next : Option ℤ) (v : ℤ) → int_le low v ≡ true → is_below next v ≡ true → lies_in low next v ≡ true
lies-here low next v from below = rw (from, below) refl

-- the lows of later rows are no lower
pub lows-from : (low : ℤ) (row : ℤ × Listing NumHit) (rows : Rows) → int_le low row.0 ≡ true → LowsRise (row ∷ rows) → AllByRecursion (λ r. int_le low r.0 ≡ true) (row ∷ rows)
lows-from low row [] from rise = (from, tt)
lows-from low row (next ∷ rows) from rise = (from, lows-from low next rows (le_trans low row.0 next.0 from (le_of_lt row.0 next.0 rise.0)) rise.1)

parted-kept : (low : ℤ) (es : Entries) (rows : Rows) → AllByRecursion (λ r. int_le low r.0 ≡ true) rows → AreParted es rows → AreParted (filter (is_from low) es) rows
parted-kept low es [] from parted = tt
parted-kept low es (row ∷ rows) from parted = (
  parted.0 ∙ sym (filter-implied (λ (e : ℕ × NumHit). lies_in row.0 (low_of rows) e.1.value) (is_from low) es
      (λ e lies. le_trans low row.0 e.1.value from.0 (lies-from row.0 (low_of rows) e.1.value lies))),
  parted-kept low es rows from.1 parted.1,
)

-- an entry of the first row, by what lies in it
first-ids : (row : ℤ × Listing NumHit) (rows : Rows) (es : Entries) (id : ℕ) → AreParted es (row ∷ rows) → IsAbove id (row ∷ rows) → RisesAbove 0 row.1.entries
    → AllByRecursion (λ e. lies_in row.0 (low_of rows) e.1.value ≡ true → e.0 < id) es
first-ids row rows es id parted above rises =
    all-of-filter (λ (e : ℕ × NumHit). e.0 < id) (λ (e : ℕ × NumHit). lies_in row.0 (low_of rows) e.1.value) es
    (subst (AllByRecursion (λ (e : ℕ × NumHit). e.0 < id)) parted.0 (all-below 0 id row.1.entries rises above.0))

-- the ids of entries from the first low on are those of the rows
ids-from : (row : ℤ × Listing NumHit) (rows : Rows) (es : Entries) (id : ℕ) → AreParted es (row ∷ rows) → IsAbove id (row ∷ rows) → AllByRecursion (λ r. RisesAbove 0 r.1.entries) (row ∷ rows)
    → AllByRecursion (λ e. is_from row.0 e ≡ true → e.0 < id) es
ids-from row [] es id parted above rises =
    let here = first-ids row [] es id parted above rises.0 in
    all-both (λ (e : ℕ × NumHit). lies_in row.0 None e.1.value ≡ true → e.0 < id) (λ (e : ℕ × NumHit). lies_in row.0 None e.1.value ≡ true → e.0 < id) (λ (e : ℕ × NumHit). is_from row.0 e ≡ true → e.0 < id)
    es (λ e first _ from. first (lies-here row.0 None e.1.value from refl)) here here
ids-from row (next ∷ rows) es id parted above rises =
    all-both (λ (e : ℕ × NumHit). lies_in row.0 (Some next.0) e.1.value ≡ true → e.0 < id) (λ (e : ℕ × NumHit). is_from next.0 e ≡ true → e.0 < id) (λ (e : ℕ × NumHit). is_from row.0 e ≡ true → e.0 < id)
    es (λ e first later from. elim (cases_Bool (int_lt e.1.value next.0)) [
      | inl y ↦ first (lies-here row.0 (Some next.0) e.1.value from y)
      | inr n ↦ later (le_from_not_lt e.1.value next.0 n)
    ])
    (first-ids row (next ∷ rows) es id parted above rises.0) (ids-from next rows es id parted.1 above.1 rises.1)

-- the least number
abbrev pub least : ℤ
least = negsuc 9223372036854775807

-- an entry whose number is one of 64 bits
abbrev pub fits : ℕ × NumHit → Bool
fits e = is_from least e

pub fitting-parted : (es : Entries) (rows : Rows) → IsPartition rows → AreParted es rows → AreParted (filter fits es) rows
fitting-parted es [] partition parted = tt
fitting-parted es (row ∷ rows) partition parted =
    let first : int_le least row.0 ≡ true = from-first row.0 partition.first in
    parted-kept least es (row ∷ rows) (lows-from least row rows first partition.lows) parted
  where
    from-first : (low : ℤ) → ◌≡◌ {A = Option ℤ} (Some low) (Some least) → int_le least low ≡ true
    from-first low is = let one : low ≡ least = cc (is) in rw one refl

pub fitting-ids : (es : Entries) (rows : Rows) (id : ℕ) → IsPartition rows → IsAbove id rows → AreParted es rows → AllByRecursion (λ e. e.0 < id) (filter fits es)
fitting-ids es [] id partition above parted = let none : ◌≡◌ {A = Option ℤ} None (Some least) = partition.first in absurd (cc (none))
fitting-ids es (row ∷ rows) id partition above parted =
    let is : ◌≡◌ {A = Option ℤ} (Some row.0) (Some least) = partition.first in
    let one : row.0 ≡ least = cc (is) in
    filter-of-all (λ (e : ℕ × NumHit). e.0 < id) fits es
    (subst (λ (low : ℤ). AllByRecursion (λ (e : ℕ × NumHit). is_from low e ≡ true → e.0 < id) es) one (ids-from row rows es id parted above partition.ids))
