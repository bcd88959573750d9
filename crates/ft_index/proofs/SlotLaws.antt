-- The ranges by field, where those of one field change or come.
use Rattle.std.proofs.Common.{◌≡◌, ◌≢◌, ℕ, suc, zero, ◌<◌, ◌≤◌, List, [], ◌∷◌, ◌++◌, length, slice_index_or, set, refl, ap, arith, Option, None}
use Rattle.std.proofs.lemmas.Option.{slice_get-get_or}
use Rattle.numeric_ranges.specs.Ranges.{Rows}
use Rattle.ft_index.specs.Lists.{inner, rows_of}

pub rows-here : (ranges : List (Option Rows)) (k : ℕ) (slot : Option Rows) → k < length ranges → rows_of ranges k ≡ slice_index_or ranges k slot
rows-here ranges k slot within = ap inner (slice_get-get_or ranges k slot within)

pub rows-set_here : (ranges : List (Option Rows)) (k : ℕ) (slot : Option Rows) → k < length ranges → rows_of (set ranges k slot) k ≡ slot
rows-set_here [] k slot within = absurd (omega (arith, within))
rows-set_here (first ∷ ranges) zero slot within = refl
rows-set_here (first ∷ ranges) (suc k) slot within = rows-set_here ranges k slot (omega (arith, within))

pub rows-set_other : (ranges : List (Option Rows)) (k : ℕ) (slot : Option Rows) (other : ℕ) → other ≢ k → rows_of (set ranges k slot) other ≡ rows_of ranges other
rows-set_other [] k slot other away = refl
rows-set_other (first ∷ ranges) zero slot zero away = absurd (away refl)
rows-set_other (first ∷ ranges) zero slot (suc other) away = refl
rows-set_other (first ∷ ranges) (suc k) slot zero away = refl
rows-set_other (first ∷ ranges) (suc k) slot (suc other) away = rows-set_other ranges k slot other (λ is. away (ap suc is))

pub rows-pushed_here : (ranges : List (Option Rows)) (slot : Option Rows) → rows_of (ranges ++ slot ∷ []) (length ranges) ≡ slot
rows-pushed_here [] slot = refl
rows-pushed_here (first ∷ ranges) slot = rows-pushed_here ranges slot

pub rows-pushed_other : (ranges : List (Option Rows)) (slot : Option Rows) (other : ℕ) → other ≢ length ranges → rows_of (ranges ++ slot ∷ []) other ≡ rows_of ranges other
rows-pushed_other [] slot zero away = absurd (away refl)
rows-pushed_other [] slot (suc other) away = refl
rows-pushed_other (first ∷ ranges) slot zero away = refl
rows-pushed_other (first ∷ ranges) slot (suc other) away = rows-pushed_other ranges slot other (λ is. away (ap suc is))

pub rows-past : (ranges : List (Option Rows)) → rows_of ranges (length ranges) ≡ None
rows-past [] = refl
rows-past (first ∷ ranges) = rows-past ranges

-- there is no field beyond the last
pub rows-beyond : (ranges : List (Option Rows)) (field : ℕ) → length ranges ≤ field → rows_of ranges field ≡ None
rows-beyond [] zero beyond = refl
rows-beyond [] (suc field) beyond = refl
rows-beyond (first ∷ ranges) zero beyond = absurd (omega (arith, beyond))
rows-beyond (first ∷ ranges) (suc field) beyond = rows-beyond ranges field (omega (arith, beyond))
