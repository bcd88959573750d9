-- Ids that were read ahead of a reader.
use Rattle.std.specs.Prelude.{◌≡◌, ◌≤◌, ◌+◌, ◌&&◌, ℕ, Bool, true, List, [], ◌∷◌, Option, Some, None, map, filter, nat_le, if◌then◌else◌}
use Rattle.id_iters.specs.Least.{NoneBetween}

-- the ids from the first on that is at least `from`
abbrev pub ids_from : ℕ → List ℕ → List ℕ
ids_from from [] = []
ids_from from (id ∷ ids) = if nat_le from id then id ∷ ids else ids_from from ids

-- the ids from the first on that is at least `from` and lives
abbrev pub live_from : (ℕ → Bool) → ℕ → List ℕ → List ℕ
live_from live from [] = []
live_from live from (id ∷ ids) = if nat_le from id && live id then id ∷ ids else live_from live from ids

-- the first id
abbrev pub first_of : List ℕ → Option ℕ
first_of [] = None
first_of (id ∷ ids) = Some id

-- the ids from `from` on of the entries whose hit is wanted
abbrev pub wanted_ids : {P : Type 0} → (P → Bool) → ℕ → List (ℕ × P) → List ℕ
wanted_ids wants from entries = map (λ e. e.0) (filter (λ e. nat_le from e.0 && wants e.1) entries)

-- The ids are those that pass from `low` on and up to `last`, in their order.
abbrev pub Gives : (ℕ → Bool) → ℕ → ℕ → List ℕ → Type 0
Gives has low last [] = NoneBetween has low (last + 1)
Gives has low last (id ∷ ids) = (low ≤ id) × (id ≤ last) × (has id ≡ true) × NoneBetween has low id × Gives has (id + 1) last ids

-- The ids are all that pass from `from` on and up to `last`, and maybe some before them.
pub record IsAhead (has : ℕ → Bool) (last from : ℕ) (ids : List ℕ) : Type 0 where
  pub low : ℕ
  pub reached : low ≤ from
  pub gives : Gives has low last ids
