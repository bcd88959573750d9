-- Histories of any entries: each is judged with all that stand before it.
use Rattle.std.specs.Prelude.{◌≡◌, ℕ, zero, suc, ◌+◌, ◌^◌, min, List, [], ◌∷◌, ◌++◌, length, Some, None}
use Rattle.std.specs.declared.option.Option.{Option}

module _ {E : Type 0} where
  -- the entry at a place, counted from 0
  abbrev pub at : List E → ℕ → Option E
  at [] place = None
  at (entry ∷ entries) zero = Some entry
  at (entry ∷ entries) (suc place) = at entries place

  -- the number of the entry behind these, the first of which has this number
  abbrev pub number : ℕ → List E → ℕ
  number first before = min (first + length before) (2 ^ 62)

  -- a fact of each entry and of those before it
  abbrev pub Each : (List E → E → Type 0) → List E → List E → Type 0
  Each F before [] = Unit {0}
  Each F before (entry ∷ entries) = F before entry × Each F (before ++ entry ∷ []) entries

  -- Behind those before them, entries lead from a state to another, one after another. `legal` says to which states one
  -- may lead, by the entries before it.
  abbrev pub Leads : {M : Type 0} → (List E → M → E → M → Type 0) → List E → M → List E → M → Type 0
  Leads legal before old [] new = old ≡ new
  Leads {M} legal before old (entry ∷ entries) new = (between : M) × legal before old entry between × Leads legal (before ++ entry ∷ []) between entries new
