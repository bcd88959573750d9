-- The rule of the turn lock, which each step keeps: what the table is at any moment, and what each pass knows of it.
use Rattle.std.specs.Prelude.{◌≡◌, ◌≢◌, ℕ, ◌%◌, ◌^◌, ◌≤◌, true, false, List, [], ◌∷◌, length, Option, Some}
use mathlib.Core.Option.{some}
use lib.ListN.{get_elem?}
use Rattle.atomic_table.specs.Table.{State}
use Rattle.turn_gate.specs.declared.view.View.{View}
use Rattle.turn_gate.specs.Log.{StartsWith, NoneBy, OthersSince}

module _ {E : Type 0} (by : E → ℕ) where
  -- What a pass that isn't spent knows of the log, and of itself, where `id` is its caller's number.
  pub record Sees (first : ℕ) (log : List E) (id : ℕ) (v : View E) : Type 0 where
    -- what it has seen begins the log, and behind that is no entry of its own
    pub since : OthersSince by id v.seen log
    -- what a pass that was joined to it had seen begins the log too
    pub told : StartsWith log v.told
    -- it knows the number of the first entry
    pub same_first : v.first ≡ first
    -- the passes that it knows to come before it have smaller numbers
    pub before : v.before ≤ id

  -- What the table is. `views` has each pass that was ever made at its caller's number.
  pub record Kept
      {S : Type 0} (tells : S → List E → ℕ → Type 0) (first : ℕ) (s : State (Option S) (View E)) : Type 0 where
    -- there is one log, and one place that may be in turn
    pub log : List E
    pub holder : ℕ
    -- word 0 is the turn, and word 1 the log's length modulo 2^64
    pub turn : ℕ
    pub words : s.words ≡ turn ∷ (length log % 2 ^ 64) ∷ []
    -- what each pass that isn't spent knows of the log is true
    pub sees : (id : ℕ) (v : View E) → get_elem? s.views id ≡ some v → v.spent ≡ false → Sees first log id v
    -- a pass in turn is the holder, so at most one is; word 0 is then 1, and it has seen the whole log
    pub in_turn : (id : ℕ) (v : View E) → get_elem? s.views id ≡ some v → v.in_turn ≡ true
        → (id ≡ holder) × (turn ≡ 1) × (v.seen ≡ log)
    -- where word 0 is not 0, the holder is in turn
    pub busy : turn ≢ 0 → (v : View E) × (get_elem? s.views holder ≡ some v) × (v.in_turn ≡ true)
    -- where word 0 is 0, the slot is at home with the state, which stands for the log
    pub free : turn ≡ 0
        → (state : S) × (get_elem? s.homes 0 ≡ some (some (Some state))) × tells state log first
    -- a number that no pass has yet has no entry, and no pass counts it among those that were made
    pub unmade : (id : ℕ) → length s.views ≤ id → NoneBy by id log
    pub passes : (id : ℕ) (v : View E) → get_elem? s.views id ≡ some v → v.passes ≤ length s.views
    -- a pass that knows itself alone is the only one that was ever made, so each entry is of its number
    pub alone : (id : ℕ) (v : View E) → get_elem? s.views id ≡ some v → v.alone ≡ true → length s.views ≡ 1
