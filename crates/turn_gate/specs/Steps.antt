-- What each step of the turn lock tells: of the seat before it, the number that it found, and the seat after it.
use Rattle.std.specs.Prelude.{◌≡◌, ◌≢◌, ℕ, ◌<◌, ◌≤◌, true, List, [], ◌∷◌, Option, Some}
use Rattle.atomic_table.specs.Table.{Me, Step}
use Rattle.turn_gate.specs.declared.view.View.{View}
use Rattle.turn_gate.specs.Log.{StartsWith, OthersSince}
use Rattle.turn_gate.specs.Views.{in_turn_with, with_entries, out_of_turn, with_passes}

-- a seat: what its pass knows, and the slot, where the pass is in turn
abbrev pub Seat : Type 0 → Type 0 → Type 0
Seat S E = Me (Option S) (View E)

module _ {E S : Type 0} where
  -- a turn began: the log is what was seen and then entries of others, of which there are none where the pass is alone,
  -- and the state that is taken stands for it
  abbrev pub Entered : (E → ℕ) → (S → List E → ℕ → Type 0) → ℕ → Seat S E → Seat S E → Type 0
  Entered by tells caller m n =
      (state : S) × (log : List E) × (n.0 ≡ in_turn_with m.0 log) × (n.1 ≡ (0, Some state) ∷ m.1)
      × OthersSince by caller m.0.seen log × (m.0.alone ≡ true → log ≡ m.0.seen) × tells state log m.0.first

  -- it began where the word was 0, and else nothing changed
  abbrev pub tried :
      (E → ℕ) → (S → List E → ℕ → Type 0) → ℕ → Step (Option S) → Seat S E → ℕ → Seat S E → Type 0
  tried by tells caller st m found n = (found ≡ 0 → Entered by tells caller m n) × (found ≢ 0 → n ≡ m)

  -- the log has the new entries
  abbrev pub logged : List E → Step (Option S) → Seat S E → ℕ → Seat S E → Type 0
  logged es st m found n = (n.0 ≡ with_entries m.0 es) × (n.1 ≡ m.1)

  -- the turn is over, and the slot is at home
  abbrev pub gave_back : Step (Option S) → Seat S E → ℕ → Seat S E → Type 0
  gave_back st m found n = (n.0 ≡ out_of_turn m.0) × (n.1 ≡ [])

  -- it is known how many passes were made, and the caller's is one of them
  abbrev pub counted : ℕ → Step (Option S) → Seat S E → ℕ → Seat S E → Type 0
  counted caller st m found n = (n ≡ (with_passes m.0 n.0.passes, m.1)) × (caller < n.0.passes)

  -- the caller's number is none of those before it
  abbrev pub compared : ℕ → Step (Option S) → Seat S E → ℕ → Seat S E → Type 0
  compared caller st m found n = (n ≡ m) × (m.0.before ≤ caller)

  -- what the other of two joined passes had seen begins what this one has seen
  abbrev pub checked : Step (Option S) → Seat S E → ℕ → Seat S E → Type 0
  checked st m found n = (n ≡ m) × StartsWith m.0.seen m.0.told
