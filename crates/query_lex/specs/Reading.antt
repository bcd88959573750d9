-- Reading bytes from the left. Each reader answers what it read and the bytes after it, or the fault at which it stops.
use Rattle.std.specs.Prelude.{ℕ, zero, suc, List, [], ◌∷◌, length, Option, Some, None, Result, Ok, Err}
use Rattle.ft_base.specs.Reading.{◌>>=◌}
use Rattle.query_lex.specs.declared.fault.Cause.{Cause}
use Rattle.query_lex.specs.declared.fault.Stop.{Stop}
use Rattle.query_lex.specs.declared.fault.Stop.TheVariants.{Fault}

-- what was read, and the bytes after it
abbrev pub Read : Type 0 → Type 0
Read A = Result (A × List ℕ) Stop

-- what comes next in a run, and the bytes after it; none where the run ends
abbrev pub Next : Type 0 → Type 0
Next A = Result (Option (A × List ℕ)) Stop

-- a fault at the first of these bytes
abbrev pub stop_at : Cause → List ℕ → Stop
stop_at cause bytes = Fault cause (length bytes)

abbrev pub fault : {A : Type 0} → Cause → List ℕ → Result A Stop
fault cause bytes = Err (stop_at cause bytes)

-- a run behind what comes before it
abbrev pub with_first : {A : Type 0} → A → Read (List A) → Read (List A)
with_first first others = others >>= λ run. Ok (first ∷ run.0, run.1)

abbrev pub run_with : {A : Type 0} → (List ℕ → Read (List A)) → List ℕ → Option (A × List ℕ) → Read (List A)
run_with others bytes None = Ok ([], bytes)
run_with others bytes (Some x) = with_first x.0 (others x.1)

abbrev pub run_in : {A : Type 0} → (List ℕ → Next A) → ℕ → List ℕ → Read (List A)
run_in next zero bytes = Ok ([], bytes)
run_in next (suc n) bytes = next bytes >>= λ found. run_with (λ rest. run_in next n rest) bytes found

-- A longest run: one after another, until none comes. Each takes a byte at least, so as many steps as there are bytes
-- suffice.
unfoldable pub run_at : {A : Type 0} → (List ℕ → Next A) → List ℕ → Read (List A)
run_at next bytes = run_in next (suc (length bytes)) bytes
