-- The bytes that a run takes, before those that it leaves.
use Rattle.std.proofs.Common.{◌≡◌, ℕ, zero, suc, ◌<◌, ◌≤◌, List, [], ◌∷◌, ◌++◌, length, Some, None, Result, Ok, Err, IfOk, IfSome, refl, ap, sym, ◌∙◌, append_assoc, length-append, arith}
use Rattle.ft_base.specs.Reading.{◌>>=◌}
use Rattle.query_lex.specs.declared.fault.Stop.{Stop}
use Rattle.query_lex.specs.Reading.{Read, Next, with_first, run_with, run_in, run_at}

-- One is read from the bytes at the front, of which there is one at least; they spell it before whatever follows.
pub record Step {A : Type 0} (R : List A → List ℕ → Type 0) (bytes : List ℕ) (x : A) (rest : List ℕ) : Type 0 where
  pub front : List ℕ
  pub least : 0 < length front
  pub whole : bytes ≡ front ++ rest
  pub adds : (xs : List A) (more : List ℕ) → R xs more → R (x ∷ xs) (front ++ more)

-- A run is spelled by the bytes that it takes, and none comes next.
pub record Run {A : Type 0} (next : List ℕ → Next A) (R : List A → List ℕ → Type 0) (xs : List A)
    (bytes behind : List ℕ) : Type 0 where
  pub taken : List ℕ
  pub whole : bytes ≡ taken ++ behind
  pub least : length xs ≤ length taken
  pub spells : R xs taken
  pub last : next behind ≡ Ok None

-- whatever comes next is read so
abbrev pub Steps : {A : Type 0} → (List ℕ → Next A) → (List A → List ℕ → Type 0) → Type 0
Steps next R = (bytes : List ℕ) → IfOk (next bytes) (λ found. IfSome found (λ x. Step R bytes x.0 x.1))

-- what is read comes next
pub as_next : {A : Type 0} (read : Read A) (P : A × List ℕ → Type 0) → IfOk read P
    → IfOk (read >>= λ x. Ok (Some x)) (λ found. IfSome found P)
as_next (Ok x) P h = h
as_next (Err stop) P h = tt

-- and then there is a next
pub some-next : {A : Type 0} (read : Read A) → (read >>= λ x. Ok (Some x)) ≡ Ok None → ⊥
some-next (Ok x) e = cc
some-next (Err stop) e = cc

-- what holds whatever was read
pub whatever : {A B : Type 0} (P : B → Type 0) (read : Result A Stop) (then : A → Result B Stop)
    → ((x : A) → IfOk (then x) P) → IfOk (read >>= then) P
whatever P (Ok x) then h = h x
whatever P (Err stop) then h = tt

shorter : {A : Type 0} (R : List A → List ℕ → Type 0) (bytes : List ℕ) (x : A) (rest : List ℕ) → Step R bytes x rest
    → length rest < length bytes
shorter R bytes x rest step =
    let whole : length bytes ≡ length (step.front ++ rest) = ap length step.whole in
    omega (arith, length-append step.front rest)

-- a run behind one that was read
one_more : {A : Type 0} (next : List ℕ → Next A) (R : List A → List ℕ → Type 0) (bytes : List ℕ) (x : A) (rest : List ℕ)
    (xs : List A) (behind : List ℕ)
    → Step R bytes x rest → Run next R xs rest behind → Run next R (x ∷ xs) bytes behind
one_more next R bytes x rest xs behind step run = record {
  taken = step.front ++ run.taken;
  whole =
      step.whole ∙ ap (λ (more : List ℕ). step.front ++ more) run.whole
      ∙ sym (append_assoc step.front run.taken behind);
  least = omega (arith, length-append step.front run.taken);
  spells = step.adds xs run.taken run.spells;
  last = run.last;
}

first_behind : {A : Type 0} (next : List ℕ → Next A) (R : List A → List ℕ → Type 0) (bytes : List ℕ) (x : A)
    (rest : List ℕ) (others : Read (List A))
    → Step R bytes x rest → IfOk others (λ run. Run next R run.0 rest run.1)
    → IfOk (with_first x others) (λ run. Run next R run.0 bytes run.1)
first_behind next R bytes x rest (Ok run) step others = one_more next R bytes x rest run.0 run.1 step others
first_behind next R bytes x rest (Err stop) step others = tt

-- one step of a run, where the steps behind it are known
step_taken : {A : Type 0} (next : List ℕ → Next A) (R : List A → List ℕ → Type 0) → R [] []
    → (n : ℕ) (bytes : List ℕ) (found : Next A) → length bytes < suc n
    → next bytes ≡ found → IfOk found (λ found. IfSome found (λ x. Step R bytes x.0 x.1))
    → ((rest : List ℕ) → length rest < n → IfOk (run_in next n rest) (λ run. Run next R run.0 rest run.1))
    → IfOk (found >>= λ found. run_with (λ rest. run_in next n rest) bytes found) (λ run. Run next R run.0 bytes run.1)
step_taken next R none n bytes (Ok None) few is step again =
    record { taken = []; whole = refl; least = omega arith; spells = none; last = is }
step_taken next R none n bytes (Ok (Some x)) few is step again =
    let less : length x.1 < length bytes = shorter R bytes x.0 x.1 step in
    first_behind next R bytes x.0 x.1 (run_in next n x.1) step (again x.1 (omega arith))
step_taken next R none n bytes (Err stop) few is step again = tt

in_steps : {A : Type 0} (next : List ℕ → Next A) (R : List A → List ℕ → Type 0) → R [] [] → Steps next R
    → (n : ℕ) (bytes : List ℕ) → length bytes < n
    → IfOk (run_in next n bytes) (λ run. Run next R run.0 bytes run.1)
in_steps next R none steps zero bytes few = absurd (omega (arith, few))
in_steps next R none steps (suc n) bytes few =
    step_taken next R none n bytes (next bytes) few refl (steps bytes)
    (λ rest less. in_steps next R none steps n rest less)

-- a whole run
pub run_taken : {A : Type 0} (next : List ℕ → Next A) (R : List A → List ℕ → Type 0) → R [] [] → Steps next R
    → (bytes : List ℕ)
    → IfOk (run_at next bytes) (λ run. Run next R run.0 bytes run.1)
unfolding run_at
run_taken next R none steps bytes = in_steps next R none steps (suc (length bytes)) bytes (omega arith)

run_then : {A B : Type 0} (next : List ℕ → Next A) (R : List A → List ℕ → Type 0) (bytes : List ℕ) (x : A)
    (rest : List ℕ) (others : Read (List A)) (then : List A × List ℕ → Result B Stop) (P : B → Type 0)
    → Step R bytes x rest → IfOk others (λ run. Run next R run.0 rest run.1)
    → ((xs : List A) (behind : List ℕ) → Run next R (x ∷ xs) bytes behind → IfOk (then (x ∷ xs, behind)) P)
    → IfOk (with_first x others >>= then) P
run_then next R bytes x rest (Ok run) then P step others given =
    given run.0 run.1 (one_more next R bytes x rest run.0 run.1 step others)
run_then next R bytes x rest (Err stop) then P step others given = tt

-- a first one and a run behind it, and what is made of them
pub first_then : {A B : Type 0} (next : List ℕ → Next A) (R : List A → List ℕ → Type 0) (bytes : List ℕ)
    (first : Read A) (then : List A × List ℕ → Result B Stop) (P : B → Type 0)
    → R [] [] → Steps next R → IfOk first (λ x. Step R bytes x.0 x.1)
    → ((x : A) (xs : List A) (behind : List ℕ) → Run next R (x ∷ xs) bytes behind → IfOk (then (x ∷ xs, behind)) P)
    → IfOk (first >>= λ x. with_first x.0 (run_at next x.1) >>= then) P
first_then next R bytes (Ok x) then P none steps step given =
    run_then next R bytes x.0 x.1 (run_at next x.1) then P step (run_taken next R none steps x.1)
    (λ xs behind run. given x.0 xs behind run)
first_then next R bytes (Err stop) then P none steps step given = tt
