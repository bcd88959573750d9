-- Reading a run one after another, as a loop does it.
use Rattle.std.proofs.Common.{◌≡◌, ℕ, zero, suc, ◌<◌, List, [], ◌∷◌, ◌++◌, length, Some, None, Ok, Err, refl, ap, sym, ◌∙◌, append_assoc, append-nil, arith}
use Rattle.ft_base.specs.Reading.{◌>>=◌}
use Rattle.query_lex.specs.declared.fault.Stop.{Stop}
use Rattle.query_lex.specs.declared.fault.Stop.TheVariants as stops
use Rattle.query_lex.specs.Gives.{Stops}
use Rattle.query_lex.specs.Reading.{Read, Next, with_first, run_with, run_in, run_at}

-- a run behind those that were seen
abbrev pub after : {A : Type 0} → List A → Read (List A) → Read (List A)
after seen others = others >>= λ run. Ok (seen ++ run.0, run.1)

-- What is read from here is what the whole run gives: with so many steps left, which are more than there are bytes.
pub record Reads {A : Type 0} (next : List ℕ → Next A) (seen : List A) (bytes : List ℕ) (whole : Read (List A)) : Type 0 where
  pub steps : ℕ
  pub enough : length bytes < steps
  pub same : after seen (run_in next steps bytes) ≡ whole

-- one more seen
after-first : {A : Type 0} (seen : List A) (first : A) (others : Read (List A)) → after seen (with_first first others) ≡ after (seen ++ first ∷ []) others
after-first seen first (Ok run) = ap (λ front. Ok (front, run.1)) (sym (append_assoc seen (first ∷ []) run.0))
after-first seen first (Err stop) = refl

after-none : {A : Type 0} (others : Read (List A)) → after [] others ≡ others
after-none (Ok run) = refl
after-none (Err stop) = refl

-- nothing is seen yet
pub begins : {A : Type 0} (next : List ℕ → Next A) (bytes : List ℕ) → Reads next [] bytes (run_at next bytes)
unfolding run_at
begins next bytes = record { steps = suc (length bytes); enough = omega arith; same = after-none (run_in next (suc (length bytes)) bytes) }

-- the first is seen
pub begins_behind : {A : Type 0} (next : List ℕ → Next A) (first : A) (bytes : List ℕ) → Reads next (first ∷ []) bytes (with_first first (run_at next bytes))
unfolding run_at
begins_behind next first bytes = record { steps = suc (length bytes); enough = omega arith; same = refl }

pub goes_on : {A : Type 0} (next : List ℕ → Next A) (seen : List A) (found : A) (bytes rest : List ℕ) (whole : Read (List A))
    → next bytes ≡ Ok (Some (found, rest)) → length rest < length bytes → Reads next seen bytes whole → Reads next (seen ++ found ∷ []) rest whole
goes_on next seen found bytes rest whole read shorter reads = by_steps reads.steps reads.enough reads.same
  where
    by_steps : (n : ℕ) → length bytes < n → after seen (run_in next n bytes) ≡ whole → Reads next (seen ++ found ∷ []) rest whole
    by_steps zero few e = absurd (omega (arith, few))
    by_steps (suc n) few e = record {
      steps = n;
      enough = omega (arith, few, shorter);
      same = sym (ap (λ r. after seen (r >>= λ x. run_with (λ others. run_in next n others) bytes x)) read ∙ after-first seen found (run_in next n rest)) ∙ e;
    }

pub stops_there : {A : Type 0} (next : List ℕ → Next A) (seen : List A) (bytes : List ℕ) (whole : Read (List A)) (stop : Stop)
    → next bytes ≡ Err stop → Reads next seen bytes whole → whole ≡ Err stop
stops_there next seen bytes whole stop read reads = by_steps reads.steps reads.enough reads.same
  where
    by_steps : (n : ℕ) → length bytes < n → after seen (run_in next n bytes) ≡ whole → whole ≡ Err stop
    by_steps zero few e = absurd (omega (arith, few))
    by_steps (suc n) few e = sym e ∙ ap (λ r. after seen (r >>= λ x. run_with (λ others. run_in next n others) bytes x)) read

pub ended : {A : Type 0} (next : List ℕ → Next A) (seen : List A) (bytes : List ℕ) (whole : Read (List A))
    → next bytes ≡ Ok None → Reads next seen bytes whole → whole ≡ Ok (seen, bytes)
ended next seen bytes whole none reads = by_steps reads.steps reads.enough reads.same
  where
    by_steps : (n : ℕ) → length bytes < n → after seen (run_in next n bytes) ≡ whole → whole ≡ Ok (seen, bytes)
    by_steps zero few e = absurd (omega (arith, few))
    by_steps (suc n) few e = sym e ∙ (ap (λ r. after seen (r >>= λ x. run_with (λ others. run_in next n others) bytes x)) none ∙ ap (λ front. Ok (front, bytes)) (append-nil seen))

-- Where the code of a step stops, the run stops.
pub stops_so : {A : Type 0} (next : List ℕ → Next A) (seen : List A) (bytes : List ℕ) (whole : Read (List A)) (stop : Stop)
    → Stops stop (next bytes) → Reads next seen bytes whole → Stops stop whole
stops_so next seen bytes whole stops.NoMemory read reads = tt
stops_so next seen bytes whole (stops.Fault cause left) read reads = stops_there next seen bytes whole _ read reads
