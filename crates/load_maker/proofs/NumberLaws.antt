-- How many commands a load has.
use Rattle.std.proofs.Common.{◌≡◌, ℕ, zero, suc, ◌+◌, Bool, true, false, [], ◌∷◌, length, refl, arith}
use Rattle.std.specs.Prelude.{◌/◌, ◌%◌, ◌==◌, if◌then◌else◌}
use Rattle.std.proofs.lemmas.Bool.Decides.{nat_tests}
use Rattle.std.proofs.lemmas.List.{length-append}
use Rattle.rand_pcg.specs.Lcg.{Lcg}
use Rattle.resp_wire.specs.Stream.{Command}
use Rattle.load_maker.specs.Load.{begun, deleting, documents, drawn, last_commands, load}

number_by : (b : Bool) (k : ℕ) (command : Command) → ((k + 1) % 10 == 0) ≡ b → length (if b then command ∷ [] else []) + k / 10 ≡ (k + 1) / 10
number_by true k command is =
    let zero_rest : (k + 1) % 10 ≡ 0 = grind (arith, nat_tests, is) in
    omega arith
number_by false k command is =
    let some_rest : (k + 1) % 10 ≡ 0 → ⊥ = grind (arith, nat_tests, is) in
    omega arith

-- a document is deleted behind each tenth
deleted : (k : ℕ) → length (deleting (k + 1)) + k / 10 ≡ (k + 1) / 10
deleted k = number_by ((k + 1) % 10 == 0) k _ refl

documents_number : (n k : ℕ) (g : Lcg) → length (documents n (k + 1) g) + k / 10 ≡ n + (k + n) / 10
unfolding documents
documents_number zero k g = omega arith
documents_number (suc n) k g =
    omega (arith, length-append (deleting (k + 1)) (documents n (k + 1 + 1) (drawn g).next), deleted k, documents_number n (k + 1) (drawn g).next)

pub load_number : (seed docs : ℕ) → length (load seed docs) ≡ docs + docs / 10 + 6
unfolding load
load_number seed docs = omega (arith, length-append (documents docs 1 (begun seed)) last_commands, documents_number docs 0 (begun seed))
