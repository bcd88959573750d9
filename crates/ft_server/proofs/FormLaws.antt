-- What words ask for, as `run` reads it.
use Rattle.std.proofs.Common.{◌≡◌, ◌⊎◌, ℕ, Result, Ok, Err, inl, inr, sym, ◌∙◌}
use Rattle.command_line.specs.declared.form.Form.{Form}
use Rattle.command_line.specs.declared.form.Form.TheVariants as form
use Rattle.command_line.specs.declared.form.WordFault.{WordFault}
use Rattle.command_line.specs.declared.form.WordFault.TheVariants as fault

-- what is read of words that are this form
abbrev pub IsRead : Result Form WordFault → Form → Type 0
IsRead read asked = (read ≡ Ok asked) ⊎ (read ≡ Err fault.NoMemory)

-- a form that was read is the one that the words are
pub form_read : (asked one other : Form) → asked ≡ one → IsRead (Ok asked) other → one ≡ other
form_read asked one other is (inl same) = sym is ∙ (let e : asked ≡ other = cc in e)
form_read asked one other is (inr memory) = absurd (cc)

-- words are a load of one seed and one number
pub one_load : (a b m n : ℕ) → form.Load a b ≡ form.Load m n → (a ≡ m) × (b ≡ n)
one_load a b m n e = (cc, cc)

pub no_load : (seed docs : ℕ) → form.Script ≡ form.Load seed docs → ⊥
no_load seed docs e = absurd (cc)

pub no_script : (seed docs : ℕ) → form.Load seed docs ≡ form.Script → ⊥
no_script seed docs e = absurd (cc)
