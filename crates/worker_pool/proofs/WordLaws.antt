-- Words of the command line that don't ask for a server at a port.
use Rattle.std.proofs.Common.{◌≡◌, ℕ, List, ◌∷◌, length, sym, ap, ◌∙◌, arith}
use Rattle.std.specs.declared.alloc.Global.{Global}
use Rattle.std.specs.declared.string.String.{String}
use Rattle.command_line.specs.Forms.{AreForm, IsLoad, IsScript, IsServe}
use Rattle.command_line.specs.declared.form.Form.{Form}
use Rattle.command_line.specs.declared.form.Form.TheVariants as form
use Rattle.worker_pool.specs.Jobs.{NoServe}

pub script_is_none : (words : List (String Global)) → AreForm words form.Script → NoServe words
script_is_none words script port workers serve = script_apart script serve
  where
    script_apart : IsScript words → IsServe words port workers → ⊥
    script_apart script serve = absurd (omega (arith, ap length script, ap length serve.are))

first_is : (a b : List ℕ) (x y : List (List ℕ)) → a ∷ x ≡ b ∷ y → a ≡ b
first_is a b x y e = cc

pub load_is_none : (words : List (String Global)) (seed docs : ℕ) → AreForm words (form.Load seed docs) → NoServe words
load_is_none words seed docs load port workers serve = load_apart load serve
  where
    load_apart : IsLoad words seed docs → IsServe words port workers → ⊥
    load_apart load serve = absurd (let other = first_is _ _ _ _ (sym load.are ∙ serve.are) in cc)

pub serve_is_one : (words : List (String Global)) (port workers : ℕ) → AreForm words (form.Serve port workers) → NoServe words → ⊥
serve_is_one words port workers serve none = none port workers serve

pub no_form_is_none : (words : List (String Global)) → ((asked : Form) → AreForm words asked → ⊥) → NoServe words
no_form_is_none words none port workers serve = none (form.Serve port workers) serve
