use Rattle.std.proofs.Common.{◌≡◌, Some, ℕ, refl, subst, List}
use Rattle.std.specs.declared.alloc.Global.{Global}
use Rattle.std.specs.declared.string.String.{String}
use Rattle.command_line.specs.Forms.{AreForm, IsLoad}
use Rattle.command_line.specs.declared.form.Form.{Form}
use Rattle.command_line.specs.declared.form.Form.TheVariants as form
use Rattle.command_line.proofs.texts.load_in.Goals as goal

is_load : (words : List (String Global)) (seed docs : ℕ) (asked : Form) → IsLoad words seed docs → Some (form.Load seed docs) ≡ Some asked → AreForm words asked
is_load words seed docs asked load e = subst (AreForm words) (let same : form.Load seed docs ≡ asked = cc in same) load

pub returns-clause-form : goal.returns-clause-form
returns-clause-form c asked =
    is_load c.args.words.now c.in_ok-seed-2.seed c.in_ok-docs.docs asked (record {
      seed_word = c.in_ok-seed.seed.now;
      docs_word = c.in_ok-seed.docs.now;
      are = c.in_ok-seed.ensures.words;
      is_seed = (c.in_ok-seed-2.ensures c.in_ok-seed-2.seed).0 refl;
      are_docs = (c.in_ok-docs.ensures c.in_ok-docs.docs).0 refl;
    })
