use Rattle.std.proofs.Common.{◌≡◌, Some, ℕ, refl, subst, List}
use Rattle.std.specs.declared.alloc.Global.{Global}
use Rattle.std.specs.declared.string.String.{String}
use Rattle.command_line.specs.Forms.{AreForm, IsServe}
use Rattle.command_line.specs.declared.form.Form.{Form}
use Rattle.command_line.specs.declared.form.Form.TheVariants as form
use Rattle.command_line.proofs.texts.serve_in.Goals as goal

is_serve : (words : List (String Global)) (port workers : ℕ) (asked : Form) → IsServe words port workers → Some (form.Serve port workers) ≡ Some asked → AreForm words asked
is_serve words port workers asked serve e = subst (AreForm words) (let same : form.Serve port workers ≡ asked = cc in same) serve

pub returns-clause-form : goal.returns-clause-form
returns-clause-form c asked =
    is_serve c.args.words.now c.in_ok-port-2.port c.in_ok-workers.workers asked (record {
      port_word = c.in_ok-port.port.now;
      workers_word = c.in_ok-port.workers.now;
      are = c.in_ok-port.ensures.words;
      is_port = (c.in_ok-port-2.ensures c.in_ok-port-2.port).0 refl;
      are_workers = (c.in_ok-workers.ensures c.in_ok-workers.workers).0 refl;
    })
