use Rattle.std.proofs.Common.{◌≡◌, Some, List, ℕ, [], ◌∷◌, ap, arith, codes, subst, ◌∙◌}
use Rattle.std.specs.Prelude.{string_bytes}
use Rattle.command_line.specs.Forms.{AreForm}
use Rattle.command_line.specs.declared.form.Form.{Form}
use Rattle.command_line.specs.declared.form.Form.TheVariants as form
use Rattle.command_line.proofs.WordLaws.{Line, is_text, one_word}
use Rattle.command_line.proofs.texts.script_in.Goals as goal

is_script : (words : Line) (asked : Form) → AreForm words form.Script → Some form.Script ≡ Some asked → AreForm words asked
is_script words asked script e = subst (AreForm words) (let same : form.Script ≡ asked = cc in same) script

pub returns-in-len1-clause-form : goal.returns-in-len1-clause-form
returns-in-len1-clause-form c asked =
    is_script c.args.words.now asked (one_word c.args.words.now c.word-item.result (omega (arith, c.in-len1.len_at_least, c.in-len1.len_below)) c.word-item.is
    ∙ ap (λ (word : List ℕ). word ∷ []) (is_text (string_bytes c.word-item.result) c.as_str.result.now (codes "script") c.eq.result c.as_str.ensures.value c.eq.ensures c.if-eq.true))
