use Rattle.std.proofs.Common.{Ok, Err, inl, refl, ap}
use Rattle.command_line.specs.declared.form.Form.TheVariants as form
use Rattle.worker_pool.proofs.WordLaws.{load_is_none, no_form_is_none, script_is_none, serve_is_one}
use Rattle.worker_pool.proofs.serving.refusal.Goals as goal

pub returns-in-Ok-Serve : goal.returns-in-Ok-Serve
returns-in-Ok-Serve c =
    let asked = c.in-Ok-Serve in
    serve_is_one c.args.words.now asked.field-0-0 asked.field-0-1 (asked.ensures.form (form.Serve asked.field-0-0 asked.field-0-1) (ap Ok asked.field-0-is))

pub returns-in-Ok-Script : goal.returns-in-Ok-Script
returns-in-Ok-Script c = inl (refl, script_is_none c.args.words.now (c.in-Ok-Script.ensures.form form.Script (ap Ok c.in-Ok-Script.field-0-is)))

pub returns-in-Ok-Load : goal.returns-in-Ok-Load
returns-in-Ok-Load c =
    let asked = c.in-Ok-Load in
    inl (refl, load_is_none c.args.words.now asked.field-0-0 asked.field-0-1 (asked.ensures.form (form.Load asked.field-0-0 asked.field-0-1) (ap Ok asked.field-0-is)))

pub returns-in-Err-Usage : goal.returns-in-Err-Usage
returns-in-Err-Usage c = inl (refl, no_form_is_none c.args.words.now (c.in-Err-Usage.ensures.usage (ap Err c.in-Err-Usage.field-0-is)))
