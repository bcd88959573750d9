use Rattle.std.proofs.Common.{Ok, ap}
use Rattle.command_line.specs.Forms.{IsServe}
use Rattle.command_line.specs.declared.form.Form.TheVariants as form
use Rattle.rsearch.proofs.place_of.Goals as goal

pub returns-in-Ok-Serve : goal.returns-in-Ok-Serve
returns-in-Ok-Serve c =
    let asked = c.in-Ok-Serve in
    let serve : IsServe c.args.words.now asked.port asked.workers = asked.ensures.form (form.Serve asked.port asked.workers) (ap Ok asked.field-0-is) in serve.are_workers.some
