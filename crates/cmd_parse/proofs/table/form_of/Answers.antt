use Rattle.std.proofs.Common.{◌≡◌}
use Rattle.cmd_parse.specs.Commands.{form_of}
use Rattle.cmd_parse.proofs.TableLaws.{lawful_form}
use Rattle.cmd_parse.proofs.table.form_of.Goals as goal

pub returns-clause-lawful : goal.returns-clause-lawful
returns-clause-lawful c =
    let found : c.find.result ≡ form_of c.args.name.now = c.find.ensures in
    rw found (lawful_form c.args.name.now)
