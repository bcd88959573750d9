use Rattle.std.proofs.Common.{◌≡◌, Err, inr, ap}
use Rattle.command_line.specs.declared.form.WordFault.TheVariants as fault
use Rattle.command_line.proofs.LineLaws.{taken}
use Rattle.command_line.proofs.form.read_words.Goals as goal

pub returns-in-Err-clause-usage : goal.returns-in-Err-clause-usage
returns-in-Err-clause-usage c usage asked are =
    let why : c.in-Err.fault ≡ fault.NoMemory = c.in-Err.ensures.taken (taken c.args.words.now asked are) in absurd (cc)

pub returns-in-Err-clause-read : goal.returns-in-Err-clause-read
returns-in-Err-clause-read c asked are = inr (ap Err (c.in-Err.ensures.taken (taken c.args.words.now asked are)))
