use Rattle.std.proofs.Common.{ℤ, ◌∙◌, sym, ap, Some, Option, Result, Ok, Err}
use Rattle.std.specs.declared.num.ParseIntError.{ParseIntError}
use Rattle.field_text.specs.Numbers.{number_of}
use Rattle.field_text.proofs.NumberLaws.{reads, bits_same, not_text}
use Rattle.field_text.proofs.numbers.number.Goals as goal

abbrev some_int : ℤ → Option ℤ
some_int n = Some n

abbrev read_as : ℤ → Result ℤ ParseIntError
read_as n = Ok n

abbrev refused_by : ParseIntError → Result ℤ ParseIntError
refused_by e = Err e

pub returns-in_default : goal.returns-in_default
returns-in_default c = sym (not_text c.args.text.now c.in_default.ensures.cases.0)

pub returns-in_default-parse : goal.returns-in_default-parse
returns-in_default-parse c =
    sym (ap number_of (sym c.in-Ok.ensures.cases.0) ∙ reads c.in-Ok.digits.now (refused_by c.in_default-parse.field-0) c.in_default-parse.ensures.value.0)

pub returns : goal.returns
returns c =
    ap some_int (bits_same ParseIntError c.in-Ok.digits.now c.in-Ok-parse.number c.in-Ok-parse.ensures.value.0)
    ∙ sym (ap number_of (sym c.in-Ok.ensures.cases.0) ∙ reads c.in-Ok.digits.now (read_as c.in-Ok-parse.number) c.in-Ok-parse.ensures.value.0)
