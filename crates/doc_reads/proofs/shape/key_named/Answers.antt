use Rattle.std.proofs.Common.{sym, ap, ◌∙◌}
use Rattle.std.specs.Option.{option_copied}
use Rattle.doc_reads.proofs.KeyLaws.{no-column}
use Rattle.doc_reads.proofs.shape.key_named.Goals as goal

pub returns-in-None-clause-column : goal.returns-in-None-clause-column
returns-in-None-clause-column c = sym (no-column c.args.sort.now.field.now c.args.fields.now (sym c.get.ensures ∙ ap option_copied c.in-None.is))
