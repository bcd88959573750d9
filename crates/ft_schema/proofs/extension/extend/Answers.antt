use Rattle.std.proofs.Common.{◌≡◌, Ok, rules}
use Rattle.ft_schema.specs.Schema.{extended}
use Rattle.ft_schema.proofs.LawfulLaws.{extended-lawful}
use Rattle.ft_schema.proofs.extension.extend.Goals as goal

pub returns-clause-lawful : goal.returns-clause-lawful
unfolding extended
returns-clause-lawful c = λ old new.
    let answered : extended c.args.def.now c.args.fields.now ≡ Ok c.in_ok-index.index = search rules in
    extended-lawful c.args.def.now c.args.fields.now c.in_ok-index.index old new answered
