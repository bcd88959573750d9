use Rattle.std.proofs.Common.{◌∙◌, ap}
use Rattle.std.specs.Option.{option_copied}
use Rattle.term_dict.specs.Rows.{lists_of}
use Rattle.term_dict.specs.Terms.{rows_after}
use Rattle.term_dict.proofs.StartLaws.{rows_behind}
use Rattle.term_dict.proofs.dictionary.Dictionary.walk.Goals as goal

pub returns : goal.returns
returns g c =
    ap (λ rows. lists_of rows) (c.range.ensures.between tt)
    ∙ (rows_behind c.in_ok-start.start (option_copied c.args.after) c.self.inside.lists.entries c.in_ok-start.ensures
    ∙ ap (λ lists. rows_after (option_copied c.args.after) lists) c.self.view_is)
