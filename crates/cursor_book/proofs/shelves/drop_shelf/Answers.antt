use Rattle.std.proofs.Common.{rules, not}
use Rattle.std.proofs.lemmas.Fn.{filter_same}
use Rattle.cursor_book.specs.Shelved.{has_serial}
use Rattle.cursor_book.proofs.shelves.drop_shelf.Goals as goal

pub returns : goal.returns
returns c = filter_same _ (λ shelf. not (has_serial c.args.serial shelf)) _ (λ x b f' k. search rules) _ _ c.retain.ensures.filtered
