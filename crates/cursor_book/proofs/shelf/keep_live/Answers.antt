use Rattle.std.proofs.Common.{rules}
use Rattle.std.proofs.lemmas.Fn.{filter_same}
use Rattle.cursor_book.specs.Cursors.{is_live}
use Rattle.cursor_book.proofs.shelf.keep_live.Goals as goal

pub returns : goal.returns
returns c = filter_same _ (is_live c.args.now) _ (λ x b f' k. search rules) _ _ c.retain.ensures.filtered
