use Rattle.std.proofs.Common.{rules, not}
use Rattle.std.proofs.lemmas.Fn.{filter_same}
use Rattle.cursor_book.specs.Cursors.{has_id}
use Rattle.cursor_book.proofs.shelf.drop_id.Goals as goal

pub returns : goal.returns
returns c = filter_same _ (λ cursor. not (has_id c.args.id cursor)) _ (λ x b f' k. search rules) _ _ c.retain.ensures.filtered
