use Rattle.std.proofs.Common.{◌∙◌, ap, sym}
use Rattle.std.specs.Str.{bytes_eq}
use Rattle.indexmap.specs.IndexSet.{insert_key}
use Rattle.field_text.specs.Seen.{seen}
use Rattle.field_text.specs.Tags.{trim_back}
use Rattle.field_text.proofs.TagLaws.{seen-insert, piece_added}
use Rattle.field_text.proofs.tag_list.add_piece.Goals as goal

pub returns : goal.returns
returns c =
    ap seen c.in_ok-insert.ensures.keys
    ∙ (seen-insert c.args.found.now.keys c.in_ok-tag.tag
    ∙ (ap (insert_key bytes_eq (seen c.args.found.now.keys)) c.in_ok-tag.ensures
    ∙ piece_added c.args.case (seen c.args.found.now.keys) c.args.piece.now c.trim_back-tag.result.now (c.trim_back-tag.ensures ∙ ap trim_back c.trim_front.ensures) (sym c.is_empty.ensures ∙ c.if-is_empty.false)))
