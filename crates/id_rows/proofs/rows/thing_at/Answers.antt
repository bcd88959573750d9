use Rattle.std.proofs.Common.{◌∙◌, ap, sym}
use Rattle.id_rows.specs.IdRows.{thing_of}
use Rattle.id_rows.proofs.PlaceLaws.{read_is, found_at, missing, at_from, not_at_from}
use Rattle.id_rows.proofs.rows.thing_at.Goals as goal

pub returns-then-is_at : goal.returns-then-is_at
returns-then-is_at g c =
    let here = at_from g.T.HasId.id_of c.args.rows.now c.args.id c.args.at (sym c.is_at.ensures ∙ c.if-is_at.true) in
    c.thing.ensures
    ∙ (ap thing_of (sym (read_is g.T.HasId.id_of c.args.rows.now c.args.at c.index-rows-at.result c.index-rows-at.is here.0))
    ∙ sym (found_at g.T.HasId.id_of 0 c.args.rows.now c.args.id c.args.at c.requires.rises here.0 here.1))

pub returns : goal.returns
returns g c = sym (missing g.T.HasId.id_of c.args.rows.now c.args.id c.args.at c.requires.rises c.requires.place (not_at_from g.T.HasId.id_of c.args.rows.now c.args.id c.args.at (sym c.is_at.ensures ∙ c.if-is_at.false)))
