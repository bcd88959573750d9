use Rattle.std.proofs.Common.{sym, arith}
use Rattle.doc_table.proofs.PlaceLaws.{word_is, word_missing}
use Rattle.doc_table.proofs.places.word_if_there.Goals as goal
use Rattle.doc_table.proofs.places.word_if_there.Goals.{else-at-pages-via-then-at-pages+else-pages-at, else-at-pages-via-else-at-pages}

pub returns-then-pages-at : goal.returns-then-pages-at
returns-then-pages-at c = sym (word_is _ _ c.args.pages.now c.args.number c.args.at c.requires.rises c.if-at-pages.true c.if-pages-at.true)

pub returns-else-at-pages : goal.returns-else-at-pages
returns-else-at-pages c =
    sym (word_missing _ _ c.args.pages.now c.args.number c.args.at c.requires.rises c.requires.below c.requires.above
    (elim c.else-at-pages.branch [ else-at-pages-via-then-at-pages+else-pages-at w ↦ (λ within. w.if-pages-at.false) | else-at-pages-via-else-at-pages w ↦ (λ within. absurd (omega (arith, within, w.if-at-pages.false))) ]))
