use Rattle.std.proofs.Common.{arith, ◌-◌, length}
use Rattle.doc_table.proofs.PlaceLaws.{number_apart, below_before, above_behind}
use Rattle.doc_table.proofs.places.place_of.Goals as goal

pub returns-then-number-first-clause-above : goal.returns-then-number-first-clause-above
returns-then-number-first-clause-above c = above_behind _ _ c.args.pages.now c.args.number 0 c.requires c.if-number-first.true

pub returns-then-last-number-clause-below : goal.returns-then-last-number-clause-below
returns-then-last-number-clause-below c =
    λ k within. below_before _ _ c.args.pages.now c.args.number (length c.args.pages.now - 1) c.requires (omega arith) c.if-last-number.true k (omega arith)

pub place_between-requires-clause-below : goal.place_between-requires-clause-below
place_between-requires-clause-below c =
    λ k before. omega (arith, c.min-behind.ensures, c.if-last-number.false, number_apart _ _ c.args.pages.now k (length c.args.pages.now - 1) c.requires (omega arith) (omega arith))

pub place_between-requires-clause-above : goal.place_between-requires-clause-above
place_between-requires-clause-above c =
    λ k behind within. omega (arith, c.min-ahead.ensures, c.if-number-first.false, number_apart _ _ c.args.pages.now 0 k c.requires (omega arith) within)
