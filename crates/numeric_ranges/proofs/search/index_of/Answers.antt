use Rattle.std.proofs.Common.{◌≡◌, ◌<◌, ◌-◌, ℤ, suc, ap, sym, ◌∙◌, arith, length}
use Rattle.std.proofs.lemmas.Int.{to_z-of_z}
use mir.Syntax.{w64}
use mir.Val.{of_z}
use Rattle.posting_block.specs.declared.hits.NumHit.{NumHit}
use Rattle.inverted_list.specs.Listing.{Listing}
use Rattle.numeric_ranges.specs.declared.row.Row.{Row}
use Rattle.numeric_ranges.specs.Rows.{rows_of, reach}
use Rattle.numeric_ranges.proofs.ReachLaws.{list_none, list_other, seen, row_seen}
use Rattle.numeric_ranges.proofs.search.index_of.Goals as goal

pub returns-then-end-eq0-clause-none : goal.returns-then-end-eq0-clause-none
returns-then-end-eq0-clause-none c =
    let rows = rows_of c.args.rows.now in
    let here = c.reach-end.ensures.reach ∙ ap (λ (v : ℤ). reach v rows) (to_z-of_z w64 c.args.low c.ranges.low) in
    list_none c.args.low rows c.requires.rises (sym here ∙ c.if-end-eq0.true)

pub returns-else-rows-at-clause-none : goal.returns-else-rows-at-clause-none
returns-else-rows-at-clause-none c =
    let rows = rows_of c.args.rows.now in
    let here : c.reach-end.result ≡ reach c.args.low rows = c.reach-end.ensures.reach ∙ ap (λ (v : ℤ). reach v rows) (to_z-of_z w64 c.args.low c.ranges.low) in
    let at = c.reach-end.result - 1 in
    let row = c.index-rows-at.result in
    let less : at < length c.args.rows.now = omega (arith, c.reach-end.ensures.within, c.if-end-eq0.false) in
    let found : reach c.args.low rows ≡ suc at = omega (arith, here, c.if-end-eq0.false) in
    list_other c.args.low rows at (seen row) c.requires.rises found
    (λ same. absurd (c.if-rows-at.false (ap (λ (r : Row). of_z w64 r.low) (sym c.index-rows-at.is)
    ∙ ap (of_z w64) (sym (ap (λ (r : ℤ × Listing NumHit). r.0) (row_seen c.args.rows.now at (seen row) row less c.index-rows-at.is)) ∙ same))))
