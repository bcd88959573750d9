use Rattle.std.proofs.Common.{◌≡◌, ◌+◌, ◌++◌, ◌∙◌, ◌∷◌, [], Some, ap, arith, drop, rules, sym}
use Rattle.std.proofs.lemmas.Int.{to_z-of_z}
use Rattle.std.specs.Option.{option_copied}
use mir.Syntax.{w64}
use mir.Val.{SFits, of_z, to_z}
use Rattle.id_iters.specs.declared.list_name.ListName.TheVariants as names
use Rattle.ft_index.specs.Parting.{ahead, behind}
use Rattle.ft_index.specs.Picturing.{rows_named}
use Rattle.ft_index.specs.Snapshots.{RangeList}
use Rattle.ft_index.proofs.CollectLaws.{left-none}
use Rattle.ft_index.proofs.PartLaws.{takes-end, takes-front}
use Rattle.ft_index.proofs.PictureLaws.{row-left}
use Rattle.ft_index.proofs.parting.part_lows.Goals as goal

pub rows-preserved : goal.rows-preserved
rows-preserved g c rest =
    let rows = c.args.rows.now in
    let at = c.rows.at in
    let hand = option_copied c.args.hand in
    let fits : SFits w64 c.low.result = search rules in
    let low : c.low.result ≡ to_z w64 (of_z w64 c.low.result) = sym (to_z-of_z w64 c.low.result fits) in
    takes-front hand ((names.Range c.args.field (to_z w64 (of_z w64 c.low.result)), RangeList c.range.result.now) ∷ []) (rows_named c.args.field (drop (at + 1) rows)) c.rows.part c.part_row.new.part c.in_ok-part_row.ensures rest
    ∙ (ap (λ left. ahead c.rows.part (behind hand (rows_named c.args.field left) ++ rest)) (sym (row-left rows at (to_z w64 (of_z w64 c.low.result)) c.range.result.now (c.low.ensures ∙ ap Some low) c.range.ensures)) ∙ c.rows.invariant rest)

pub returns-clause-takes : goal.returns-clause-takes
returns-clause-takes g c =
    let rows = c.args.rows.now in
    let hand = option_copied c.args.hand in
    takes-end hand (rows_named c.args.field (drop c.rows.at rows)) (behind hand (rows_named c.args.field rows)) c.args.part.now c.rows.part
    (ap (rows_named c.args.field) (left-none rows c.rows.at (omega (arith, c.rows-test.false, c.count-at-end.ensures.count, c.rows.auto.at-end)))) c.rows.invariant
