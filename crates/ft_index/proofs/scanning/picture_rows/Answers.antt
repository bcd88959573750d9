use Rattle.std.proofs.Common.{◌≡◌, ◌+◌, ◌++◌, ◌∙◌, Some, ap, arith, drop, map, rules, sym}
use Rattle.std.proofs.lemmas.Int.{to_z-of_z}
use mir.Syntax.{w64}
use mir.Val.{SFits, of_z, to_z}
use Rattle.ft_index.specs.Picturing.{rows_named, shown}
use Rattle.ft_index.proofs.CollectLaws.{left-none}
use Rattle.ft_index.proofs.PictureLaws.{row-left, shown-end, shown-push}
use Rattle.ft_index.proofs.scanning.picture_rows.Goals as goal

pub rows-preserved : goal.rows-preserved
rows-preserved c =
    let rows = c.args.rows.now in
    let at = c.rows.at in
    let fits : SFits w64 c.low.result = search rules in
    let low : c.low.result ≡ to_z w64 (of_z w64 c.low.result) = sym (to_z-of_z w64 c.low.result fits) in
    shown-push c.rows.all c.push.new.self c.in_ok-range_picture.field-0 _ (rows_named c.args.field (drop (at + 1) rows)) c.in_ok-push.ensures.ok c.in_ok-range_picture.ensures
    ∙ (ap (λ left. map shown c.rows.all ++ rows_named c.args.field left) (sym (row-left rows at (to_z w64 (of_z w64 c.low.result)) c.range.result.now (c.low.ensures ∙ ap Some low) c.range.ensures)) ∙ c.rows.invariant)

pub returns-clause-named : goal.returns-clause-named
returns-clause-named c =
    let rows = c.args.rows.now in
    shown-end c.rows.all (rows_named c.args.field (drop c.rows.at rows)) _
    (ap (rows_named c.args.field) (left-none rows c.rows.at (omega (arith, c.rows-test.false, c.count-at-end.ensures.count, c.rows.auto.at-end)))) c.rows.invariant
