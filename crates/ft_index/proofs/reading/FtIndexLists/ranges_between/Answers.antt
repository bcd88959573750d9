use mir.Syntax.{w64}
use mir.Val.{of_z, to_z}
use Rattle.std.proofs.Common.{◌≡◌, true, ℤ, Option, Some, ap, sym, subst, ◌∙◌}
use Rattle.std.proofs.lemmas.Int.{to_z-of_z}
use Rattle.std.specs.Option.{option_copied}
use Rattle.id_iters.specs.Named.{lies_at}
use Rattle.numeric_ranges.specs.Ranges.{Rows, meets}
use Rattle.ft_index.specs.Lists.{AllLists, lows_of, rows_of}
use Rattle.ft_index.proofs.ReadingLaws.{meets-at}
use Rattle.ft_index.proofs.reading.FtIndexLists.ranges_between.Goals as goal

pub returns-in-Some-clause-met : goal.returns-in-Some-clause-met
returns-in-Some-clause-met c = λ place number from to lies.
    let there : rows_of c.args.self.now.lists.ranges c.args.field ≡ Some c.in-Some.ranges.now =
    ap (λ (lists : AllLists). rows_of lists.ranges c.args.field) (sym c.lists.ensures) ∙ sym c.ranges_of.ensures ∙ ap option_copied c.in-Some.is in
    let here = subst (λ (rows : Option Rows). lies_at (lows_of rows) place number ≡ true) there lies in
    let at = meets-at c.in-Some.ranges.now place c.args.low c.args.high number from to here in
    let from_low = subst (λ (n : ℤ). meets c.in-Some.ranges.now place n c.args.high ≡ true) (sym (to_z-of_z w64 c.args.low c.ranges.low)) at.1 in
    let to_high = subst (λ (n : ℤ). meets c.in-Some.ranges.now place (to_z w64 (of_z w64 c.args.low)) n ≡ true) (sym (to_z-of_z w64 c.args.high c.ranges.high)) from_low in
    (c.between.ensures.met place at.0).1 to_high
