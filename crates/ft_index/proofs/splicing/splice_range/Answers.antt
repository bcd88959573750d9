use Rattle.std.proofs.Common.{◌≡◌, ◌<◌, ℕ, ℤ, IfSome, Option, arith, length, rules, set, slice_index_or, sym, subst}
use Rattle.std.proofs.lemmas.Int.{to_z-of_z}
use mir.Syntax.{w64}
use mir.Val.{SFits, of_z, to_z}
use Rattle.numeric_ranges.specs.Ranges.{Rows}
use Rattle.ft_index.specs.Lists.{list_from, rows_of}
use Rattle.ft_index.specs.Splicing.{SplicesSlot}
use Rattle.ft_index.proofs.SlotLaws.{rows-here, rows-set_here}
use Rattle.ft_index.proofs.splicing.splice_range.Goals as goal

pub returns-clause-there : goal.returns-clause-there
returns-clause-there c =
    let ranges = c.args.ranges.now in
    let number = c.from-number.result in
    let slot = c.splice_slot.new.slot in
    let is : number ≡ c.args.field = c.from-number.ensures in
    let within : number < length ranges = omega (arith, c.if-ranges-number.false) in
    let fits : SFits w64 c.args.low = search rules in
    let same : to_z w64 (of_z w64 c.args.low) ≡ c.args.low = to_z-of_z w64 c.args.low fits in
    let there = subst (λ (v : ℤ). IfSome (list_from (slice_index_or ranges number c.index-ranges-number.result) v) (λ l.
    SplicesSlot v c.args.repair.now c.args.marker l (slice_index_or ranges number c.index-ranges-number.result) slot c.splice_slot.result)) same c.splice_slot.ensures.there in
    let There : Option Rows → Option Rows → Type 0 = λ old new. IfSome (list_from old c.args.low) (λ l. SplicesSlot c.args.low c.args.repair.now c.args.marker l old new c.splice_slot.result) in
    subst (λ (n : ℕ). There (rows_of ranges n) (rows_of (set ranges number slot) n)) is
    (subst (λ (old : Option Rows). There old (rows_of (set ranges number slot) number)) (sym (rows-here ranges number c.index-ranges-number.result within))
    (subst (There (slice_index_or ranges number c.index-ranges-number.result)) (sym (rows-set_here ranges number slot within)) there))
