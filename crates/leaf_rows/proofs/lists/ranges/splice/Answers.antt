use mir.Syntax.{w64}
use mir.Val.{of_z, to_z}
use Rattle.std.proofs.Common.{ℤ, IfSome, sym, subst}
use Rattle.std.proofs.lemmas.Int.{to_z-of_z}
use Rattle.leaf_rows.specs.Splicing.{IsRepairOf, live_but}
use Rattle.numeric_ranges.specs.Ranges.{list_at}
use Rattle.leaf_rows.proofs.SplicingLaws.{fits-some}
use Rattle.leaf_rows.proofs.lists.ranges.splice.Goals as goal

pub splice-requires : goal.splice-requires
splice-requires c =
    let live = live_but c.args.dead.now.ids.now in
    let there = subst (λ (low : ℤ). IfSome (list_at c.args.ranges.now low) (λ l. IsRepairOf live l c.args.repair)) (sym (to_z-of_z w64 c.args.low c.ranges.low)) c.requires in
    fits-some live (list_at c.args.ranges.now (to_z w64 (of_z w64 c.args.low))) c.args.repair there
