use Rattle.std.proofs.Common.{◌≡◌, ℤ, IfSome, IfNone, subst}
use Rattle.std.proofs.lemmas.Int.{to_z-of_z}
use mir.Syntax.{w64}
use mir.Val.{to_z, of_z}
use Rattle.numeric_ranges.specs.Ranges.{Rows, list_at}
use Rattle.numeric_ranges.specs.Rows.{rows_of}
use Rattle.numeric_ranges.specs.Splicing.{CollectsRange}
use Rattle.numeric_ranges.proofs.ranges.Ranges.collect.Goals as goal

pub returns-in_err-dead-clause-gone : goal.returns-in_err-dead-clause-gone
returns-in_err-dead-clause-gone g c =
    let new = rows_of c.collect_row.new.rows.items in
    let P : Rows → ℤ → Type 0 = λ rows low. IfNone (list_at rows low) ((new ≡ rows) × (c.collect_row.new.markers ≡ c.args.markers.now)) in
    subst (P c.args.self.now) (to_z-of_z w64 c.args.low c.ranges.low) (subst (λ (rows : Rows). P rows (to_z w64 (of_z w64 c.args.low))) c.self.view_is c.collect_row.ensures.gone)

pub returns-clause-gone : goal.returns-clause-gone
returns-clause-gone g c =
    let new = rows_of c.collect_row.new.rows.items in
    let P : Rows → ℤ → Type 0 = λ rows low. IfNone (list_at rows low) ((new ≡ rows) × (c.collect_row.new.markers ≡ c.args.markers.now)) in
    subst (P c.args.self.now) (to_z-of_z w64 c.args.low c.ranges.low) (subst (λ (rows : Rows). P rows (to_z w64 (of_z w64 c.args.low))) c.self.view_is c.collect_row.ensures.gone)

pub returns-clause-there : goal.returns-clause-there
returns-clause-there g c =
    let new = rows_of c.collect_row.new.rows.items in
    let P : Rows → ℤ → Type 0 = λ rows low. IfSome (list_at rows low) (λ l. CollectsRange (g.L.Live.is c.args.live.now) low c.args.markers.now l rows new c.collect_row.new.markers) in
    subst (P c.args.self.now) (to_z-of_z w64 c.args.low c.ranges.low) (subst (λ (rows : Rows). P rows (to_z w64 (of_z w64 c.args.low))) c.self.view_is c.in_ok-dead.ensures.there)
