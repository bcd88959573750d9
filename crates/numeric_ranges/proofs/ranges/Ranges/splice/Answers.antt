use Rattle.std.proofs.Common.{◌≡◌, ℕ, Bool, ℤ, IfSome, IfNone, sym, subst}
use Rattle.std.proofs.lemmas.Int.{to_z-of_z}
use mir.Syntax.{w64}
use mir.Val.{to_z, of_z}
use Rattle.posting_block.specs.declared.hits.NumHit.{NumHit}
use Rattle.inverted_list.specs.declared.marker.Marker.{Marker}
use Rattle.gc_splice.specs.declared.repair.Repair.{Repair}
use Rattle.gc_splice.specs.declared.splice.Spliced.{Spliced}
use Rattle.gc_splice.specs.declared.splice.Spliced.TheVariants.{Gone}
use Rattle.gc_splice.specs.Splice.{Fits, picture_of}
use Rattle.numeric_ranges.specs.Ranges.{Rows, list_at}
use Rattle.numeric_ranges.specs.Rows.{rows_of}
use Rattle.numeric_ranges.specs.Splicing.{SplicesRange}
use Rattle.numeric_ranges.proofs.ranges.Ranges.splice.Goals as goal

pub splice_row-spliced-requires-clause-fits : goal.splice_row-spliced-requires-clause-fits
splice_row-spliced-requires-clause-fits c =
    let P : Rows → ℤ → Type 0 = λ rows low. IfSome (list_at rows low) (λ l. c.args.repair.now.seen ≡ l.marker → (live : ℕ → Bool) × Fits live c.args.repair.now (picture_of l)) in
    subst (λ (rows : Rows). P rows (to_z w64 (of_z w64 c.args.low))) (sym c.self.view_is) (subst (P c.args.self.now) (sym (to_z-of_z w64 c.args.low c.ranges.low)) c.requires)

-- what is said of the rows and the low that the callee was passed, of those of the ranges
gone_along : (rows : Rows) (v : ℤ) (view new : Rows) (low : ℤ) (outcome : Spliced) → rows ≡ view → v ≡ low
    → IfNone (list_at rows v) ((outcome ≡ Gone) × (new ≡ rows)) → IfNone (list_at view low) ((outcome ≡ Gone) × (new ≡ view))
gone_along rows v view new low outcome same at h =
    subst (λ (w : ℤ). IfNone (list_at view w) ((outcome ≡ Gone) × (new ≡ view))) at
    (subst (λ (r : Rows). IfNone (list_at r v) ((outcome ≡ Gone) × (new ≡ r))) same h)

there_along : (repair : Repair NumHit) (marker : Marker) (rows : Rows) (v : ℤ) (view new : Rows) (low : ℤ) (outcome : Spliced) → rows ≡ view → v ≡ low
    → IfSome (list_at rows v) (λ l. SplicesRange v repair marker l rows new outcome) → IfSome (list_at view low) (λ l. SplicesRange low repair marker l view new outcome)
there_along repair marker rows v view new low outcome same at h =
    subst (λ (w : ℤ). IfSome (list_at view w) (λ l. SplicesRange w repair marker l view new outcome)) at
    (subst (λ (r : Rows). IfSome (list_at r v) (λ l. SplicesRange v repair marker l r new outcome)) same h)

pub returns-in-Done-clause-gone : goal.returns-in-Done-clause-gone
returns-in-Done-clause-gone c =
    let new = rows_of c.splice_row-spliced.new.rows.items in
    subst (λ (o : Spliced). IfNone (list_at c.args.self.now c.args.low) ((o ≡ Gone) × (new ≡ c.args.self.now))) c.in-Done.is
    (gone_along (rows_of c.self.inside.rows.items) (to_z w64 (of_z w64 c.args.low)) c.args.self.now new c.args.low c.splice_row-spliced.result
    c.self.view_is (to_z-of_z w64 c.args.low c.ranges.low) c.splice_row-spliced.ensures.gone)

pub returns-in-Done-clause-there : goal.returns-in-Done-clause-there
returns-in-Done-clause-there c =
    let new = rows_of c.splice_row-spliced.new.rows.items in
    subst (λ (o : Spliced). IfSome (list_at c.args.self.now c.args.low) (λ l. SplicesRange c.args.low c.args.repair.now c.args.marker l c.args.self.now new o)) c.in-Done.is
    (there_along c.args.repair.now c.args.marker (rows_of c.self.inside.rows.items) (to_z w64 (of_z w64 c.args.low)) c.args.self.now new c.args.low c.splice_row-spliced.result
    c.self.view_is (to_z-of_z w64 c.args.low c.ranges.low) c.splice_row-spliced.ensures.there)

pub returns-in_default : goal.returns-in_default
returns-in_default c =
    let new = rows_of c.splice_row-spliced.new.rows.items in
    record {
      gone = gone_along (rows_of c.self.inside.rows.items) (to_z w64 (of_z w64 c.args.low)) c.args.self.now new c.args.low c.splice_row-spliced.result
          c.self.view_is (to_z-of_z w64 c.args.low c.ranges.low) c.splice_row-spliced.ensures.gone;
      there = there_along c.args.repair.now c.args.marker (rows_of c.self.inside.rows.items) (to_z w64 (of_z w64 c.args.low)) c.args.self.now new c.args.low c.splice_row-spliced.result
          c.self.view_is (to_z-of_z w64 c.args.low c.ranges.low) c.splice_row-spliced.ensures.there;
    }
