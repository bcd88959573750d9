use Rattle.std.proofs.Common.{◌≡◌, ℤ, OnOk, IfSome, IfNone, rules, subst}
use Rattle.std.proofs.lemmas.Int.{to_z-of_z}
use Rattle.std.proofs.lemmas.Result.{on_ok_weaker}
use mir.Syntax.{w64}
use mir.Val.{SFits, of_z, to_z}
use Rattle.numeric_ranges.specs.Ranges.{list_at}
use Rattle.numeric_ranges.specs.Splicing.{CollectsRange}
use Rattle.ft_index.proofs.RowLaws.{RowCollected, row-collected, row-live, row-others, row-takes, row-thin}
use Rattle.ft_index.proofs.collecting_ranges.collect_row.Goals as goal

pub returns-clause-thin : goal.returns-clause-thin
returns-clause-thin g c =
    let live = g.L.Live.is c.args.live.now in
    let old = c.args.rows.now in
    let new = c.collect.new.self in
    let from = c.args.markers.now in
    let to = c.collect.new.markers in
    let fits : SFits w64 c.args.low = search rules in
    let same : to_z w64 (of_z w64 c.args.low) ≡ c.args.low = to_z-of_z w64 c.args.low fits in
    let there = subst (λ (v : ℤ). OnOk c.collect.result (IfSome (list_at old v) (λ l. CollectsRange live v from l old new to))) same c.collect.ensures.there in
    let gone = subst (λ (v : ℤ). IfNone (list_at old v) ((new ≡ old) × (to ≡ from))) same c.collect.ensures.gone in
    let collected : RowCollected live c.args.low old new from to = row-collected live c.args.low old new from to c.collect.result there gone c.collect.ensures.err in
    row-thin live c.args.low old new from to collected

pub returns-clause-here : goal.returns-clause-here
returns-clause-here g c =
    let live = g.L.Live.is c.args.live.now in
    let old = c.args.rows.now in
    let new = c.collect.new.self in
    let from = c.args.markers.now in
    let to = c.collect.new.markers in
    let fits : SFits w64 c.args.low = search rules in
    let same : to_z w64 (of_z w64 c.args.low) ≡ c.args.low = to_z-of_z w64 c.args.low fits in
    let there = subst (λ (v : ℤ). OnOk c.collect.result (IfSome (list_at old v) (λ l. CollectsRange live v from l old new to))) same c.collect.ensures.there in
    let gone = subst (λ (v : ℤ). IfNone (list_at old v) ((new ≡ old) × (to ≡ from))) same c.collect.ensures.gone in
    on_ok_weaker c.collect.result (λ some. row-live live c.args.low old new from to some gone) there

pub returns-clause-others : goal.returns-clause-others
returns-clause-others g c =
    let live = g.L.Live.is c.args.live.now in
    let old = c.args.rows.now in
    let new = c.collect.new.self in
    let from = c.args.markers.now in
    let to = c.collect.new.markers in
    let fits : SFits w64 c.args.low = search rules in
    let same : to_z w64 (of_z w64 c.args.low) ≡ c.args.low = to_z-of_z w64 c.args.low fits in
    let there = subst (λ (v : ℤ). OnOk c.collect.result (IfSome (list_at old v) (λ l. CollectsRange live v from l old new to))) same c.collect.ensures.there in
    let gone = subst (λ (v : ℤ). IfNone (list_at old v) ((new ≡ old) × (to ≡ from))) same c.collect.ensures.gone in
    let collected : RowCollected live c.args.low old new from to = row-collected live c.args.low old new from to c.collect.result there gone c.collect.ensures.err in
    row-others live c.args.low old new from to collected

pub returns-clause-takes : goal.returns-clause-takes
returns-clause-takes g c =
    let live = g.L.Live.is c.args.live.now in
    let old = c.args.rows.now in
    let new = c.collect.new.self in
    let from = c.args.markers.now in
    let to = c.collect.new.markers in
    let fits : SFits w64 c.args.low = search rules in
    let same : to_z w64 (of_z w64 c.args.low) ≡ c.args.low = to_z-of_z w64 c.args.low fits in
    let there = subst (λ (v : ℤ). OnOk c.collect.result (IfSome (list_at old v) (λ l. CollectsRange live v from l old new to))) same c.collect.ensures.there in
    let gone = subst (λ (v : ℤ). IfNone (list_at old v) ((new ≡ old) × (to ≡ from))) same c.collect.ensures.gone in
    let collected : RowCollected live c.args.low old new from to = row-collected live c.args.low old new from to c.collect.result there gone c.collect.ensures.err in
    row-takes live c.args.low old new from to c.requires.before collected
