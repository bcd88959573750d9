use Rattle.std.specs.Prelude.{Option, IfSome, slice_set, refl}
use Rattle.std.proofs.Common.{ap, subst, sym, arith, inr}
use Rattle.std.proofs.Math.Seq.{map-set_same}
use Rattle.ft_index.specs.Index.{Index, is_live}
use Rattle.ft_index.specs.Splicing.{FitsName}
use Rattle.ft_index.proofs.ComingLaws.{came-prepared}
use Rattle.gc_splice.specs.declared.splice.Spliced.TheVariants.{Gone}
use Rattle.indexed_store.specs.DefinitionsOf.{defined}
use Rattle.indexed_store.specs.Named.{has_serial}
use Rattle.indexed_store.specs.Repairing.{SplicesFound, splice_marker}
use Rattle.indexed_store.specs.Standing.{markers_at}
use Rattle.indexed_store.proofs.CollectingLaws.{in_step-collected}
use Rattle.indexed_store.proofs.IndexingLaws.{are_before-later}
use Rattle.indexed_store.proofs.MovingLaws.{moves-one, moves_same}
use Rattle.indexed_store.proofs.NamedLaws.{place-is}
use Rattle.indexed_store.proofs.RepairingLaws.{found-at, indexes-same, marker-gained, marker-new, markers_behind, none-found, set-serial, thin-set}
use Rattle.indexed_store.proofs.StepLaws.{in_step-later}
use Rattle.indexed_store.proofs.repairing.splice_serial.Goals as goal

pub splice-requires-clause-fits : goal.splice-requires-clause-fits
splice-requires-clause-fits c =
    subst (λ (found : Option Index). IfSome found (λ index. FitsName (is_live index) index.lists c.args.name.now c.args.repair.now))
    (found-at (has_serial c.args.serial) c.args.indexes.now c.in-Some.place c.index-indexes-place.result (sym c.in-Some.ensures)) c.requires.fits

pub splice-requires-clause-fresh : goal.splice-requires-clause-fresh
splice-requires-clause-fresh c =
    marker-new c.args.event _
    (c.requires.before c.in-Some.place c.index-indexes-place.result (place-is (has_serial c.args.serial) c.args.indexes.now c.in-Some.place (sym c.in-Some.ensures)).1)

pub returns-in_default-clause-splices : goal.returns-in_default-clause-splices
returns-in_default-clause-splices c =
    subst (λ (found : Option Index). SplicesFound found c.args.serial c.args.name.now c.args.repair.now (splice_marker c.args.event) c.args.indexes.now c.args.indexes.now Gone)
    (sym (none-found (has_serial c.args.serial) c.args.indexes.now (sym c.in_default.ensures))) (refl, refl)

pub returns-in_default-clause-thin : goal.returns-in_default-clause-thin
returns-in_default-clause-thin c = indexes-same c.args.indexes.now

pub returns-in_default-clause-kept : goal.returns-in_default-clause-kept
returns-in_default-clause-kept c store step = in_step-later store c.args.indexes.now c.args.event step

pub returns-in_default-clause-moves : goal.returns-in_default-clause-moves
returns-in_default-clause-moves c = moves_same c.args.event c.args.indexes.now

pub returns-clause-splices : goal.returns-clause-splices
returns-clause-splices c =
    let place = c.in-Some.place in
    let indexes = c.args.indexes.now in
    let new = c.splice.new.self in
    subst (λ (found : Option Index). SplicesFound found c.args.serial c.args.name.now c.args.repair.now (splice_marker c.args.event) indexes (slice_set indexes place new) c.splice.result)
    (sym (found-at (has_serial c.args.serial) indexes place c.index-indexes-place.result (sym c.in-Some.ensures)))
    (new, set-serial indexes c.args.serial place new (sym c.in-Some.ensures), record { splices = c.splice.ensures.splices; rest = c.splice.ensures.lists })

pub returns-clause-definitions : goal.returns-clause-definitions
returns-clause-definitions c = map-set_same defined c.args.indexes.now c.in-Some.place c.splice.new.self c.index-indexes-place.result (ap defined c.splice.ensures.lists)

pub returns-clause-thin : goal.returns-clause-thin
returns-clause-thin c =
    thin-set c.args.indexes.now c.in-Some.place c.index-indexes-place.result c.splice.new.self
    (place-is (has_serial c.args.serial) c.args.indexes.now c.in-Some.place (sym c.in-Some.ensures)).1 c.splice.ensures.thin

pub returns-clause-kept : goal.returns-clause-kept
returns-clause-kept c store step =
    let event = c.args.event in
    let was = c.index-indexes-place.result in
    let within = (place-is (has_serial c.args.serial) c.args.indexes.now c.in-Some.place (sym c.in-Some.ensures)).1 in
    let before = are_before-later (markers_at event) (markers_behind event) _ (inr (refl, omega arith)) (c.requires.before c.in-Some.place was within) in
    in_step-collected store c.args.indexes.now event c.in-Some.place was c.splice.new.self (markers_behind event) within c.splice.ensures.stands c.splice.ensures.lists c.splice.ensures.sound
    (c.splice.ensures.before (markers_behind event) (inr (refl, omega arith)) before) (marker-gained event _ c.splice.new.self.lists c.splice.ensures.gains) refl step

pub returns-clause-moves : goal.returns-clause-moves
returns-clause-moves c =
    let was = c.index-indexes-place.result in
    let lists = c.splice.ensures.lists in
    moves-one c.args.event c.args.indexes.now c.in-Some.place was c.splice.new.self (place-is (has_serial c.args.serial) c.args.indexes.now c.in-Some.place (sym c.in-Some.ensures)).1
    (came-prepared c.args.event _ c.splice.new.self (ap (λ (index : Index). index.def) lists) (ap (λ (index : Index). index.table.live) lists) c.splice.ensures.comes)
