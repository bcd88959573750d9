use Rattle.std.specs.Prelude.{Option, Some, None, refl}
use Rattle.std.proofs.Common.{ap, subst, sym}
use Rattle.std.proofs.Math.Seq.{map-set_same}
use Rattle.ft_index.specs.Index.{Index}
use Rattle.ft_index.proofs.ComingLaws.{came-prepared}
use Rattle.indexed_store.specs.DefinitionsOf.{defined}
use Rattle.indexed_store.specs.Named.{is_named}
use Rattle.indexed_store.specs.Parting.{ScansPartOf}
use Rattle.indexed_store.proofs.HoldingLaws.{in_step-until}
use Rattle.indexed_store.proofs.MovingLaws.{moves-one, moves_same}
use Rattle.indexed_store.proofs.NamedLaws.{none-taken, one-set, place-is}
use Rattle.indexed_store.proofs.PartingLaws.{in_step-parted, next-behind, set-still}
use Rattle.indexed_store.proofs.RepairingLaws.{indexes-same, thin-set}
use Rattle.indexed_store.proofs.parting.scan_part.Goals as goal

pub returns-in_default-clause-taken : goal.returns-in_default-clause-taken
returns-in_default-clause-taken c = subst (λ (found : Option Index). ScansPartOf found c.args.event None) (none-taken c.args.indexes.now c.args.name.now (sym c.in_default.ensures)) refl

pub returns-in_default-clause-thin : goal.returns-in_default-clause-thin
returns-in_default-clause-thin c = indexes-same c.args.indexes.now

pub returns-in_default-clause-kept : goal.returns-in_default-clause-kept
returns-in_default-clause-kept c store step = in_step-until store c.args.indexes.now c.args.event _ (next-behind c.args.event c.requires.number) step

pub returns-in_default-clause-moves : goal.returns-in_default-clause-moves
returns-in_default-clause-moves c = moves_same c.args.event c.args.indexes.now

pub returns-in_err-taken-clause-definitions : goal.returns-in_err-taken-clause-definitions
returns-in_err-taken-clause-definitions c =
    map-set_same defined c.args.indexes.now c.in-Some.place c.scan_next.new.self c.index-indexes-place.result (ap defined c.scan_next.ensures.lists)

pub returns-in_err-taken-clause-thin : goal.returns-in_err-taken-clause-thin
returns-in_err-taken-clause-thin c =
    thin-set c.args.indexes.now c.in-Some.place c.index-indexes-place.result c.scan_next.new.self
    (place-is (is_named c.args.name.now) c.args.indexes.now c.in-Some.place (sym c.in-Some.ensures)).1 c.scan_next.ensures.thin

pub returns-in_err-taken-clause-last : goal.returns-in_err-taken-clause-last
returns-in_err-taken-clause-last c late =
    set-still c.args.indexes.now c.in-Some.place c.index-indexes-place.result c.scan_next.new.self (c.scan_next.ensures.still late).0

pub returns-in_err-taken-clause-kept : goal.returns-in_err-taken-clause-kept
returns-in_err-taken-clause-kept c store step =
    in_step-parted store c.args.indexes.now c.args.event c.in-Some.place c.index-indexes-place.result c.scan_next.new.self c.scan_next.new.markers c.requires.number
    (place-is (is_named c.args.name.now) c.args.indexes.now c.in-Some.place (sym c.in-Some.ensures)).1 c.scan_next.ensures.stands c.scan_next.ensures.lists c.scan_next.ensures.sound
    c.scan_next.ensures.before c.scan_next.ensures.gains c.scan_next.ensures.event (λ late. (c.scan_next.ensures.still late).0) step

pub returns-in_err-taken-clause-moves : goal.returns-in_err-taken-clause-moves
returns-in_err-taken-clause-moves c =
    let lists = c.scan_next.ensures.lists in
    moves-one c.args.event c.args.indexes.now c.in-Some.place c.index-indexes-place.result c.scan_next.new.self
    (place-is (is_named c.args.name.now) c.args.indexes.now c.in-Some.place (sym c.in-Some.ensures)).1
    (came-prepared c.args.event _ c.scan_next.new.self (ap (λ (index : Index). index.def) lists) (ap (λ (index : Index). index.table.live) lists) c.scan_next.ensures.comes)

pub returns-clause-taken : goal.returns-clause-taken
returns-clause-taken c =
    subst (λ (found : Option Index). ScansPartOf found c.args.event (Some c.in_ok-taken.taken))
    (sym (one-set c.args.indexes.now c.args.name.now c.in-Some.place c.index-indexes-place.result c.scan_next.new.self (sym c.in-Some.ensures)
    (ap (λ (index : Index). index.def) c.scan_next.ensures.lists)))
    (record { is = c.in_ok-taken.ensures.scanned; part = c.in_ok-taken.ensures.part })

pub returns-clause-definitions : goal.returns-clause-definitions
returns-clause-definitions c =
    map-set_same defined c.args.indexes.now c.in-Some.place c.scan_next.new.self c.index-indexes-place.result (ap defined c.scan_next.ensures.lists)

pub returns-clause-thin : goal.returns-clause-thin
returns-clause-thin c =
    thin-set c.args.indexes.now c.in-Some.place c.index-indexes-place.result c.scan_next.new.self
    (place-is (is_named c.args.name.now) c.args.indexes.now c.in-Some.place (sym c.in-Some.ensures)).1 c.scan_next.ensures.thin

pub returns-clause-last : goal.returns-clause-last
returns-clause-last c late =
    set-still c.args.indexes.now c.in-Some.place c.index-indexes-place.result c.scan_next.new.self (c.scan_next.ensures.still late).0

pub returns-clause-kept : goal.returns-clause-kept
returns-clause-kept c store step =
    in_step-parted store c.args.indexes.now c.args.event c.in-Some.place c.index-indexes-place.result c.scan_next.new.self c.scan_next.new.markers c.requires.number
    (place-is (is_named c.args.name.now) c.args.indexes.now c.in-Some.place (sym c.in-Some.ensures)).1 c.scan_next.ensures.stands c.scan_next.ensures.lists c.scan_next.ensures.sound
    c.scan_next.ensures.before c.scan_next.ensures.gains c.scan_next.ensures.event (λ late. (c.scan_next.ensures.still late).0) step

pub returns-clause-moves : goal.returns-clause-moves
returns-clause-moves c =
    let lists = c.scan_next.ensures.lists in
    moves-one c.args.event c.args.indexes.now c.in-Some.place c.index-indexes-place.result c.scan_next.new.self
    (place-is (is_named c.args.name.now) c.args.indexes.now c.in-Some.place (sym c.in-Some.ensures)).1
    (came-prepared c.args.event _ c.scan_next.new.self (ap (λ (index : Index). index.def) lists) (ap (λ (index : Index). index.table.live) lists) c.scan_next.ensures.comes)
