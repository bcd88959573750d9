use Rattle.std.specs.Prelude.{◌≡◌, true, Option, OnOk, IfSome, refl, slice_index_or}
use Rattle.std.specs.Str.{bytes_eq}
use Rattle.std.proofs.Common.{ap, subst, sym, ◌∙◌}
use Rattle.std.proofs.Math.Seq.{map-set_same}
use Rattle.ft_index.specs.Index.{Index}
use Rattle.ft_index.proofs.ComingLaws.{came-prepared}
use Rattle.indexed_store.specs.Collecting.{IsClean}
use Rattle.indexed_store.specs.DefinitionsOf.{defined}
use Rattle.indexed_store.specs.Named.{is_named}
use Rattle.indexed_store.proofs.CollectingLaws.{in_step-collected}
use Rattle.indexed_store.proofs.ListedLaws.{found-passes, placed-others}
use Rattle.indexed_store.proofs.RepairingLaws.{found-at}
use Rattle.indexed_store.proofs.MovingLaws.{moves-one, moves_same}
use Rattle.indexed_store.proofs.NamedLaws.{none-taken, one-set, place-is}
use Rattle.indexed_store.proofs.collecting.collect_named.Goals as goal

pub returns-in_default-clause-clean : goal.returns-in_default-clause-clean
returns-in_default-clause-clean c = subst (λ (found : Option Index). IfSome found IsClean) (none-taken c.args.indexes.now c.args.name.now (sym c.in_default.ensures)) tt

pub returns-clause-clean : goal.returns-clause-clean
returns-clause-clean c =
    subst (λ (found : Option Index). OnOk c.collect.result (IfSome found IsClean))
    (sym (one-set c.args.indexes.now c.args.name.now c.in-Some.place c.index-indexes-place.result c.collect.new.self (sym c.in-Some.ensures) (ap (λ (index : Index). index.def) c.collect.ensures.lists)))
    c.collect.ensures.live

pub returns-clause-definitions : goal.returns-clause-definitions
returns-clause-definitions c = map-set_same defined c.args.indexes.now c.in-Some.place c.collect.new.self c.index-indexes-place.result (ap defined c.collect.ensures.lists)

pub returns-clause-kept : goal.returns-clause-kept
returns-clause-kept c store step =
    in_step-collected store c.args.indexes.now c.args.event c.in-Some.place c.index-indexes-place.result c.collect.new.self c.collect.new.markers
    (place-is (is_named c.args.name.now) c.args.indexes.now c.in-Some.place (sym c.in-Some.ensures)).1 c.collect.ensures.stands c.collect.ensures.lists c.collect.ensures.sound c.collect.ensures.before c.collect.ensures.gains
    c.collect.ensures.event step

pub returns-in_default-clause-moves : goal.returns-in_default-clause-moves
returns-in_default-clause-moves c = moves_same c.args.event c.args.indexes.now

pub returns-clause-moves : goal.returns-clause-moves
returns-clause-moves c =
    let was = c.index-indexes-place.result in
    let lists = c.collect.ensures.lists in
    moves-one c.args.event c.args.indexes.now c.in-Some.place was c.collect.new.self
    (place-is (is_named c.args.name.now) c.args.indexes.now c.in-Some.place (sym c.in-Some.ensures)).1
    (came-prepared c.args.event _ c.collect.new.self (ap (λ (index : Index). index.def) lists) (ap (λ (index : Index). index.table.live) lists) c.collect.ensures.comes)

pub returns-in_default-clause-others : goal.returns-in_default-clause-others
returns-in_default-clause-others c other apart = refl

pub returns-clause-others : goal.returns-clause-others
returns-clause-others c other apart =
    let was : Index = slice_index_or c.args.indexes.now c.in-Some.place c.index-indexes-place.result in
    let named : is_named c.args.name.now was ≡ true = found-passes (is_named c.args.name.now) c.args.indexes.now was (found-at (is_named c.args.name.now) c.args.indexes.now c.in-Some.place c.index-indexes-place.result (sym c.in-Some.ensures)) in
    let same : is_named c.args.name.now c.collect.new.self ≡ true = ap (λ (index : Index). bytes_eq c.args.name.now index.def.name) c.collect.ensures.lists ∙ named in
    placed-others c.args.indexes.now c.args.name.now other c.in-Some.place c.index-indexes-place.result c.collect.new.self (sym c.in-Some.ensures) same apart
