use Rattle.std.specs.Prelude.{◌≡◌, ℕ, Some, ◌<◌, ◌≤◌, ◌+◌, ◌⊎◌, slice_index_or, slice_set, length}
use Rattle.ft_base.specs.declared.definition.IndexDef.{IndexDef}
use Rattle.ft_index.specs.Fits.{fit_of}
use Rattle.indexed_store.specs.DefinitionsOf.{defined}
use Rattle.std.proofs.Common.{ap, arith, inl, inr, sym, subst, ◌∙◌}
use Rattle.std.proofs.Math.Seq.{map-set_same}
use Rattle.inverted_list.proofs.ReachLaws.{le_or_lt}
use Rattle.indexed_store.specs.Indexing.{Awaits}
use Rattle.indexed_store.specs.Standing.{IndexStands}
use Rattle.ft_index.specs.Index.{Index}
use Rattle.indexed_store.proofs.ApartLaws.{apart-prepared}
use Rattle.indexed_store.proofs.IndexingLaws.{all-set, prepared, set-above, set-below, stands-later}
use Rattle.ft_index.proofs.ComingLaws.{came-prepared}
use Rattle.ft_index.specs.Coming.{ListsCome}
use Rattle.indexed_store.specs.Listed.{unentered}
use Rattle.indexed_store.proofs.ListedLaws.{entered-one}
use Rattle.indexed_store.proofs.MovingLaws.{moves-again, moves-one}
use Rattle.indexed_store.proofs.indexes.prepare_all.Goals as goal

same_defined : (old new : Index) → new.def ≡ old.def → new.failures ≡ old.failures → defined new ≡ defined old
same_defined old new def failures = ap (λ (d : IndexDef). record { def = d; failures = new.failures }) def ∙ ap (λ (n : ℕ). record { def = old.def; failures = n }) failures

pub returns-in_err-prepare-clause-stand : goal.returns-in_err-prepare-clause-stand
returns-in_err-prepare-clause-stand g c =
    let at = c.loop-index.index-index in
    let within : at < length c.loop-index.indexes = omega (arith, c.loop-index-test.true, c.loop-index.auto.indexes) in
    let before = c.loop-index.invariant.left at c.index-item.result (omega arith) within in
    let here = prepared g.space c.args.doc.now.id c.prepare.new.markers c.prepare.new.self (c.prepare.ensures.unseen g.space before.documents) c.prepare.ensures.sound c.prepare.ensures.last c.prepare.ensures.before in
    let later : (c.loop-index.markers.event < c.prepare.new.markers.event) ⊎ ((c.loop-index.markers.event ≡ c.prepare.new.markers.event) × (c.loop-index.markers.next ≤ c.prepare.new.markers.next)) =
    inr (sym c.prepare.ensures.event, c.prepare.ensures.next) in
    all-set (IndexStands g.space (c.args.doc.now.id + 1) c.prepare.new.markers) c.loop-index.indexes at c.prepare.new.self within here
    (λ k d apart short. elim (le_or_lt at k) [
      | inl more ↦ stands-later g.space c.args.doc.now.id (c.args.doc.now.id + 1) c.loop-index.markers c.prepare.new.markers (slice_index_or c.loop-index.indexes k d) (omega arith) later (c.loop-index.invariant.left k d more short)
      | inr less ↦ stands-later g.space (c.args.doc.now.id + 1) (c.args.doc.now.id + 1) c.loop-index.markers c.prepare.new.markers (slice_index_or c.loop-index.indexes k d) (omega arith) later (c.loop-index.invariant.done k d less).0
    ])

pub returns-in_err-prepare-clause-apart : goal.returns-in_err-prepare-clause-apart
returns-in_err-prepare-clause-apart g c =
    let at = c.loop-index.index-index in
    let within : at < length c.loop-index.indexes = omega (arith, c.loop-index-test.true, c.loop-index.auto.indexes) in
    apart-prepared c.loop-index.indexes at c.index-item.result c.prepare.new.self c.loop-index.markers c.prepare.new.markers within c.prepare.ensures.gains
    (λ k d short. elim (le_or_lt at k) [ inl more ↦ (c.loop-index.invariant.left k d more short).before | inr less ↦ (c.loop-index.invariant.done k d less).0.before ]) c.loop-index.invariant.apart

pub returns-in_err-prepare-clause-definitions : goal.returns-in_err-prepare-clause-definitions
returns-in_err-prepare-clause-definitions g c =
    map-set_same defined c.loop-index.indexes c.loop-index.index-index c.prepare.new.self c.index-item.result (same_defined (slice_index_or c.loop-index.indexes c.loop-index.index-index c.index-item.result) c.prepare.new.self c.prepare.ensures.def c.prepare.ensures.failures)
    ∙ c.loop-index.invariant.definitions

pub loop-index-preserved : goal.loop-index-preserved
loop-index-preserved g c =
    let at = c.loop-index.index-index in
    let within : at < length c.loop-index.indexes = omega (arith, c.loop-index-test.true, c.loop-index.auto.indexes) in
    let before = c.loop-index.invariant.left at c.index-item.result (omega arith) within in
    let here = prepared g.space c.args.doc.now.id c.prepare.new.markers c.prepare.new.self (c.prepare.ensures.unseen g.space before.documents) c.prepare.ensures.sound c.prepare.ensures.last c.prepare.ensures.before in
    let waits : Awaits g.space c.args.doc.now c.prepare.new.self = record {
      waits = c.in_ok-prepare.ensures.waits ∙ ap Some (c.in_ok-prepare.ensures.ready ∙ ap (λ (d : IndexDef). record { id = c.args.doc.now.id; fit = fit_of d c.args.doc.now }) (sym c.prepare.ensures.def));
      seen = c.in_ok-prepare.ensures.seen g.space before.documents;
    } in
    let later : (c.loop-index.markers.event < c.prepare.new.markers.event) ⊎ ((c.loop-index.markers.event ≡ c.prepare.new.markers.event) × (c.loop-index.markers.next ≤ c.prepare.new.markers.next)) =
    inr (sym c.prepare.ensures.event, c.prepare.ensures.next) in
    record {
      done = λ k d less. set-below (λ index. IndexStands g.space (c.args.doc.now.id + 1) c.prepare.new.markers index × Awaits g.space c.args.doc.now index) c.loop-index.indexes at c.prepare.new.self within (here, waits)
          (λ j e below. let done = c.loop-index.invariant.done j e below in
          (stands-later g.space (c.args.doc.now.id + 1) (c.args.doc.now.id + 1) c.loop-index.markers c.prepare.new.markers (slice_index_or c.loop-index.indexes j e) (omega arith) later done.0, done.1)) k d (omega (arith, less));
      left = λ k d more short. set-above (IndexStands g.space c.args.doc.now.id c.prepare.new.markers) c.loop-index.indexes at c.prepare.new.self
          (λ j e above there. stands-later g.space c.args.doc.now.id c.args.doc.now.id c.loop-index.markers c.prepare.new.markers (slice_index_or c.loop-index.indexes j e) (omega arith) later (c.loop-index.invariant.left j e (omega (arith, above)) there)) k d (omega (arith, more)) short;
      definitions = map-set_same defined c.loop-index.indexes at c.prepare.new.self c.index-item.result (same_defined (slice_index_or c.loop-index.indexes c.loop-index.index-index c.index-item.result) c.prepare.new.self c.prepare.ensures.def c.prepare.ensures.failures)
          ∙ c.loop-index.invariant.definitions;
      enters = map-set_same (unentered c.args.doc.now) c.loop-index.indexes at c.prepare.new.self c.index-item.result
          (entered-one c.args.doc.now _ (slice_index_or c.loop-index.indexes c.loop-index.index-index c.index-item.result) c.prepare.new.self c.prepare.ensures.def c.in_ok-prepare.ensures.ready c.in_ok-prepare.ensures.others)
          ∙ c.loop-index.invariant.enters;
      apart = apart-prepared c.loop-index.indexes at c.index-item.result c.prepare.new.self c.loop-index.markers c.prepare.new.markers within c.prepare.ensures.gains
          (λ k d short. elim (le_or_lt at k) [ inl more ↦ (c.loop-index.invariant.left k d more short).before | inr less ↦ (c.loop-index.invariant.done k d less).0.before ]) c.loop-index.invariant.apart;
      event = c.prepare.ensures.event ∙ c.loop-index.invariant.event;
      moves = moves-again c.args.markers.now.event c.args.markers.now.event c.args.indexes.now c.loop-index.indexes (slice_set c.loop-index.indexes c.loop-index.index-index c.prepare.new.self) (omega arith) c.loop-index.invariant.moves
          (moves-one c.args.markers.now.event c.loop-index.indexes c.loop-index.index-index c.index-item.result c.prepare.new.self within
          (came-prepared c.args.markers.now.event (slice_index_or c.loop-index.indexes c.loop-index.index-index c.index-item.result) c.prepare.new.self c.prepare.ensures.def c.prepare.ensures.live
          (subst (λ (event : ℕ). ListsCome event (slice_index_or c.loop-index.indexes c.loop-index.index-index c.index-item.result).lists c.prepare.new.self.lists) c.loop-index.invariant.event c.prepare.ensures.comes)));
    }

pub returns-in_err-prepare-clause-moves : goal.returns-in_err-prepare-clause-moves
returns-in_err-prepare-clause-moves g c =
    let within : c.loop-index.index-index < length c.loop-index.indexes = omega (arith, c.loop-index-test.true, c.loop-index.auto.indexes) in
    moves-again c.args.markers.now.event c.args.markers.now.event c.args.indexes.now c.loop-index.indexes (slice_set c.loop-index.indexes c.loop-index.index-index c.prepare.new.self) (omega arith) c.loop-index.invariant.moves
    (moves-one c.args.markers.now.event c.loop-index.indexes c.loop-index.index-index c.index-item.result c.prepare.new.self within
    (came-prepared c.args.markers.now.event (slice_index_or c.loop-index.indexes c.loop-index.index-index c.index-item.result) c.prepare.new.self c.prepare.ensures.def c.prepare.ensures.live
    (subst (λ (event : ℕ). ListsCome event (slice_index_or c.loop-index.indexes c.loop-index.index-index c.index-item.result).lists c.prepare.new.self.lists) c.loop-index.invariant.event c.prepare.ensures.comes)))
