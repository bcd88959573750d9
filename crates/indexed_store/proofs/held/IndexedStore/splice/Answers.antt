use Rattle.std.specs.Prelude.{◌≡◌, ◌+◌, ◌≤◌, ◌++◌, List, drop, length, refl, take}
use Rattle.std.proofs.Common.{◌∙◌, ap, arith, subst, sym}
use Rattle.std.proofs.lemmas.List.{take_at}
use Rattle.std.specs.List.{All}
use Rattle.ft_index.specs.Index.{Index}
use Rattle.ft_index.specs.Markers.{AreBefore}
use Rattle.indexed_store.proofs.ChangingLaws.{lent-step, whole-step}
use Rattle.indexed_store.proofs.CursorsLaws.{book-until}
use Rattle.indexed_store.proofs.HoldingLaws.{in_step-until}
use Rattle.indexed_store.proofs.RepairingLaws.{lent-back}
use Rattle.indexed_store.specs.DefinitionsOf.{definitions_of}
use Rattle.indexed_store.specs.Holding.{Holding}
use Rattle.indexed_store.specs.Moving.{IndexesMove}
use Rattle.indexed_store.specs.Standing.{markers_at}
use Rattle.indexed_store.specs.Repairing.{FitsSerial, IndexesThin, SplicesSerial, splice_marker}
use Rattle.indexed_store.proofs.held.IndexedStore.splice.Goals as goal

pub invariant_of-self : goal.invariant_of-self
invariant_of-self c =
    let store = c.self.inside.store in
    let number = c.args.number in
    let items = c.self.inside.indexes.items in
    let len = c.self.inside.indexes.len in
    let now = c.splice_serial.new.indexes in
    let more : c.self.inside.next ≤ number = omega (arith, c.requires.earlier, ap (λ (h : Holding). h.next) c.self.view_is) in
    let whole : length now ≡ len = omega (arith, c.splice_serial.auto.indexes, c.as_mut_slice.ensures.len) in
    let step = in_step-until store items c.self.inside.next number more c.self.invariant.step in
    let lent = lent-step store c.as_mut_slice.result.now items number number c.as_mut_slice.ensures.value refl step in record {
      step = whole-step store len items now (number + 1) (number + 1) whole refl (c.splice_serial.ensures.kept store lent);
      kept = book-until c.self.inside.opens c.self.inside.cursors c.self.inside.next (number + 1) (omega (arith, more)) c.self.invariant.kept;
      few = omega (arith, ap length (take_at now (drop (length now) items) len whole), c.splice_serial.auto.indexes, ap length c.as_mut_slice.ensures.value, c.self.invariant.few);
      room = c.self.invariant.room;
      ids = c.self.invariant.ids;
    }

pub splice_serial-requires-clause-before : goal.splice_serial-requires-clause-before
splice_serial-requires-clause-before c =
    let number = c.args.number in
    let more : c.self.inside.next ≤ number = omega (arith, c.requires.earlier, ap (λ (h : Holding). h.next) c.self.view_is) in
    let step = in_step-until c.self.inside.store c.self.inside.indexes.items c.self.inside.next number more c.self.invariant.step in
    subst (All (λ (index : Index). AreBefore (markers_at number) index.lists)) (sym c.as_mut_slice.ensures.value) (λ k d short. (step.stand k d short).before)

pub splice_serial-requires-clause-fits : goal.splice_serial-requires-clause-fits
splice_serial-requires-clause-fits c =
    subst (λ (xs : List Index). FitsSerial c.args.serial xs c.args.name.now c.args.repair.now) (sym (c.as_mut_slice.ensures.value ∙ ap (λ (h : Holding). h.indexes) c.self.view_is)) c.requires.fits

pub returns-clause-splices : goal.returns-clause-splices
returns-clause-splices c =
    let now = c.splice_serial.new.indexes in
    let whole : length now ≡ c.self.inside.indexes.len = omega (arith, c.splice_serial.auto.indexes, c.as_mut_slice.ensures.len) in
    lent-back (λ olds news. SplicesSerial c.args.serial c.args.name.now c.args.repair.now (splice_marker c.args.number) olds news c.splice_serial.result) c.args.self.now.indexes c.self.inside.indexes.items
    c.as_mut_slice.result.now now c.self.inside.indexes.len whole c.as_mut_slice.ensures.value (ap (λ (h : Holding). h.indexes) c.self.view_is) c.splice_serial.ensures.splices

pub returns-clause-still : goal.returns-clause-still
returns-clause-still c =
    let in_ = c.self.inside in
    let now = c.splice_serial.new.indexes in
    ap (λ (h : Holding). record h { indexes = take in_.indexes.len (now ++ drop (length now) in_.indexes.items); next = c.args.number + 1 }) c.self.view_is

pub returns-clause-definitions : goal.returns-clause-definitions
returns-clause-definitions c =
    let now = c.splice_serial.new.indexes in
    let whole : length now ≡ c.self.inside.indexes.len = omega (arith, c.splice_serial.auto.indexes, c.as_mut_slice.ensures.len) in
    lent-back (λ olds news. definitions_of news ≡ definitions_of olds) c.args.self.now.indexes c.self.inside.indexes.items
    c.as_mut_slice.result.now now c.self.inside.indexes.len whole c.as_mut_slice.ensures.value (ap (λ (h : Holding). h.indexes) c.self.view_is) c.splice_serial.ensures.definitions

pub returns-clause-thin : goal.returns-clause-thin
returns-clause-thin c =
    let now = c.splice_serial.new.indexes in
    let whole : length now ≡ c.self.inside.indexes.len = omega (arith, c.splice_serial.auto.indexes, c.as_mut_slice.ensures.len) in
    lent-back IndexesThin c.args.self.now.indexes c.self.inside.indexes.items
    c.as_mut_slice.result.now now c.self.inside.indexes.len whole c.as_mut_slice.ensures.value (ap (λ (h : Holding). h.indexes) c.self.view_is) c.splice_serial.ensures.thin

pub returns-clause-moves : goal.returns-clause-moves
returns-clause-moves c =
    let now = c.splice_serial.new.indexes in
    let whole : length now ≡ c.self.inside.indexes.len = omega (arith, c.splice_serial.auto.indexes, c.as_mut_slice.ensures.len) in
    lent-back (IndexesMove c.args.number) c.args.self.now.indexes c.self.inside.indexes.items
    c.as_mut_slice.result.now now c.self.inside.indexes.len whole c.as_mut_slice.ensures.value (ap (λ (h : Holding). h.indexes) c.self.view_is) c.splice_serial.ensures.moves
