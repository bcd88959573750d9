use Rattle.std.specs.Prelude.{◌≡◌, ◌++◌, ◌≤◌, ℕ, List, drop, length, take}
use Rattle.std.proofs.Common.{◌∙◌, ap, arith, refl, subst, sym}
use Rattle.std.proofs.lemmas.List.{take_at}
use Rattle.std.proofs.lemmas.Result.{IfOk-weaker}
use Rattle.std.specs.List.{All}
use Rattle.ft_index.specs.Index.{Index}
use Rattle.ft_index.specs.Markers.{AreBefore}
use Rattle.ft_machine.specs.Step.{last_number, next_number}
use Rattle.indexed_store.proofs.ChangingLaws.{lent-step, whole-step}
use Rattle.indexed_store.proofs.CursorsLaws.{book-until}
use Rattle.indexed_store.proofs.HoldingLaws.{in_step-until}
use Rattle.indexed_store.proofs.PartingLaws.{next-behind}
use Rattle.indexed_store.proofs.RepairingLaws.{lent-back}
use Rattle.indexed_store.specs.DefinitionsOf.{definitions_of}
use Rattle.indexed_store.specs.Holding.{Holding, holding_of}
use Rattle.indexed_store.specs.Moving.{IndexesMove}
use Rattle.indexed_store.specs.Parting.{ScansPart}
use Rattle.indexed_store.specs.Repairing.{IndexesThin}
use Rattle.indexed_store.specs.Standing.{markers_at}
use Rattle.indexed_store.proofs.held.IndexedStore.scan_next.Goals as goal

pub invariant_of-self : goal.invariant_of-self
invariant_of-self c =
    let store = c.self.inside.store in
    let number = c.args.number in
    let items = c.self.inside.indexes.items in
    let len = c.self.inside.indexes.len in
    let now = c.scan_part.new.indexes in
    let more : c.self.inside.next ≤ number = omega (arith, c.requires.earlier, ap (λ (h : Holding). h.next) c.self.view_is) in
    let behind : number ≤ next_number number = next-behind number c.requires.number in
    let next : c.min-self-inside.result ≡ next_number number = omega (arith, c.min-self-inside.ensures) in
    let whole : length now ≡ len = omega (arith, c.scan_part.auto.indexes, c.as_mut_slice.ensures.len) in
    let step = in_step-until store items c.self.inside.next number more c.self.invariant.step in
    let lent = lent-step store c.as_mut_slice.result.now items number number c.as_mut_slice.ensures.value refl step in record {
      step = whole-step store len items now c.min-self-inside.result (next_number number) whole next (c.scan_part.ensures.kept store lent);
      kept = book-until c.self.inside.opens c.self.inside.cursors c.self.inside.next c.min-self-inside.result (omega (arith, more, behind, next)) c.self.invariant.kept;
      few = omega (arith, ap length (take_at now (drop (length now) items) len whole), c.scan_part.auto.indexes, ap length c.as_mut_slice.ensures.value, c.self.invariant.few);
      room = c.self.invariant.room;
      ids = c.self.invariant.ids;
    }

pub scan_part-requires-clause-before : goal.scan_part-requires-clause-before
scan_part-requires-clause-before c =
    let number = c.args.number in
    let more : c.self.inside.next ≤ number = omega (arith, c.requires.earlier, ap (λ (h : Holding). h.next) c.self.view_is) in
    let step = in_step-until c.self.inside.store c.self.inside.indexes.items c.self.inside.next number more c.self.invariant.step in
    subst (All (λ (index : Index). AreBefore (markers_at number) index.lists)) (sym c.as_mut_slice.ensures.value) (λ k d short. (step.stand k d short).before)

pub returns-clause-taken : goal.returns-clause-taken
returns-clause-taken c =
    let now = c.scan_part.new.indexes in
    let items = c.self.inside.indexes.items in
    let whole : length now ≡ c.self.inside.indexes.len = omega (arith, c.scan_part.auto.indexes, c.as_mut_slice.ensures.len) in
    IfOk-weaker c.scan_part.result _ _ (λ taken scans. subst (λ (xs : List Index). ScansPart c.args.name.now xs c.args.number taken) (sym (take_at now (drop (length now) items) c.self.inside.indexes.len whole)) scans)
    c.scan_part.ensures.taken

pub returns-clause-still : goal.returns-clause-still
returns-clause-still c =
    let in_ = c.self.inside in
    let now = c.scan_part.new.indexes in
    let next : c.min-self-inside.result ≡ next_number c.args.number = omega (arith, c.min-self-inside.ensures) in
    ap (λ (n : ℕ). holding_of in_.store (take in_.indexes.len (now ++ drop (length now) in_.indexes.items)) in_.cursors in_.opens in_.latest n) next
    ∙ ap (λ (h : Holding). record h { indexes = take in_.indexes.len (now ++ drop (length now) in_.indexes.items); next = next_number c.args.number }) c.self.view_is

pub returns-clause-definitions : goal.returns-clause-definitions
returns-clause-definitions c =
    let now = c.scan_part.new.indexes in
    let whole : length now ≡ c.self.inside.indexes.len = omega (arith, c.scan_part.auto.indexes, c.as_mut_slice.ensures.len) in
    lent-back (λ olds news. definitions_of news ≡ definitions_of olds) c.args.self.now.indexes c.self.inside.indexes.items
    c.as_mut_slice.result.now now c.self.inside.indexes.len whole c.as_mut_slice.ensures.value (ap (λ (h : Holding). h.indexes) c.self.view_is) c.scan_part.ensures.definitions

pub returns-clause-thin : goal.returns-clause-thin
returns-clause-thin c =
    let now = c.scan_part.new.indexes in
    let whole : length now ≡ c.self.inside.indexes.len = omega (arith, c.scan_part.auto.indexes, c.as_mut_slice.ensures.len) in
    lent-back IndexesThin c.args.self.now.indexes c.self.inside.indexes.items
    c.as_mut_slice.result.now now c.self.inside.indexes.len whole c.as_mut_slice.ensures.value (ap (λ (h : Holding). h.indexes) c.self.view_is) c.scan_part.ensures.thin

pub returns-clause-last : goal.returns-clause-last
returns-clause-last c =
    let now = c.scan_part.new.indexes in
    let whole : length now ≡ c.self.inside.indexes.len = omega (arith, c.scan_part.auto.indexes, c.as_mut_slice.ensures.len) in
    lent-back (λ olds news. last_number ≤ c.args.number → news ≡ olds) c.args.self.now.indexes c.self.inside.indexes.items
    c.as_mut_slice.result.now now c.self.inside.indexes.len whole c.as_mut_slice.ensures.value (ap (λ (h : Holding). h.indexes) c.self.view_is) c.scan_part.ensures.last

pub returns-clause-moves : goal.returns-clause-moves
returns-clause-moves c =
    let now = c.scan_part.new.indexes in
    let whole : length now ≡ c.self.inside.indexes.len = omega (arith, c.scan_part.auto.indexes, c.as_mut_slice.ensures.len) in
    lent-back (IndexesMove c.args.number) c.args.self.now.indexes c.self.inside.indexes.items
    c.as_mut_slice.result.now now c.self.inside.indexes.len whole c.as_mut_slice.ensures.value (ap (λ (h : Holding). h.indexes) c.self.view_is) c.scan_part.ensures.moves
