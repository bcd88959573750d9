use Rattle.std.proofs.Common.{◌≡◌, List, Ok, ap, subst, sym, ℕ}
use Rattle.cmd_parse.specs.Read.{read}
use Rattle.cmd_parse.specs.Reading.{command_of}
use Rattle.ft_machine.proofs.Stepping.{obeyed}
use Rattle.ft_machine.specs.Machine.{State}
use Rattle.ft_machine.specs.Step.{At, outcomes}
use Rattle.ft_engine.specs.Stands.{IsIndexed, Stands}
use Rattle.ft_engine.specs.Commands.{WordsTell}
use Rattle.ft_engine.specs.Exactness.{IsRefusal, TellsExactly}
use Rattle.indexed_store.specs.Collecting.{IsCleanAt}
use Rattle.ft_engine.proofs.CleaningLaws.{command-keeps, keeps-clean, refused-collects, refused-tells, refused-text}
use Rattle.ft_engine.proofs.EngineLaws.{indexed}
use Rattle.ft_engine.proofs.CollectionLaws.{collects-kept}
use Rattle.ft_engine.proofs.MovesLaws.{moves-twice}
use Rattle.ft_engine.specs.Collecting.{Collects}
use Rattle.cmd_parse.specs.Asked.{Asked}
use Rattle.ft_engine.proofs.engine.Engine.exec.Goals as goal

pub returns-in-Ok-clause-answer : goal.returns-in-Ok-clause-answer
returns-in-Ok-clause-answer c =
    let asks = command_of c.in-Ok.command in
    let next = c.args.self.now.next in
    let here : read c.self.inside.next c.args.words ≡ Ok asks = subst (λ (words : List (List ℕ)). read c.self.inside.next words ≡ Ok asks) c.rest.ensures c.in-Ok.ensures.exact in
    let is : read next c.args.words ≡ Ok asks = subst (λ (n : ℕ). read n c.args.words ≡ Ok asks) (ap (λ (e : Stands). e.next) c.self.view_is) here in
    obeyed c.args.words next c.args.now asks c.args.self.now.state c.commit.new.self.state c.prepare-prepared.new.out.items is
    (subst (λ (s : State). At next c.args.now (outcomes asks next) c.args.self.now.state c.prepare-prepared.new.out.items s) (sym c.commit.ensures.state) c.prepare-prepared.ensures.answer)

pub returns-in-Ok-clause-moves : goal.returns-in-Ok-clause-moves
returns-in-Ok-clause-moves c = moves-twice c.args.self.now c.prepare-prepared.new.self c.commit.new.self c.prepare-prepared.ensures.moves c.commit.ensures.moves

pub returns-in-Ok-clause-collects : goal.returns-in-Ok-clause-collects
returns-in-Ok-clause-collects c asks reads =
    let command = command_of c.in-Ok.command in
    let next = c.args.self.now.next in
    let here : read c.self.inside.next c.args.words ≡ Ok command = subst (λ (words : List (List ℕ)). read c.self.inside.next words ≡ Ok command) c.rest.ensures c.in-Ok.ensures.exact in
    let is : read next c.args.words ≡ Ok command = subst (λ (n : ℕ). read n c.args.words ≡ Ok command) (ap (λ (e : Stands). e.next) c.self.view_is) here in
    let same : command ≡ asks = cc (is, reads) in
    subst (λ (a : Asked). Collects a c.commit.new.self.indexes c.prepare-prepared.new.out.items) same
    (collects-kept command _ c.prepare-prepared.new.self.indexes c.commit.new.self.indexes c.prepare-prepared.new.out.items c.prepare-prepared.ensures.quiet c.commit.ensures.kept c.prepare-prepared.ensures.collects)

pub returns-in-Ok-clause-clean : goal.returns-in-Ok-clause-clean
returns-in-Ok-clause-clean c =
    let command = command_of c.in-Ok.command in
    let inside = c.self.inside in
    let old = c.args.self.now in
    let mid = c.prepare-prepared.new.self in
    let new = c.commit.new.self in
    let written = c.prepare-prepared.new.out.items in
    let ready = c.prepare-prepared.ensures in
    let here : read inside.next c.args.words ≡ Ok command = subst (λ (words : List (List ℕ)). read inside.next words ≡ Ok command) c.rest.ensures c.in-Ok.ensures.exact in
    let is : read old.next c.args.words ≡ Ok command = subst (λ (n : ℕ). read n c.args.words ≡ Ok command) (ap (λ (e : Stands). e.next) c.self.view_is) here in
    let tells : WordsTell old.next c.args.words old.indexes written = λ asks reads. let same : command ≡ asks = cc (is, reads) in subst (λ (a : Asked). TellsExactly a old.indexes written) same ready.records in
    let stood : IsIndexed old = subst IsIndexed c.self.view_is (indexed inside.held inside.next inside.pending inside.last c.stand.ensures.keys c.stand.ensures.stand c.self.invariant.earlier) in
    keeps-clean c.args.words old.next c.args.now old new written stood tells (returns-in-Ok-clause-collects c) (returns-in-Ok-clause-answer c)
    (λ name known same was. command-keeps command _ c.args.now old mid new written name stood ready.indexed c.commit.ensures.indexed ready.state ready.last.documents ready.last.ready ready.still ready.quiet
    c.commit.ensures.state c.commit.ensures.lists c.commit.ensures.kept known same was)

pub returns-in-Err-clause-clean : goal.returns-in-Err-clause-clean
returns-in-Err-clause-clean c =
    let inside = c.self.inside in
    let old = c.args.self.now in
    let new = c.refuse.new.self in
    let written = c.refuse.new.out.items in
    let refused : IsRefusal written = refused-text old.next c.args.words _ written c.refuse.ensures.text c.refuse.ensures.last in
    let stood : IsIndexed old = subst IsIndexed c.self.view_is (indexed inside.held inside.next inside.pending inside.last c.stand.ensures.keys c.stand.ensures.stand c.self.invariant.earlier) in
    keeps-clean c.args.words old.next c.args.now old new written stood (refused-tells old.next c.args.words old.indexes written refused) (refused-collects old.next c.args.words new.indexes written refused)
    c.refuse.ensures.answer (λ name known same was. subst (IsCleanAt name) (sym c.refuse.ensures.lists) was)
