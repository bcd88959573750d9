use Rattle.std.proofs.Common.{List, Some, length, subst, sym}
use Rattle.std.specs.Prelude.{Option}
use Rattle.std.specs.List.{All}
use Rattle.ft_index.specs.declared.snapshots.Snapshot.{Snapshot}
use Rattle.ft_engine.specs.Pictures.{IsGoodShown, Shown}
use Rattle.ft_engine.specs.Stepping.{ScansAt}
use Rattle.ft_engine.proofs.PictureLaws.{all-shown, good-moves, good-scanned}
use Rattle.ft_engine.proofs.machine.EngineMachine.scan.Goals as goal

pub returns-in_err-snapshot-clause-keeps : goal.returns-in_err-snapshot-clause-keeps
returns-in_err-snapshot-clause-keeps c = λ picture good. good-moves c.args.self.now c.scan.new.self picture c.scan.ensures.moves good

pub returns-in_err-lists_of-in-Some-clause-keeps : goal.returns-in_err-lists_of-in-Some-clause-keeps
returns-in_err-lists_of-in-Some-clause-keeps c = λ picture good. good-moves c.args.self.now c.scan.new.self picture c.scan.ensures.moves good

pub returns-in_ok-lists_of-in-Some-clause-good : goal.returns-in_ok-lists_of-in-Some-clause-good
returns-in_ok-lists_of-in-Some-clause-good c =
    let snapshot : Snapshot = c.in-Some.snapshot in
    let taken : ScansAt c.args.index.now c.args.self.now (Some snapshot) = subst (λ (o : Option Snapshot). ScansAt c.args.index.now c.args.self.now o) c.in-Some.is c.in_ok-snapshot.ensures.taken in
    subst (λ (lists : List Shown). All (λ (shown : Shown). IsGoodShown shown c.scan.new.self) lists) (sym c.in_ok-lists_of-in-Some.ensures)
    (all-shown (λ (shown : Shown). IsGoodShown shown c.scan.new.self) snapshot (length snapshot.lists)
    (λ place. good-scanned c.args.self.now c.scan.new.self c.args.index.now snapshot place c.requires.ready (taken, c.scan.ensures.still, c.scan.ensures.indexed)))

pub returns-in_ok-lists_of-in-Some-clause-keeps : goal.returns-in_ok-lists_of-in-Some-clause-keeps
returns-in_ok-lists_of-in-Some-clause-keeps c = λ picture good. good-moves c.args.self.now c.scan.new.self picture c.scan.ensures.moves good

pub returns-in-None-clause-keeps : goal.returns-in-None-clause-keeps
returns-in-None-clause-keeps c = λ picture good. good-moves c.args.self.now c.scan.new.self picture c.scan.ensures.moves good
