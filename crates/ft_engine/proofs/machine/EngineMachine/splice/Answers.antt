use Rattle.std.proofs.Common.{◌≡◌, Some, ap, option_copied, subst, sym, ◌∙◌}
use Rattle.std.specs.Prelude.{Option, ℕ}
use Rattle.doc_table.specs.Pages.{has_id}
use Rattle.ft_index.specs.declared.snapshots.NamedPicture.{NamedPicture}
use Rattle.indexed_store.specs.Repairing.{FitsSerial}
use Rattle.ft_engine.specs.Pictures.{RepairsAt, named_at}
use Rattle.ft_engine.specs.Stepping.{SplicesAt}
use Rattle.ft_engine.proofs.PictureLaws.{fits-now, good-moves}
use Rattle.ft_engine.proofs.SplicedLaws.{splices-by}
use Rattle.ft_engine.proofs.machine.EngineMachine.splice.Goals as goal

pub splice-requires-clause-fits : goal.splice-requires-clause-fits
splice-requires-clause-fits c =
    let shown = c.args.picture.now in
    let here : named_at shown ≡ Some c.in-Some.named.now = sym c.named_list.ensures ∙ ap option_copied c.in-Some.is in
    subst (λ (serial : ℕ). FitsSerial serial c.args.self.now.indexes c.in-Some.named.now.name c.args.repair) (sym c.serial_of-serial.ensures)
    (fits-now c.args.self.now shown.snapshot c.in-Some.named.now c.args.repair (c.requires.good c.in-Some.named.now here)
    (subst (λ (o : Option NamedPicture). RepairsAt (has_id shown.snapshot.live) o c.args.repair) here c.requires.repairs))

pub returns-in-Some-clause-splices : goal.returns-in-Some-clause-splices
returns-in-Some-clause-splices c =
    let shown = c.args.picture.now in
    let here : named_at shown ≡ Some c.in-Some.named.now = sym c.named_list.ensures ∙ ap option_copied c.in-Some.is in
    let done = c.splice.ensures in
    splices-by c.args.self.now c.splice.new.self shown.snapshot shown.place c.in-Some.named.now c.args.repair c.splice.result here (c.requires.good c.in-Some.named.now here)
    (subst (λ (o : Option NamedPicture). RepairsAt (has_id shown.snapshot.live) o c.args.repair) here c.requires.repairs)
    (subst (λ (serial : ℕ). SplicesAt serial c.in-Some.named.now.name c.args.repair c.args.self.now c.splice.new.self c.splice.result) c.serial_of-serial.ensures done.splices) done.last done.still done.thin done.indexed

pub returns-in-Some-clause-keeps : goal.returns-in-Some-clause-keeps
returns-in-Some-clause-keeps c = λ picture good. good-moves c.args.self.now c.splice.new.self picture c.splice.ensures.moves good

pub returns-clause-splices : goal.returns-clause-splices
returns-clause-splices c =
    absurd (subst (λ (o : Option NamedPicture). RepairsAt (has_id c.args.picture.now.snapshot.live) o c.args.repair) (sym c.named_list.ensures ∙ ap option_copied c.in-None.is) c.requires.repairs)
