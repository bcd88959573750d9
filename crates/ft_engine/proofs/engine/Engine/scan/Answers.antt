use Rattle.std.proofs.Common.{◌∙◌, ap, subst}
use Rattle.std.proofs.lemmas.Result.{IfOk-weaker}
use Rattle.ft_engine.proofs.EventLaws.{counted-still}
use Rattle.ft_engine.proofs.MovesLaws.{moves-still}
use Rattle.ft_engine.specs.Stands.{Stands, stands_of}
use Rattle.ft_engine.specs.Stepping.{Moves, ScansAt}
use Rattle.ft_engine.proofs.engine.Engine.scan.Goals as goal

pub returns-clause-taken : goal.returns-clause-taken
returns-clause-taken c = IfOk-weaker c.scan-taken.result _ _ (λ taken scans. subst (λ (e : Stands). ScansAt c.args.name.now e taken) c.self.view_is scans) c.scan-taken.ensures.taken

pub returns-clause-still : goal.returns-clause-still
returns-clause-still c =
    c.end.ensures.ended
    ∙ counted-still c.self.inside.held c.self.inside.next c.self.inside.pending c.self.inside.last c.args.self.now (ap (λ (e : Stands). e.pending) c.self.view_is ∙ c.requires.free) c.self.view_is

pub returns-clause-moves : goal.returns-clause-moves
returns-clause-moves c =
    subst (λ (e : Stands). Moves e c.end.new.self) c.self.view_is
    (moves-still (stands_of c.self.inside.held c.self.inside.next c.self.inside.pending c.self.inside.last) c.end.new.self c.end.ensures.later (ap (λ (e : Stands). e.indexes) c.end.ensures.ended))
