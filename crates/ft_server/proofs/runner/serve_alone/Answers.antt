use Rattle.std.proofs.Common.{ℕ, subst}
use Rattle.ft_server.specs.Callers.{Answered, Called}
use Rattle.ft_server.specs.Passes.{LegalFrom}
use Rattle.ft_server.specs.Session.{told}
use Rattle.ft_server.proofs.CallerLaws.{answered_none, called_alone}
use Rattle.ft_server.proofs.EndingLaws.{ends_at_once}
use Rattle.ft_server.proofs.WeakerLaws.{all_answered_so, ends_so}
use Rattle.ft_server.proofs.runner.serve_alone.Goals as goal

pub serve_connection-requires-clause-prompt : goal.serve_connection-requires-clause-prompt
serve_connection-requires-clause-prompt g c later now moment of all =
    let made = c.in-Ok.ensures in
    c.requires.prompt now moment
    (all_answered_so (Called c.in-Ok.pass later) Answered
    (λ items given given' called. called_alone c.in-Ok.pass later items given given' made.pass.0 made.pass.1 made.pass.2 (subst (λ (n : ℕ). LegalFrom n later.seen) made.first of.1) called)
    (told g.L.Link g.C.Clock c.args.link.now c.args.clock.now) (told g.L.Link g.C.Clock now moment) all)

pub returns-in-Ok : goal.returns-in-Ok
returns-in-Ok g c =
    let made = c.in-Ok.ensures in
    let served = c.serve_connection.result.0 in
    ends_so (Called c.in-Ok.pass served) Answered
    (λ items given given' called. called_alone c.in-Ok.pass served items given given' made.pass.0 made.pass.1 made.pass.2 (subst (λ (n : ℕ). LegalFrom n served.seen) made.first c.serve_connection.ensures.of.1) called)
    c.serve_connection.result.1 _ _ c.serve_connection.ensures.ends

pub returns-in-Err : goal.returns-in-Err
returns-in-Err g c = ends_at_once Answered _ (answered_none _)
