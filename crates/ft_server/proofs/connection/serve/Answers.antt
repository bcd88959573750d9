use Rattle.std.proofs.Common.{refl, ap, subst, arith}
use Rattle.std.proofs.lemmas.List.Elements.{All-nil}
use Rattle.history_core.specs.Running.{AreLawful}
use Rattle.ft_server.specs.Serving.{LeadsOn}
use Rattle.ft_server.specs.Session.{Outside, told}
use Rattle.ft_server.proofs.ServingLaws.{begins}
use Rattle.ft_server.proofs.EndingLaws.{all_answered}
use Rattle.ft_server.proofs.connection.serve.Goals as goal

pub serving-init : goal.serving-init
serving-init g c = record {
  of = c.requires.of;
  going = begins c.args.buffers.now.decoder c.args.buffers.now.session c.args.pass _ (ap (λ d. d.taken) c.requires.decoder) (ap (λ d. d.left) c.requires.decoder) c.requires.session;
  counted = rw c.requires.decoder refl;
  few = omega arith;
  room = c.requires.reply;
  buffer = c.requires.input;
  queue = rw c.requires.session (All-nil AreLawful);
}

pub step-later-requires-clause-turn : goal.step-later-requires-clause-turn
step-later-requires-clause-turn g c holds few =
    c.requires.prompt c.serving.pass c.serving.link c.serving.clock c.serving.invariant.of
    (all_answered c.serving.buffers.decoder c.serving.buffers.session c.args.pass c.serving.pass _ _ c.serving.total holds.left c.serving.invariant.going holds.waits (omega (arith, c.serving.invariant.counted)) few)

pub returns-in-Err-clause-ends : goal.returns-in-Err-clause-ends
returns-in-Err-clause-ends g c =
    let before : Outside = told g.L.Link g.C.Clock c.args.link.now c.args.clock.now in
    let after : Outside = told g.L.Link g.C.Clock c.step-later.new.link c.step-later.new.clock in
    subst (λ went. LeadsOn went c.step-later.new.buffers.decoder c.step-later.new.buffers.session c.args.pass c.step-later.result.0 before after) c.in-Err.is
    (c.step-later.ensures.leads c.args.pass before c.serving.invariant.going)
