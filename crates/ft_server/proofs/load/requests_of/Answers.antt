use Rattle.std.proofs.Common.{ap, ◌∙◌}
use Rattle.resp_wire.specs.Stream.{Stream}
use Rattle.ft_server.proofs.PlayingLaws.{load_left}
use Rattle.ft_server.proofs.load.requests_of.Goals as goal

pub returns-clause-commands : goal.returns-clause-commands
returns-clause-commands c =
    ap (λ (s : Stream). s.commands)
    (load_left c.args.seed c.args.docs c.in_ok-decoder.decoder.left c.as_slice.result.now c.feed.new.self.left c.requires.few (ap (λ d. d.left) c.in_ok-decoder.ensures)
    (c.as_slice.ensures.value ∙ c.in_ok-bytes.ensures) c.in_ok-feed.ensures.left)

pub returns-clause-stop : goal.returns-clause-stop
returns-clause-stop c =
    ap (λ (s : Stream). s.stop)
    (load_left c.args.seed c.args.docs c.in_ok-decoder.decoder.left c.as_slice.result.now c.feed.new.self.left c.requires.few (ap (λ d. d.left) c.in_ok-decoder.ensures)
    (c.as_slice.ensures.value ∙ c.in_ok-bytes.ensures) c.in_ok-feed.ensures.left)
