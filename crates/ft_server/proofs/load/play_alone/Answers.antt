use Rattle.std.proofs.Common.{ℕ, subst}
use Rattle.resp_wire.specs.Stream.{stream_of}
use Rattle.ft_server.specs.Passes.{LegalFrom}
use Rattle.ft_server.proofs.PlayingLaws.{loaded_alone}
use Rattle.ft_server.proofs.load.play_alone.Goals as goal

pub returns : goal.returns
returns g c =
    let made = c.in_ok-server.ensures in
    let played = c.in_ok-_pass.ensures in
    loaded_alone (stream_of c.args.decoder.now.left).commands c.in_ok-server.pass c.in_ok-_pass._pass c.in_ok-_pass.tally made.pass.0 made.pass.1 made.pass.2
    (subst (λ (n : ℕ). LegalFrom n c.in_ok-_pass._pass.seen) made.first played.of.1) played.played
