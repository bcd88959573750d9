use Rattle.std.proofs.lemmas.Result.{IfOk-weaker}
use Rattle.std.specs.Prelude.{string_bytes}
use Rattle.ft_server.proofs.PlayingLaws.{lines_are}
use Rattle.ft_server.proofs.tally.Tally.lines.Goals as goal

pub returns : goal.returns
returns c replies counts = IfOk-weaker c.format.result _ _ (λ text is. lines_are c.args.self.now replies (string_bytes text) counts is) c.format.ensures.ok
