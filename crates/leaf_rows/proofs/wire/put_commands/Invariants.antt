use Rattle.std.proofs.Common.{◌≡◌}
use Rattle.resp_wire.specs.Decoding.{fed}
use Rattle.leaf_rows.proofs.wire.put_commands.Given as goal

abbrev pub invariant-taking : goal.invariant-taking
invariant-taking l = fed l.decoder ≡ fed l.fn.decoder
