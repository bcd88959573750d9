use Rattle.std.proofs.Common.{◌≡◌, ◌+◌, ◌-◌, ◌≤◌, length}
use Rattle.resp_wire.specs.Decoding.{fed}
use Rattle.leaf_rows.proofs.wire.feed.Given as goal

abbrev pub invariant-feeding : goal.invariant-feeding
invariant-feeding l = record {
  within : l.from ≤ length l.bytes;
  counted : fed l.decoder ≡ fed l.fn.decoder + l.from;
}

abbrev pub decreases-feeding : goal.decreases-feeding
decreases-feeding l = length l.bytes - l.from
