use Rattle.std.proofs.Common.{◌≡◌, take, length}
use Rattle.posting_block.specs.Rising.{last_id}
use Rattle.posting_block.specs.Spelled.{spelling}
use Rattle.gc_splice.specs.Alive.{alive}
use Rattle.gc_splice.proofs.keep.keep_in.Given as goal

abbrev pub invariant-entries : goal.invariant-entries
invariant-entries g l = (l.kept ≡ alive (g.L.Live.is l.live) (take l.index l.block))
    × (l.at ≡ length (spelling g.P.Payload.spelled 0 (take l.index l.block)))
    × (l.before ≡ last_id 0 (take l.index l.block))
