use Rattle.std.proofs.Common.{length}
use Rattle.posting_block.proofs.leb.+skip_leb.Given as goal

abbrev pub decreases-skip_leb : goal.decreases-skip_leb
decreases-skip_leb l = length l.bytes.now
