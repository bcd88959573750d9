use Rattle.std.proofs.Common.{◌≡◌, arith}
use Rattle.gc_splice.proofs.MendLaws.{stay_first}
use Rattle.gc_splice.proofs.mend.keep_block.Goals as goal

pub returns-else-kept-i-clause-first : goal.returns-else-kept-i-clause-first
returns-else-kept-i-clause-first g c =
    let same : c.args.i ≡ c.args.kept = omega (arith, c.requires.order, c.if-kept-i.false) in
    stay_first c.args.blocks.now.items c.args.kept c.args.i same c.requires.within
