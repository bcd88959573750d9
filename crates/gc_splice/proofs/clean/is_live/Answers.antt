use Rattle.std.proofs.Common.{arith, sym}
use Rattle.gc_splice.proofs.AliveLaws.{all_counted, not_all}
use Rattle.gc_splice.proofs.clean.is_live.Goals as goal

pub returns-then-live_in-len : goal.returns-then-live_in-len
returns-then-live_in-len g c =
    sym (not_all (g.L.Live.is c.args.live.now) c.args.block.now (omega (arith, c.live_in.ensures.live, c.len.ensures.len, c.if-live_in-len.true)))

pub returns : goal.returns
returns g c =
    sym (all_counted (g.L.Live.is c.args.live.now) c.args.block.now (omega (arith, c.live_in.ensures.live, c.live_in.ensures.few, c.len.ensures.len, c.if-live_in-len.false)))
