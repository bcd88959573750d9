use Rattle.std.proofs.Common.{length-set, ◌∙◌}
use Rattle.ft_server.specs.Blocks.{Went}
use Rattle.ft_server.proofs.BlockingLaws.{executes_at}
use Rattle.ft_server.proofs.blocks.exec_block.Goals as goal

pub loop-at-preserved : goal.loop-at-preserved
loop-at-preserved c =
    let i = c.loop-at.invariant in
    record {
      room = length-set c.loop-at.outs.items c.loop-at.at c.exec_frame.new.out ∙ i.room;
      free = c.exec_frame.ensures.free;
      leads = executes_at Went c.args.now c.args.frames.now c.loop-at.outs.items c.loop-at.at c.index-frames-at.result c.exec_frame.new.out c.args.engine.now c.loop-at.engine c.exec_frame.new.engine
          c.loop-at-test.true c.index-frames-at.is i.room i.leads c.exec_frame.ensures;
    }
