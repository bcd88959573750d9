use Rattle.std.proofs.Common.{◌≡◌, false, length, take}
use Rattle.ft_server.specs.Blocks.{Executes, Went, all_words}
use Rattle.ft_server.proofs.blocks.exec_block.Given as goal

-- there is a reply for each command, and the first commands lead from the engine before
abbrev pub invariant-loop-at : goal.invariant-loop-at
invariant-loop-at l = record {
  room : length l.outs.items ≡ length l.frames;
  free : l.engine.pending ≡ false;
  leads : Executes Went l.now l.fn.engine (all_words (take l.at l.frames)) (take l.at l.outs.items) l.engine;
}
