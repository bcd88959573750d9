use Rattle.std.proofs.Common.{◌∙◌, ◌-◌, length, drop, arith}
use Rattle.std.proofs.lemmas.List.{length-take, length-drop}
use Rattle.std.proofs.KnownBytes.{Keeps-trans}
use Rattle.fs_ports.proofs.Moves.{written_more}
use Rattle.fs_ports.proofs.link.write_front.Goals as goal

pub loop-at-preserved : goal.loop-at-preserved
loop-at-preserved g c =
    let port = g.L.Link in
    let piece = c.args.piece.now in
    let bound = c.in-Ok.ensures.bound in
    record {
      within = omega (arith, bound, length-take (length piece - c.loop-at.at) (drop c.loop-at.at piece), length-drop c.loop-at.at piece);
      bytes = written_more _ _ _ piece c.loop-at.at c.in-Ok.count c.loop-at.invariant.bytes c.in-Ok.ensures.bytes;
      left = Keeps-trans _ _ _ c.loop-at.invariant.left c.in-Ok.ensures.left;
      later = omega (arith, c.loop-at.invariant.later, c.in-Ok.ensures.cause.later);
      other = c.in-Ok.ensures.other ∙ c.loop-at.invariant.other;
      stalled = omega (arith, c.loop-at.invariant.stalled, c.in-Ok.ensures.stalled);
    }
