use Rattle.std.proofs.Common.{Ok, ◌∙◌, ◌-◌, length, drop, ap, arith}
use Rattle.std.proofs.lemmas.List.{length-take, length-drop}
use Rattle.std.proofs.KnownBytes.{Keeps-trans}
use Rattle.fs_ports.proofs.HeldLaws.{took, took-few}
use Rattle.fs_ports.proofs.Moves.{written_more}
use Rattle.fs_ports.proofs.link.try_front.Goals as goal

pub loop-taken-preserved : goal.loop-taken-preserved
loop-taken-preserved g c =
    let piece = c.args.piece.now in
    let some = c.in-Ok-Some.is ∙ ap Ok c.in-Ok-Some.field-0-is in
    let bound = took-few _ _ _ some c.try_write.ensures.bound in
    record {
      within = omega (arith, bound, length-take (length piece - c.loop-taken.taken) (drop c.loop-taken.taken piece), length-drop c.loop-taken.taken piece);
      bytes = written_more _ _ _ piece c.loop-taken.taken c.in-Ok-Some.count c.loop-taken.invariant.bytes (took _ _ _ _ _ some c.try_write.ensures.bytes);
      left = Keeps-trans _ _ _ c.loop-taken.invariant.left c.try_write.ensures.left;
      later = omega (arith, c.loop-taken.invariant.later, c.try_write.ensures.cause.later);
      other = c.try_write.ensures.other ∙ c.loop-taken.invariant.other;
      stalled = omega (arith, c.loop-taken.invariant.stalled, c.try_write.ensures.stalled);
    }
