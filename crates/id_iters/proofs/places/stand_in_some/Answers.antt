use Rattle.std.proofs.Common.{arith, sym}
use Rattle.std.proofs.lemmas.Grind.{common_steps}
use Rattle.phrase_match.specs.Turns.{in_turn}
use Rattle.id_iters.specs.Entries.{field_of, stand_in}
use Rattle.id_iters.proofs.CodeLaws.{none_passes}
use Rattle.id_iters.proofs.places.stand_in_some.Goals as goal

pub returns : goal.returns
returns c =
    sym (none_passes (λ code. stand_in c.args.fields.now c.args.slop c.args.in_order (in_turn c.args.words.now c.args.order.now) (field_of code)) c.args.codes.now
    (λ k h. c.codes.invariant.none k (omega (arith, h, c.codes-test.false))))

pub returns-then-branch : goal.returns-then-branch
returns-then-branch c = grind (arith, common_steps)
