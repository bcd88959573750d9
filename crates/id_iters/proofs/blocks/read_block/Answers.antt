use Rattle.std.proofs.Common.{arith, ap, ◌∙◌}
use Rattle.std.specs.Option.{option_copied}
use Rattle.inverted_list.specs.Places.{behind}
use Rattle.id_iters.proofs.AheadLaws.{goes_forward, none_there, reads_ahead}
use Rattle.id_iters.proofs.blocks.read_block.Goals as goal

pub returns-in_default-clause-none : goal.returns-in_default-clause-none
returns-in_default-clause-none g c = λ there.
    none_there (g.H.HitTest.wants c.args.test.now) c.args.list.now.entries c.args.from (omega (arith, c.requires.ahead)) c.next_block.ensures.rises c.in_default.ensures.found

pub returns-clause-some : goal.returns-clause-some
returns-clause-some g c = λ there.
    reads_ahead (g.H.HitTest.wants c.args.test.now) c.args.list.now.entries c.args.from (omega (arith, c.requires.ahead)) c.in-Some.block.now c.fill.new.self c.next_block.new.place.last
    c.next_block.ensures.rises c.in-Some.ensures.found
    (c.next_block.ensures.last ∙ ap (λ r. behind c.args.from (option_copied r)) c.in-Some.is) c.in_ok-fill.ensures

pub returns-clause-forward : goal.returns-clause-forward
returns-clause-forward g c = λ there.
    goes_forward (g.H.HitTest.wants c.args.test.now) c.args.list.now.entries c.args.from (omega (arith, c.requires.ahead)) c.in-Some.block.now c.fill.new.self c.next_block.new.place.last
    c.next_block.ensures.rises c.in-Some.ensures.found
    (c.next_block.ensures.last ∙ ap (λ r. behind c.args.from (option_copied r)) c.in-Some.is)
