use Rattle.std.proofs.Common.{◌≡◌, ◌∙◌, arith, length, take, sym, ap}
use Rattle.std.proofs.Math.Seq.{take-length}
use Rattle.inverted_list.specs.Blocks.{joined}
use Rattle.gc_splice.specs.Alive.{all_alive}
use Rattle.gc_splice.proofs.clean.are_clean.Goals as goal

pub returns-then-first_dead-blocks : goal.returns-then-first_dead-blocks
returns-then-first_dead-blocks g c = sym (c.first_dead.ensures.dead (omega (arith, c.if-first_dead-blocks.true)))

pub returns : goal.returns
returns g c =
    let live = g.L.Live.is c.args.live.now in
    let all : c.first_dead.result ≡ length c.args.blocks.now = omega (arith, c.if-first_dead-blocks.false, c.first_dead.ensures.within) in
    sym (ap (λ bs. all_alive live (joined bs)) (sym (ap (λ n. take n c.args.blocks.now) all ∙ take-length c.args.blocks.now)) ∙ c.first_dead.ensures.before)
