use Rattle.std.proofs.Common.{arith, ◌≡◌, ◌<◌, ◌+◌, ◌∙◌, length, take, subst}
use Rattle.std.proofs.lemmas.List.{length-take, length-set, drop-set-lt}
use Rattle.gc_splice.specs.Written.{Written}
use Rattle.gc_splice.proofs.MendLaws.{take_next, drop_further}
use Rattle.gc_splice.proofs.mend.mend_first.Goals as goal

pub each-preserved : goal.each-preserved
each-preserved g c =
    let i = c.each.i in
    let all = c.args.repairs.now in
    let here : i < length all = omega (arith, c.each-test.true, c.len-i-end.ensures) in
    let there : i < length c.each.repairs = omega (arith, here, c.each.invariant.2) in
    let count : length (take i all) ≡ i = omega (arith, length-take i all, here) in (
      subst (λ taken. Written c.args.blocks.now.items taken (i + 1) c.mend_block-kept.result c.mend_block-kept.new.blocks.items)
          (take_next all c.each.repairs i c.get_mut.result.now there c.each.invariant.2 c.each.invariant.1 c.get_mut.ensures.value)
          (c.mend_block-kept.ensures c.args.blocks.now.items (take i all) count c.each.invariant.0),
      drop-set-lt (i + 1) c.each.repairs i c.mend_block-kept.new.repair (omega arith) ∙ drop_further i c.each.repairs all c.each.invariant.1,
      length-set c.each.repairs i c.mend_block-kept.new.repair ∙ c.each.invariant.2,
    )
