use Rattle.std.proofs.Common.{◌∙◌, ◌≤◌, length, subst, sym, arith}
use Rattle.ft_base.specs.Hash.{Hash}
use Rattle.indexed_store.proofs.WritesLaws.{pairs-done, pairs-longer, pairs-step}
use Rattle.indexed_store.proofs.versions.set_pairs.Goals as goal

pub loop-i-preserved : goal.loop-i-preserved
loop-i-preserved c =
    pairs-step c.loop-i.hash c.put.new.self c.args.pairs.now c.loop-i.i c.word.result.now c.word-in-loop-i.result.now (omega (arith, c.loop-i-test.true, c.len-i-end.ensures)) c.word.ensures c.word-in-loop-i.ensures
    c.in_ok-put.ensures.ok ∙ c.loop-i.invariant

pub returns-clause-pairs : goal.returns-clause-pairs
returns-clause-pairs c = pairs-done c.args.hash.now c.loop-i.hash c.args.pairs.now c.loop-i.i (omega (arith, c.loop-i-test.false, c.len-i-end.ensures)) c.loop-i.invariant

pub returns-clause-longer : goal.returns-clause-longer
returns-clause-longer c =
    let whole = pairs-done c.args.hash.now c.loop-i.hash c.args.pairs.now c.loop-i.i (omega (arith, c.loop-i-test.false, c.len-i-end.ensures)) c.loop-i.invariant in
    subst (λ (hash : Hash). length c.args.hash.now ≤ length hash) (sym whole) (pairs-longer c.args.hash.now c.args.pairs.now)
