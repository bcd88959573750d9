use Rattle.std.proofs.Common.{ap, arith}
use Rattle.std.specs.Prelude.{List, length}
use Rattle.ft_base.specs.Docs.{Doc}
use Rattle.indexed_store.proofs.CountingLaws.{counted, without-none, without-whole}
use Rattle.indexed_store.proofs.counting.count_found.Goals as goal

pub returns-then-len-eq0-clause-count : goal.returns-then-len-eq0-clause-count
returns-then-len-eq0-clause-count c = omega (arith, ap (λ (docs : List Doc). length docs) (without-none c.args.store.now.space c.args.keys.now (omega (arith, c.len.ensures.len, c.if-len-eq0.true))))

pub returns-then-len-eq0-clause-none : goal.returns-then-len-eq0-clause-none
returns-then-len-eq0-clause-none c none = without-none c.args.store.now.space c.args.keys.now (omega (arith, c.len.ensures.len, c.if-len-eq0.true))

pub returns-clause-count : goal.returns-clause-count
returns-clause-count c =
    omega (
      arith,
      c.len-2.ensures,
      counted c.args.store.now.space c.args.keys.now c.note_ids.new.ids.items c.sort_unstable.new.self.items c.dedup.new.self.items c.len.ensures.rises c.len.ensures.distinct c.in_ok-note_ids.ensures.ok c.sort_unstable.ensures.permutation
          c.sort_unstable.ensures.sorted c.dedup.ensures.filtered,
    )

pub returns-clause-none : goal.returns-clause-none
returns-clause-none c none =
    without-whole c.args.store.now.space c.args.keys.now c.len.ensures.distinct
    (omega (
      arith,
      none,
      c.len-2.ensures,
      counted c.args.store.now.space c.args.keys.now c.note_ids.new.ids.items c.sort_unstable.new.self.items c.dedup.new.self.items c.len.ensures.rises c.len.ensures.distinct c.in_ok-note_ids.ensures.ok c.sort_unstable.ensures.permutation
          c.sort_unstable.ensures.sorted c.dedup.ensures.filtered,
    ))
