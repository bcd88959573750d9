use Rattle.std.proofs.Common.{length, ap, arith}
use Rattle.gc_splice.proofs.AliveLaws.{fewer_alive}
use Rattle.term_dict.proofs.collect.collect_counted.Goals as goal

pub overflow_sub-result : goal.overflow_sub-result
overflow_sub-result g c =
    let left = ap length c.in_ok-collected.ensures.entries in
    let few = fewer_alive (g.L.Live.is c.args.live.now) c.args.list.now.entries in
    omega (arith, left, few, c.len-after.ensures.len, c.len-before.ensures.len)

pub returns-clause-collects : goal.returns-clause-collects
returns-clause-collects g c =
    let left = ap length c.in_ok-collected.ensures.entries in
    let few = fewer_alive (g.L.Live.is c.args.live.now) c.args.list.now.entries in
    record {
      entries = (c.in_ok-collected.ensures.entries, omega (arith, left, few, c.len-after.ensures.len, c.len-before.ensures.len));
      clean = c.collect_list-collected.ensures.clean;
      marker = c.in_ok-collected.ensures.marker;
      err = tt;
    }
