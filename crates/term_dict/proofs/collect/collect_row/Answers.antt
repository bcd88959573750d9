use Rattle.std.proofs.Common.{IsSome, refl, subst}
use Rattle.term_dict.specs.Changes.{CollectsRow}
use Rattle.term_dict.proofs.SpliceLaws.{at_none, at_some, changes, not_none}
use Rattle.term_dict.proofs.collect.collect_row.Goals as goal

pub returns-in_default-clause-there : goal.returns-in_default-clause-there
returns-in_default-clause-there g c = at_none c.args.word.now c.args.lists.now.entries _ c.in_default.ensures.value

pub returns-clause-gone : goal.returns-clause-gone
returns-clause-gone g c = not_none c.args.word.now c.args.lists.now.entries c.in-Some.list.now _ c.in-Some.ensures.value

pub returns-clause-there : goal.returns-clause-there
returns-clause-there g c =
    let rows = c.args.lists.now.entries in
    let word = c.args.word.now in
    let k = c.collect_counted.new.list in
    let written = c.get_mut.follows.holds k in
    let updates = written.3 (subst IsSome c.in-Some.ensures.value refl) in
    let change = changes word c.in-Some.list.now k rows (c.get_mut.follows.lender k).entries c.in-Some.ensures.value written.0 updates.1 updates.3 c.collect_counted.ensures.rises in
    at_some word rows c.in-Some.list.now
    (λ l. CollectsRow (g.L.Live.is c.args.live.now) word l rows (c.get_mut.follows.lender k).entries c.args.markers.now c.collect_counted.new.markers c.collect_counted.result) c.in-Some.ensures.value (k, change, c.collect_counted.ensures.collects)
