use Rattle.std.proofs.Common.{rules, ◌≡◌}
use Rattle.std.specs.Option.{option_copied}
use Rattle.id_iters.specs.Entries.{has_entry, lies_in}
use Rattle.id_iters.specs.Held.{entries_of}
use Rattle.id_iters.proofs.LeafLaws.{leaf_least, leaf_read, range_fits, range_same}
use Rattle.id_iters.proofs.leaf.Leaf.read_range.Goals as goal

pub returns-clause-least : goal.returns-clause-least
returns-clause-least g c =
    let held = g.T.Lists.held c.args.lists.now in
    let leaf = c.args.self.now in
    let found : option_copied c.range.result ≡ held.ranges c.args.field c.args.low = search rules in
    leaf_least held leaf c.read_in.result (has_entry (lies_in c.interval-interval.result.low c.interval-interval.result.high) (entries_of (option_copied c.range.result))) c.args.from
    (range_same held leaf c.args.field c.args.low c.interval-interval.result.low c.interval-interval.result.high (option_copied c.range.result) c.requires.range found
    c.interval-interval.ensures.low c.interval-interval.ensures.high) c.read_in.ensures.least

pub returns-clause-ready : goal.returns-clause-ready
returns-clause-ready g c =
    let held = g.T.Lists.held c.args.lists.now in
    let leaf = c.args.self.now in
    let found : option_copied c.range.result ≡ held.ranges c.args.field c.args.low = search rules in
    leaf_read held leaf c.read_in.result (has_entry (lies_in c.interval-interval.result.low c.interval-interval.result.high) (entries_of (option_copied c.range.result)))
    c.read_in.new.place c.read_in.new.ahead
    (range_same held leaf c.args.field c.args.low c.interval-interval.result.low c.interval-interval.result.high (option_copied c.range.result) c.requires.range found
    c.interval-interval.ensures.low c.interval-interval.ensures.high)
    (range_fits held leaf c.args.field c.args.low (option_copied c.range.result) c.read_in.new.place c.requires.range found c.read_in.ensures.sound) c.read_in.ensures.ahead
