use Rattle.std.proofs.Common.{ap, sym, ◌∙◌}
use Rattle.numeric_ranges.specs.Ranges.{Rows, list_at}
use Rattle.numeric_ranges.proofs.PutLaws.{at_cast, list_found}
use Rattle.numeric_ranges.proofs.ranges.Ranges.by_low.Goals as goal

pub returns : goal.returns
returns c =
    let items = c.self.inside.rows.items in
    sym (list_found items c.in_ok-at.at c.args.low c.index.result.now c.self.invariant.held.partition.lows
    (at_cast items c.as_slice.result.now c.in_ok-at.at c.args.low c.as_slice.ensures.value c.ranges.low c.in_ok-at.ensures.some) c.index.ensures)
    ∙ ap (λ (rows : Rows). list_at rows c.args.low) c.self.view_is
