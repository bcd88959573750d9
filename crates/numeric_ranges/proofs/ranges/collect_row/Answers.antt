use Rattle.std.proofs.Common.{◌≡◌, Option, IfSome, IfNone, set, sym, subst, arith}
use Rattle.std.proofs.lemmas.Result.{IfOk-weaker, on_ok_weaker, on_err_weaker}
use Rattle.posting_block.specs.declared.hits.NumHit.{NumHit}
use Rattle.inverted_list.specs.Listing.{Listing}
use Rattle.numeric_ranges.specs.Rows.{rows_of}
use Rattle.numeric_ranges.specs.Splicing.{CollectsRange}
use Rattle.numeric_ranges.proofs.PutLaws.{at_cast, list_found, put_held, put_count, put_same}
use Rattle.numeric_ranges.proofs.SplicingLaws.{range_collected}
use Rattle.numeric_ranges.proofs.ranges.collect_row.Goals as goal

pub returns-clause-gone : goal.returns-clause-gone
returns-clause-gone g c =
    let items = c.args.rows.now.items in
    let row = c.index_mut-row.result.now in
    let here = at_cast items c.as_slice.result.now c.in-Some.at c.args.low c.as_slice.ensures.value c.ranges.low c.in-Some.ensures.some in
    let found = list_found items c.in-Some.at c.args.low row c.requires.held.partition.lows here c.index_mut-row.ensures.value in
    subst (λ (o : Option (Listing NumHit)). IfNone o ((rows_of (set items c.in-Some.at c.collect.new.self) ≡ rows_of items) × (c.collect.new.markers ≡ c.args.markers.now))) (sym found) tt

pub returns-clause-there : goal.returns-clause-there
returns-clause-there g c =
    let items = c.args.rows.now.items in
    let row = c.index_mut-row.result.now in
    let here = at_cast items c.as_slice.result.now c.in-Some.at c.args.low c.as_slice.ensures.value c.ranges.low c.in-Some.ensures.some in
    let found = list_found items c.in-Some.at c.args.low row c.requires.held.partition.lows here c.index_mut-row.ensures.value in
    on_ok_weaker c.collect.result
    (λ h. subst (λ (o : Option (Listing NumHit)). IfSome o (λ l. CollectsRange (g.L.Live.is c.args.live.now) c.args.low c.args.markers.now l (rows_of items) (rows_of (set items c.in-Some.at c.collect.new.self)) c.collect.new.markers)) (sym found)
    (range_collected items c.in-Some.at c.args.low row c.collect.new.self c.requires.held.partition.lows here c.index_mut-row.ensures.value c.collect.ensures.low
    (g.L.Live.is c.args.live.now) c.args.markers.now c.collect.new.markers h)) c.collect.ensures.ok

pub returns-clause-err : goal.returns-clause-err
returns-clause-err g c =
    let items = c.args.rows.now.items in
    let row = c.index_mut-row.result.now in
    let here = at_cast items c.as_slice.result.now c.in-Some.at c.args.low c.as_slice.ensures.value c.ranges.low c.in-Some.ensures.some in
    on_err_weaker c.collect.result
    (λ h. (put_same items c.in-Some.at c.args.low row c.collect.new.self c.requires.held.partition.lows here c.index_mut-row.ensures.value c.collect.ensures.low h.0, h.1)) c.collect.ensures.err

pub returns-clause-held : goal.returns-clause-held
returns-clause-held g c =
    let items = c.args.rows.now.items in
    let row = c.index_mut-row.result.now in
    let here = at_cast items c.as_slice.result.now c.in-Some.at c.args.low c.as_slice.ensures.value c.ranges.low c.in-Some.ensures.some in
    put_held items c.in-Some.at c.args.low row c.collect.new.self c.requires.held here c.index_mut-row.ensures.value c.collect.ensures.low
    c.collect.ensures.rises c.collect.ensures.part c.collect.ensures.knows

pub returns-clause-fewer : goal.returns-clause-fewer
returns-clause-fewer g c =
    let items = c.args.rows.now.items in
    let row = c.index_mut-row.result.now in
    let here = at_cast items c.as_slice.result.now c.in-Some.at c.args.low c.as_slice.ensures.value c.ranges.low c.in-Some.ensures.some in
    let new = c.collect.new.self in
    let count = put_count items c.in-Some.at c.args.low row new c.requires.held.partition.lows here c.index_mut-row.ensures.value c.collect.ensures.low in
    IfOk-weaker c.collect.result _ _ (λ dead removed. omega (arith, count, removed)) c.collect.ensures.removed
