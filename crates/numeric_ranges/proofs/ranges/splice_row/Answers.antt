use Rattle.std.proofs.Common.{◌≡◌, ℕ, Bool, Option, IfSome, IfNone, set, sym, subst, arith}
use Rattle.posting_block.specs.declared.hits.NumHit.{NumHit}
use Rattle.inverted_list.specs.Listing.{Listing}
use Rattle.gc_splice.specs.declared.splice.Spliced.TheVariants.{Gone}
use Rattle.gc_splice.specs.Splice.{Fits, picture_of}
use Rattle.numeric_ranges.specs.Rows.{rows_of}
use Rattle.numeric_ranges.specs.Splicing.{SplicesRange}
use Rattle.numeric_ranges.proofs.GoneLaws.{fewer_part, removed_spliced}
use Rattle.numeric_ranges.proofs.PutLaws.{at_cast, list_found, put_held, put_count}
use Rattle.numeric_ranges.proofs.SplicingLaws.{range_spliced}
use Rattle.numeric_ranges.proofs.ranges.splice_row.Goals as goal

pub splice-requires-clause-fits : goal.splice-requires-clause-fits
splice-requires-clause-fits c =
    let items = c.args.rows.now.items in
    let row = c.index_mut-row.result.now in
    let here = at_cast items c.as_slice.result.now c.in-Some.at c.args.low c.as_slice.ensures.value c.ranges.low c.in-Some.ensures.some in
    let found = list_found items c.in-Some.at c.args.low row c.requires.held.partition.lows here c.index_mut-row.ensures.value in
    subst (λ (o : Option (Listing NumHit)). IfSome o (λ l. c.args.repair.now.seen ≡ l.marker → (live : ℕ → Bool) × Fits live c.args.repair.now (picture_of l))) found c.requires.fits

pub returns-clause-gone : goal.returns-clause-gone
returns-clause-gone c =
    let items = c.args.rows.now.items in
    let row = c.index_mut-row.result.now in
    let here = at_cast items c.as_slice.result.now c.in-Some.at c.args.low c.as_slice.ensures.value c.ranges.low c.in-Some.ensures.some in
    let found = list_found items c.in-Some.at c.args.low row c.requires.held.partition.lows here c.index_mut-row.ensures.value in
    subst (λ (o : Option (Listing NumHit)). IfNone o ((c.splice.result ≡ Gone) × (rows_of (set items c.in-Some.at c.splice.new.self) ≡ rows_of items))) (sym found) tt

pub returns-clause-there : goal.returns-clause-there
returns-clause-there c =
    let items = c.args.rows.now.items in
    let row = c.index_mut-row.result.now in
    let here = at_cast items c.as_slice.result.now c.in-Some.at c.args.low c.as_slice.ensures.value c.ranges.low c.in-Some.ensures.some in
    let found = list_found items c.in-Some.at c.args.low row c.requires.held.partition.lows here c.index_mut-row.ensures.value in
    subst (λ (o : Option (Listing NumHit)). IfSome o (λ l. SplicesRange c.args.low c.args.repair.now c.args.marker l (rows_of items) (rows_of (set items c.in-Some.at c.splice.new.self)) c.splice.result)) (sym found)
    (range_spliced items c.in-Some.at c.args.low row c.splice.new.self c.requires.held.partition.lows here c.index_mut-row.ensures.value c.splice.ensures.low
    c.args.repair.now c.args.marker c.splice.result c.splice.ensures.list)

pub returns-clause-held : goal.returns-clause-held
returns-clause-held c =
    let items = c.args.rows.now.items in
    let row = c.index_mut-row.result.now in
    let here = at_cast items c.as_slice.result.now c.in-Some.at c.args.low c.as_slice.ensures.value c.ranges.low c.in-Some.ensures.some in
    put_held items c.in-Some.at c.args.low row c.splice.new.self c.requires.held here c.index_mut-row.ensures.value c.splice.ensures.low
    c.splice.ensures.rises c.splice.ensures.part c.splice.ensures.knows

pub returns-clause-fewer : goal.returns-clause-fewer
returns-clause-fewer c =
    let items = c.args.rows.now.items in
    let row = c.index_mut-row.result.now in
    let here = at_cast items c.as_slice.result.now c.in-Some.at c.args.low c.as_slice.ensures.value c.ranges.low c.in-Some.ensures.some in
    let new = c.splice.new.self in
    let fewer = fewer_part row.list.entries new.list.entries c.splice.ensures.part in
    omega (
      arith,
      put_count items c.in-Some.at c.args.low row new c.requires.held.partition.lows here c.index_mut-row.ensures.value c.splice.ensures.low,
      removed_spliced c.args.repair.now c.args.marker row.list new.list c.splice.result c.splice.ensures.list fewer,
    )
