use Rattle.std.proofs.Common.{arith}
use Rattle.query_parse.proofs.PlaceLemmas.{has-more}
use Rattle.query_parse.proofs.params.Params.new.Goals as goal

pub loop-place-preserved : goal.loop-place-preserved
loop-place-preserved c =
    has-more c.args.list.now _ c.loop-place.place c.index-list-place.result c.as_slice.result c.loop-place.places c.insert.new.self (omega arith) (omega arith) c.as_slice.ensures
    c.loop-place.invariant c.in_ok-insert.ensures.updates
