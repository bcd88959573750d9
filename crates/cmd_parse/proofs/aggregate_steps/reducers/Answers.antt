use Rattle.std.proofs.Common.{◌≡◌, true, false, [], rules}
use Rattle.cmd_parse.specs.AggregateSteps.{is_no_reduce, reducer_at}
use Rattle.cmd_parse.proofs.LoopLaws.{all-read, from-all, next-part, stops-so}
use Rattle.cmd_parse.proofs.aggregate_steps.reducers.Goals as goal

pub reading-init : goal.reading-init
reading-init c = from-all is_no_reduce reducer_at [] _ _ _ c.new-list.ensures c.rest-rest.ensures

pub reading-preserved : goal.reading-preserved
reading-preserved c =
    let more : is_no_reduce c.reading.rest ≡ false = search rules in
    next-part is_no_reduce reducer_at [] c.args.words.now _ _ _ _ more c.in-Ok.ensures.read c.in-Ok.ensures.shorter c.reading.invariant

pub returns-in-Err-clause-read : goal.returns-in-Err-clause-read
returns-in-Err-clause-read c =
    let more : is_no_reduce c.reading.rest ≡ false = search rules in
    stops-so is_no_reduce reducer_at [] c.args.words.now _ c.reading.rest c.in-Err.stop more c.in-Err.ensures.read c.reading.invariant

pub returns-clause-read : goal.returns-clause-read
returns-clause-read c =
    let done : is_no_reduce c.reading.rest ≡ true = search rules in
    all-read is_no_reduce reducer_at [] c.args.words.now _ c.reading.rest done c.reading.invariant
