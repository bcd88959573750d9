use Rattle.std.proofs.Common.{◌≡◌, true, false, [], rules}
use Rattle.cmd_parse.specs.AggregateSteps.{key_at}
use Rattle.cmd_parse.specs.AggregateWords.{are_behind}
use Rattle.cmd_parse.proofs.LoopLaws.{all-read, from-all, next-part, stops-so}
use Rattle.cmd_parse.proofs.aggregate_steps.keys_up_to.Goals as goal

pub reading-init : goal.reading-init
reading-init c = from-all (are_behind c.args.behind) (key_at c.args.behind) [] _ _ _ c.new-keys.ensures c.rest-rest.ensures

pub reading-preserved : goal.reading-preserved
reading-preserved c =
    let more : are_behind c.args.behind c.reading.rest ≡ false = search rules in
    next-part (are_behind c.args.behind) (key_at c.args.behind) [] c.args.words.now _ _ _ _ more c.in-Ok.ensures.read c.in-Ok.ensures.shorter c.reading.invariant

pub returns-in-Err-clause-read : goal.returns-in-Err-clause-read
returns-in-Err-clause-read c =
    let more : are_behind c.args.behind c.reading.rest ≡ false = search rules in
    stops-so (are_behind c.args.behind) (key_at c.args.behind) [] c.args.words.now _ c.reading.rest c.in-Err.stop more c.in-Err.ensures.read c.reading.invariant

pub returns-clause-read : goal.returns-clause-read
returns-clause-read c =
    let done : are_behind c.args.behind c.reading.rest ≡ true = search rules in
    all-read (are_behind c.args.behind) (key_at c.args.behind) [] c.args.words.now _ c.reading.rest done c.reading.invariant
