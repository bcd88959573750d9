use Rattle.std.proofs.Common.{◌≡◌, true, false, rules, arith}
use Rattle.cmd_parse.specs.Aggregate.{no_parts, part_at}
use Rattle.cmd_parse.specs.Search.{is_at_end}
use Rattle.cmd_parse.proofs.LoopLaws.{from-all, next-part}
use Rattle.cmd_parse.proofs.OptionsLaws.{some-left}
use Rattle.cmd_parse.proofs.PartsRead.{every-part, part-stops}
use Rattle.cmd_parse.proofs.aggregate_parts.all_parts.Goals as goal

pub reading-init : goal.reading-init
reading-init c = from-all is_at_end part_at no_parts _ _ _ c.no_parts-parts.ensures c.rest-rest.ensures

pub reading-preserved : goal.reading-preserved
reading-preserved c =
    let more : is_at_end c.reading.rest ≡ false = search rules in
    next-part is_at_end part_at no_parts c.args.words.now _ _ _ _ more c.in-Ok.ensures.read c.in-Ok.ensures.shorter c.reading.invariant

pub returns-in-Err-clause-read : goal.returns-in-Err-clause-read
returns-in-Err-clause-read c =
    let more : is_at_end c.reading.rest ≡ false = search rules in
    part-stops c.args.words.now _ c.reading.rest c.in-Err.stop more c.in-Err.ensures.read c.reading.invariant

pub returns-in-Err-clause-memory : goal.returns-in-Err-clause-memory
returns-in-Err-clause-memory c =
    let more : is_at_end c.reading.rest ≡ false = search rules in
    λ e. omega (arith, some-left c.reading.rest more, c.reading.invariant.1)

pub returns-clause-read : goal.returns-clause-read
returns-clause-read c =
    let done : is_at_end c.reading.rest ≡ true = search rules in
    every-part c.args.words.now _ c.reading.rest done c.reading.invariant
