use Rattle.std.proofs.Common.{[], ap, sym, ◌∙◌, arith}
use Rattle.cmd_parse.specs.Options.{is_as}
use Rattle.cmd_parse.proofs.PlaceLaws.{found-here, found-later, found-none}
use Rattle.cmd_parse.proofs.option_words.first_as.Goals as goal

pub returns-then-is_name-clause-first : goal.returns-then-is_name-clause-first
returns-then-is_name-clause-first c =
    found-here is_as c.args.from c.loop-place.place c.args.words.now [] (omega arith) (ap is_as (sym c.word.ensures) ∙ sym c.if-is_name.ensures) c.loop-place.invariant

pub loop-place-preserved : goal.loop-place-preserved
loop-place-preserved c =
    found-later is_as c.args.from c.loop-place.place c.args.words.now [] (omega arith) (ap is_as (sym c.word.ensures) ∙ sym c.if-is_name.ensures) c.loop-place.invariant

pub returns-clause-first : goal.returns-clause-first
returns-clause-first c = found-none is_as c.args.from c.loop-place.place c.args.words.now (omega arith) c.loop-place.invariant
