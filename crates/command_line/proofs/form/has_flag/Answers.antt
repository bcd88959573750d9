use Rattle.std.proofs.Common.{arith}
use Rattle.command_line.proofs.WordLaws.{flag_of_none}
use Rattle.command_line.proofs.form.has_flag.Goals as goal

pub returns-then-starts_with : goal.returns-then-starts_with
returns-then-starts_with c _ asked are =
    flag_of_none c.args.words.now asked c.loop-word.word-index c.word-item.result c.as_str.result.now c.starts_with.result (omega (arith, c.loop-word-test.true, c.loop-word.auto.word-index-end))
    c.word-item.is c.as_str.ensures.value (c.starts_with.ensures.byte (omega arith) (omega arith) (λ w o found. found)) c.if-starts_with.true are
