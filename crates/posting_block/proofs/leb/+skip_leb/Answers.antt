use Rattle.std.proofs.Common.{rules, arith, ◌<◌, length}
use Rattle.std.proofs.lemmas.Grind.{common_steps}
use Rattle.posting_block.specs.LebLaws.{leads_some, leads_tail}
use Rattle.posting_block.proofs.leb.+skip_leb.Goals as goal

pub unreachable-requires : goal.unreachable-requires
unreachable-requires t c = let s : 0 < length c.args.bytes.now = leads_some c.args.bytes.now c.requires in omega arith

pub skip_leb-requires : goal.skip_leb-requires
skip_leb-requires t c = (search rules, leads_tail c.args.bytes.now c.requires c.if-first-lt128.false)

pub returns-then-first-lt128 : goal.returns-then-first-lt128
returns-then-first-lt128 t c = grind (arith, common_steps)

pub returns-else-first-lt128 : goal.returns-else-first-lt128
returns-else-first-lt128 t c = grind (arith, common_steps)
