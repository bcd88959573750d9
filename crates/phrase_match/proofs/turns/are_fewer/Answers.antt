use Rattle.std.proofs.Common.{List, ℕ, length, ap, ◌∙◌, ◌+◌, sym, get_or, arith}
use Rattle.phrase_match.proofs.TurnLaws.{counted_more}
use Rattle.phrase_match.proofs.turns.are_fewer.Goals as goal

pub lists-preserved : goal.lists-preserved
lists-preserved c =
    omega (
      arith,
      c.lists.invariant,
      c.if-left-len.false,
      c.len.ensures,
      ap length c.list-item.is,
      counted_more c.args.lists.now c.lists.list-index c.list-item.result c.lists-test.true,
    )
