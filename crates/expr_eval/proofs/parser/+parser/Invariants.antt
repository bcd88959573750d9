use Rattle.std.proofs.Common.{◌≡◌, length, ◌+◌, ◌*◌, ◌≤◌}
use Rattle.expr_eval.specs.Grammar.{operand}
use Rattle.expr_eval.specs.Reading.{sort_at, deeper, others_at}
use Rattle.expr_eval.specs.Tokens.{kinds}
use Rattle.expr_eval.proofs.Ranks.{rank}
use Rattle.expr_eval.proofs.parser.+parser.Given as goal

abbrev pub decreases-chain_of : goal.decreases-chain_of
decreases-chain_of l = l.levels * 30 + (rank l.chain + 3)

abbrev pub decreases-comparison_of : goal.decreases-comparison_of
decreases-comparison_of l = l.levels * 30 + 13

abbrev pub decreases-group_of : goal.decreases-group_of
decreases-group_of l = l.levels * 30 + 23

abbrev pub decreases-item_of : goal.decreases-item_of
decreases-item_of l = l.levels * 30 + 2

abbrev pub decreases-joined_of : goal.decreases-joined_of
decreases-joined_of l = l.levels * 30 + (rank l.chain + 1)

abbrev pub decreases-negation_of : goal.decreases-negation_of
decreases-negation_of l = l.levels * 30 + 14

abbrev pub decreases-operand_of : goal.decreases-operand_of
decreases-operand_of l = l.levels * 30 + rank l.chain

abbrev pub decreases-others_of : goal.decreases-others_of
decreases-others_of l = l.levels * 30 + (rank l.chain + 2)

abbrev pub decreases-parens_of : goal.decreases-parens_of
decreases-parens_of l = l.levels * 30

abbrev pub decreases-signed_of : goal.decreases-signed_of
decreases-signed_of l = l.levels * 30 + 3

abbrev pub decreases-call_of : goal.decreases-call_of
decreases-call_of l = l.levels * 30 + 1

abbrev pub decreases-compared_of : goal.decreases-compared_of
decreases-compared_of l = l.levels * 30 + 12

abbrev pub invariant-others_of-joining : goal.invariant-others_of-joining
invariant-others_of-joining l = record {
  same : others_at (sort_at (deeper l.levels) (operand l.chain)) l.chain l.tree (kinds l.rest)
      ≡ others_at (sort_at (deeper l.levels) (operand l.chain)) l.chain l.fn.first (kinds l.fn.tokens);
  shorter : length l.rest ≤ length l.fn.tokens;
}

abbrev pub decreases-others_of-joining : goal.decreases-others_of-joining
decreases-others_of-joining l = length l.rest
