use Rattle.phrase_match.proofs.OrderLaws.{Going}
use Rattle.phrase_match.proofs.order.look_in_order.Given as goal

abbrev pub invariant-words : goal.invariant-words
invariant-words l = Going l.slop l.low l.words l.i l.next
