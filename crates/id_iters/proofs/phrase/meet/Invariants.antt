use Rattle.std.proofs.Common.{◌≤◌, ◌+◌, ◌-◌, ◌*◌, ◌^◌, length}
use Rattle.id_iters.specs.Leaves.{has_word}
use Rattle.id_iters.specs.Places.{StandAt, WordReady}
use Rattle.id_iters.specs.declared.leaf.Leaf.{Leaf}
use Rattle.id_iters.proofs.LoopLaws.{Agreed}
use Rattle.id_iters.proofs.phrase.meet.Given as goal

abbrev pub invariant-words : goal.invariant-words
invariant-words g l =
    let held = g.T.Lists.held l.lists in
    record {
      agreed : Agreed (λ (leaf : Leaf). leaf.list) (has_word held) held.live (WordReady held) (StandAt held) l.fn.words l.words l.from l.id l.lead l.at;
      counts : l.fn.steps ≤ l.steps;
    }

abbrev pub decreases-words : goal.decreases-words
decreases-words g l = (2 ^ 64 - l.id) * (length l.words + 1) + (length l.words - l.at)
