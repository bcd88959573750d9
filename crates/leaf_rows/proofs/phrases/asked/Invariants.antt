use Rattle.std.proofs.Common.{◌≡◌, map, take}
use Rattle.phrase_match.proofs.TextLaws.{places}
use Rattle.leaf_rows.proofs.phrases.asked.Given as goal

abbrev pub invariant-loop-word : goal.invariant-loop-word
invariant-loop-word l = l.lists ≡ map (places l.document) (take l.word-index l.phrase)
