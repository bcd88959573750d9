use Rattle.std.proofs.Common.{◌≡◌, ◌++◌, length}
use Rattle.ft_base.specs.Spans.{LieIn, words_of}
use Rattle.ft_base.proofs.words.Frame.copy.Given as goal

abbrev pub invariant-loop-word : goal.invariant-loop-word
invariant-loop-word l = record {
  inside : LieIn l.bytes.items l.spans.items;
  words : words_of l.bytes.items l.spans.items ++ l.rest ≡ l.fn.words;
}

abbrev pub decreases-loop-word : goal.decreases-loop-word
decreases-loop-word l = length l.rest
