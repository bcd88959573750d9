use Rattle.std.proofs.Common.{◌≡◌, map, take}
use Rattle.ft_schema.proofs.schema.owned.Given as goal

-- the words so far are copied
abbrev pub invariant-loop-word : goal.invariant-loop-word
invariant-loop-word l = l.copies.items ≡ map (λ word. word.now) (take l.word-index l.words)
