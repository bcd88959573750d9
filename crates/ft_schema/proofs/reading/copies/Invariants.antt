use Rattle.std.proofs.Common.{◌≡◌, map, take}
use Rattle.ft_schema.specs.Reading.{spelled}
use Rattle.ft_schema.proofs.reading.copies.Given as goal

-- the words so far are copied
abbrev pub invariant-loop-place : goal.invariant-loop-place
invariant-loop-place l = l.copies.items ≡ map (spelled l.lower) (take l.place l.words)
