use Rattle.std.proofs.Common.{◌≡◌, filter, eqb, get_or}
use Rattle.std.specs.List.{range_with_len}
use Rattle.leaf_rows.proofs.phrases.places_of.Given as goal

abbrev pub invariant-loop-place : goal.invariant-loop-place
invariant-loop-place l = l.found ≡ filter (λ place. eqb (get_or l.document place 0) l.word) (range_with_len 0 l.place)
