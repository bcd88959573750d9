use Rattle.std.proofs.Common.{◌≡◌, map, take}
use Rattle.id_iters.specs.Entries.{places_in}
use Rattle.id_iters.proofs.places.all_places_in.Given as goal

abbrev pub invariant-words : goal.invariant-words
invariant-words l = l.places ≡ map (places_in l.field) (take l.codes-index l.words)
