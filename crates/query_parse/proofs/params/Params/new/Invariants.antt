use Rattle.query_parse.proofs.PlaceLemmas.{HasFrom}
use Rattle.query_parse.proofs.params.Params.new.Given as goal

-- the map has the places of the parameters from here on
abbrev pub invariant-loop-place : goal.invariant-loop-place
invariant-loop-place l = HasFrom l.place l.list l.places
