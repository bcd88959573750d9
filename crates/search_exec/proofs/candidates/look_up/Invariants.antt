use Rattle.std.proofs.Common.{◌≡◌, take}
use Rattle.search_exec.specs.Candidates.{ids_with}
use Rattle.search_exec.proofs.candidates.look_up.Given as goal

abbrev pub invariant-keys : goal.invariant-keys
invariant-keys l = l.ids.items ≡ ids_with l.store.space (take l.at l.keys)
