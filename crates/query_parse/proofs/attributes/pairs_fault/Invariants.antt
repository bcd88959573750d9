use Rattle.std.proofs.Common.{◌≡◌, drop}
use Rattle.std.specs.List.{flat_map}
use Rattle.query_grammar.specs.Faults.{pair_faults}
use Rattle.query_parse.specs.Faults.{first}
use Rattle.query_parse.specs.Seen.{pairs_of}
use Rattle.query_parse.proofs.attributes.pairs_fault.Given as goal

-- the first fault is of those that are not passed yet
abbrev pub invariant-loop-pair : goal.invariant-loop-pair
invariant-loop-pair l = first (flat_map (pair_faults l.params) (pairs_of (drop l.pair-index l.pairs))) ≡ first (flat_map (pair_faults l.params) (pairs_of l.pairs))
