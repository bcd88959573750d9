-- The first of some faults.
use Rattle.std.specs.Prelude.{List, [], ◌∷◌, Option, Some, None}
use Rattle.query_grammar.specs.declared.fault.QueryFault.{QueryFault}

-- the fault that stands first, if there is one
abbrev pub first : List QueryFault → Option QueryFault
first [] = None
first (fault ∷ faults) = Some fault
