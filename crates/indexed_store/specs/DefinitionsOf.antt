-- What the indexes of a server are defined by, without their lists.
use Rattle.std.specs.Prelude.{List, map}
use Rattle.ft_index.specs.Index.{Index}
use Rattle.ft_machine.specs.Definitions.{Defined}

-- the definition of an index, and its count of failures
abbrev pub defined : Index → Defined
defined index = record { def = index.def; failures = index.failures }

-- those of all indexes, in their order
abbrev pub definitions_of : List Index → List Defined
definitions_of indexes = map defined indexes
