use Rattle.std.specs.Prelude.{◌≡◌, map, take}
use Rattle.ft_machine.specs.Indexes.{name_bulk}
use Rattle.indexed_store.specs.DefinitionsOf.{definitions_of}
use Rattle.ft_engine.proofs.indexes.index_reads.bulks_of_names.Given as goal

-- the names of the indexes so far
abbrev pub invariant-loop-index : goal.invariant-loop-index
invariant-loop-index l = l.names.items ≡ map name_bulk (definitions_of (take l.index-index l.indexes))
