use Rattle.std.proofs.Common.{◌≡◌, ◌++◌, map, option_map, take}
use Rattle.std.specs.List.{flat_map}
use Rattle.cmd_parse.specs.Seen.{filter_of, sort_of}
use Rattle.ft_machine.specs.Counted.{least, unknown_filter, unknown_sort}
use Rattle.ft_engine.proofs.indexes.filters.first_unknown.Given as goal

abbrev pub invariant-filters : goal.invariant-filters
invariant-filters l =
    l.first ≡ least (unknown_sort l.fn.def.fields (option_map sort_of l.fn.search.sort) ++ flat_map (unknown_filter l.fn.def.fields) (map filter_of (take l.filter-index l.fn.search.filters)))
