use Rattle.std.proofs.Common.{◌≡◌, ◌&&◌, map, take}
use Rattle.std.specs.List.{list_all}
use Rattle.cmd_parse.specs.Seen.{filter_of}
use Rattle.ft_base.specs.Docs.{Doc}
use Rattle.ft_base.specs.declared.query.Query.{Query}
use Rattle.ft_machine.specs.Counted.{passes}
use Rattle.ft_meaning.specs.Holds.{holds}
use Rattle.ft_engine.proofs.indexes.filters.add_ranges.Given as goal

abbrev pub invariant-ranges-2 : goal.invariant-ranges-2
invariant-ranges-2 l =
    (doc : Doc) → list_all (λ (part : Query). holds part l.fn.def doc) l.parts.items
    ≡ (list_all (λ (part : Query). holds part l.fn.def doc) l.initial.parts.items && list_all (passes l.fn.def doc) (map filter_of (take l.filter-index l.filters)))
