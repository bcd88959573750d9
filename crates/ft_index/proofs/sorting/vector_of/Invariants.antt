use Rattle.std.proofs.Common.{◌≡◌, ◌++◌, map, drop}
use Rattle.std.specs.List.{filter}
use Rattle.ft_meaning.specs.Holds.{field_number}
use Rattle.ft_meaning.specs.Sortable.{keeps_number, sorting_vector}
use Rattle.ft_index.proofs.sorting.vector_of.Given as goal

-- the numbers so far, and those of the fields that are left, are the document's
abbrev pub invariant-loop-field : goal.invariant-loop-field
invariant-loop-field l =
    sorting_vector l.def l.doc ≡ l.vector ++ map (field_number l.doc) (filter keeps_number (drop l.field-index l.field-items))
