use Rattle.std.specs.Prelude.{◌≡◌, ◌++◌, map}
use Rattle.std.specs.Vec.Iter.{into_iter_items}
use Rattle.ft_machine.specs.Aggregating.{value_reply}
use Rattle.search_exec.proofs.replied_rows.+show.Given as goal

-- what is shown and what is left are the whole
abbrev pub invariant-push_values-showing : goal.invariant-push_values-showing
invariant-push_values-showing l = l.shown.items ++ map value_reply (into_iter_items l.value-iterator) ≡ map value_reply l.fn.values
