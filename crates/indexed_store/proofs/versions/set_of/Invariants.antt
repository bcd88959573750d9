use Rattle.std.proofs.Common.{◌≡◌, List, ℕ, take}
use Rattle.std.specs.Prelude.{is_some}
use Rattle.std.specs.List.{list_any}
use Rattle.std.specs.Str.{bytes_eq}
use Rattle.ft_base.specs.Hash.{get_field}
use Rattle.indexed_store.proofs.versions.set_of.Given as goal

-- the set has the fields so far
abbrev pub invariant-loop-i : goal.invariant-loop-i
invariant-loop-i l = (field : List ℕ) → is_some (get_field l.set field) ≡ list_any (bytes_eq field) (take l.i l.fields)
