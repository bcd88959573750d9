-- What a map from words to lists stands for.
use Rattle.std.specs.Prelude.{ℕ, List, [], Option, None, Some, map}
use Rattle.std.specs.declared.vec.Vec.{Vec}
use Rattle.std.specs.declared.alloc.Global.{Global}
use Rattle.inverted_list.specs.Listing.{Listing}
use Rattle.term_dict.specs.Terms.{Lists}

-- rows of a map as words and their lists
abbrev pub lists_of : {P : Type 0} → List (Vec ℕ Global × Listing P) → Lists P
lists_of rows = map (λ row. (row.0.items, row.1)) rows

-- the rows that are left of a walk over a map: none where there is no map to walk over
abbrev pub left_of : {P : Type 0} → Option (List (Vec ℕ Global × Listing P)) → Lists P
left_of None = []
left_of (Some rows) = lists_of rows
