-- Which names a set of names has.
use Rattle.std.specs.Prelude.{◌≡◌, ℕ, List, Bool}
use Rattle.std.specs.List.{list_any}
use Rattle.std.specs.Str.{bytes_eq}
use Rattle.std.specs.declared.alloc.Global.{Global}
use Rattle.std.specs.declared.vec.Vec.{Vec}
use Rattle.query_grammar.specs.Grammar.{has_name}
use Rattle.query_parse.specs.declared.name_set.NameSet.{NameSet}

-- whether a stored name is the one that is asked for
abbrev pub is_kept : List ℕ → Vec ℕ Global → Bool
is_kept name key = bytes_eq name key.items

-- whether a set has a name
abbrev pub holds : NameSet → List ℕ → Bool
holds names name = list_any (is_kept name) names.known.keys

-- the set has these names and no others
abbrev pub HasNames : NameSet → List (List ℕ) → Type 0
HasNames names all = (name : List ℕ) → holds names name ≡ has_name all name
