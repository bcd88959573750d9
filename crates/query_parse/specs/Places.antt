-- At which places parameters are found by their names.
use Rattle.std.specs.Prelude.{◌≡◌, ℕ, suc, List, [], ◌∷◌, Option, Some, None, if◌then◌else◌}
use Rattle.std.specs.BTreeMap.{BTreeMap, get_by}
use Rattle.std.specs.Cmp.Lexicographic.{slice_cmp}
use Rattle.std.specs.Ordering.{nat_cmp}
use Rattle.std.specs.Str.{bytes_eq}
use denote.Ref.{Bor}
use Rattle.ft_base.specs.declared.query.Param.{Param}

-- the place of the first parameter of a name, where places are counted from a number on
abbrev pub place_from : ℕ → List Param → List ℕ → Option ℕ
place_from from [] name = None
place_from from (param ∷ params) name = if bytes_eq name param.name then Some from else place_from (suc from) params name

-- the place that a map has for a name
abbrev pub place_in : BTreeMap (Bor (List ℕ)) ℕ → List ℕ → Option ℕ
place_in places name = get_by (λ (key : Bor (List ℕ)). slice_cmp nat_cmp name key.now) places

-- The map has the place of the first parameter of each name, and no other name.
abbrev pub IsIndexOf : List Param → BTreeMap (Bor (List ℕ)) ℕ → Type 0
IsIndexOf params places = (name : List ℕ) → place_in places name ≡ place_from 0 params name
