-- Items with names: which one a name finds.
use Rattle.std.specs.Prelude.{◌≡◌, ℕ, List, Option, Some, None, if◌then◌else◌}
use Rattle.std.specs.List.{find, position}
use Rattle.std.specs.Map.{lookup}
use Rattle.std.specs.Option.{option_or}
use Rattle.std.specs.Str.{bytes_eq}
use Rattle.std.specs.declared.alloc.Global.{Global}
use Rattle.std.specs.declared.vec.Vec.{Vec}

-- names and the places of their first items
abbrev pub Places : Type 0
Places = List (List ℕ × ℕ)

-- the place that is noted for a name
abbrev pub noted_at : Places → List ℕ → Option ℕ
noted_at places name = lookup (bytes_eq name) places

-- a place for a name, where it is this one
abbrev pub place_if : List ℕ → ℕ → List ℕ → Option ℕ
place_if name place other = if bytes_eq name other then Some place else None

-- A place was noted for a name, unless there was one.
abbrev pub IsNoted : List ℕ → ℕ → Places → Places → Type 0
IsNoted name place old new = (other : List ℕ) → noted_at new other ≡ option_or (noted_at old other) (place_if name place other)

-- the place of the first item of a name
abbrev pub place_of : {T : Type 0} → (T → List ℕ) → List T → List ℕ → Option ℕ
place_of name_of items name = position (λ item. bytes_eq (name_of item) name) items

-- the first item of a name
abbrev pub item_of : {T : Type 0} → (T → List ℕ) → List T → List ℕ → Option T
item_of name_of items name = find (λ item. bytes_eq (name_of item) name) items

-- For each name the place of its first item is noted, and for no other name one.
abbrev pub FindsFirst : {T : Type 0} → (T → List ℕ) → List T → Places → Type 0
FindsFirst name_of items places = (name : List ℕ) → noted_at places name ≡ place_of name_of items name

-- ---- as they are stored

-- an entry as its name's bytes and its place
abbrev pub noted_of : Vec ℕ Global × ℕ → List ℕ × ℕ
noted_of entry = (entry.0.items, entry.1)
