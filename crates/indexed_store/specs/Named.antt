-- Indexes by their names and serials.
use Rattle.std.specs.Prelude.{ℕ, List, [], ◌∷◌, Bool, nat_eq, if◌then◌else◌}
use Rattle.std.specs.Str.{bytes_eq}
use Rattle.ft_index.specs.Index.{Index}

-- whether an index has this name
abbrev pub is_named : List ℕ → Index → Bool
is_named name index = bytes_eq name index.def.name

-- the indexes but the first of this name
abbrev pub without_named : List Index → List ℕ → List Index
without_named [] name = []
without_named (index ∷ indexes) name = if is_named name index then indexes else index ∷ without_named indexes name

-- whether an index has this serial
abbrev pub has_serial : ℕ → Index → Bool
has_serial serial index = nat_eq serial index.def.serial

-- the indexes with another in the place of the first of this serial
abbrev pub with_serial : List Index → ℕ → Index → List Index
with_serial [] serial new = []
with_serial (index ∷ indexes) serial new = if has_serial serial index then new ∷ indexes else index ∷ with_serial indexes serial new
