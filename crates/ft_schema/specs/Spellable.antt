-- Which fields and indexes words can say (RediSearch, FT.CREATE): those that are read back from their spelling.
use Rattle.std.specs.Prelude.{◌≡◌, ◌<◌, ◌^◌, List, [], ◌∷◌, length, Bool, true, not, ◌&&◌, codes, is_none}
use Rattle.std.specs.List.{AllByRecursion}
use Rattle.std.specs.Str.{str_to_ascii_lowercase}
use Rattle.ft_base.specs.Kinds.{is_numeric}
use Rattle.ft_base.specs.Names.{is_name}
use Rattle.ft_base.specs.declared.definition.Field.{Field}
use Rattle.ft_base.specs.declared.definition.IndexDef.{IndexDef}
use Rattle.ft_schema.specs.Lawful.{IsLawful}
use Rattle.ft_schema.specs.Names.{Word, field_option_of}

-- whether SORTABLE is a field's last word, so that UNF behind it would be taken for its own
abbrev pub ends_with_sortable : Field → Bool
ends_with_sortable field = is_numeric field.kind && (field.sortable && (not field.unf && not field.noindex))

-- whether a word behind a field begins another: it names no option of the field
abbrev pub can_follow : Field → Word → Bool
can_follow field word =
    is_none (field_option_of field.kind word)
    && not (ends_with_sortable field && is_name word (codes "UNF"))

-- whether the fields behind one begin with a name that can follow it
abbrev pub can_go_on : Field → List Field → Bool
can_go_on field [] = true
can_go_on field (next ∷ fields) = can_follow field next.name

-- No field's name is an option of the field before it, in any case: it would be read as that option.
abbrev pub AreApart : List Field → Type 0
AreApart [] = Unit {0}
AreApart (field ∷ fields) = (can_go_on field fields ≡ true) × AreApart fields

-- UNF is set only where SORTABLE is
abbrev pub IsUnfSortable : Field → Type 0
IsUnfSortable field = field.unf ≡ true → field.sortable ≡ true

-- a word without capitals
abbrev pub IsLower : Word → Type 0
IsLower word = str_to_ascii_lowercase word ≡ word

-- fields that words can say
pub record AreSpellable (fields : List Field) : Type 0 where
  -- there is a field, they keep the limits, and no two have one alias
  pub lawful : IsLawful fields
  -- each is UNF only where it is SORTABLE
  pub unf : AllByRecursion IsUnfSortable fields
  -- no field's name is an option of the field before it
  pub apart : AreApart fields

-- an index that words can say
pub record IsSpellable (index : IndexDef) : Type 0 where
  -- its fields are such
  pub fields : AreSpellable index.fields
  -- its stop words have no capitals
  pub lower : AllByRecursion IsLower index.stops.words
  -- the number of its prefixes can be read, being of 64 bits with a sign
  pub prefix_count : length index.prefixes < 2 ^ 63
  -- and so is that of its stop words
  pub stop_count : length index.stops.words < 2 ^ 63
