-- The tags of a field over the members of an index (RediSearch, FT.TAGVALS).
use Rattle.std.specs.Prelude.{ℕ, List, [], ◌∷◌, ◌++◌, fold}
use Rattle.std.specs.BTreeSet.{insert_key}
use Rattle.std.specs.Cmp.Lexicographic.{slice_cmp}
use Rattle.std.specs.Ordering.{nat_cmp}
use Rattle.ft_base.specs.declared.definition.Field.{Field}
use Rattle.ft_base.specs.declared.definition.IndexDef.{IndexDef}
use Rattle.ft_base.specs.Docs.{Doc}
use Rattle.ft_meaning.specs.Holds.{field_tags}
use Rattle.ft_meaning.specs.Member.{members}

-- the tags of each document's value of the field, one document after another
abbrev pub all_tags : Field → List Doc → List (List ℕ)
all_tags field [] = []
all_tags field (doc ∷ docs) = field_tags doc field ++ all_tags field docs

-- sorted tags with one more at its place in the order of bytes, unless it is there
abbrev pub with_tag : List (List ℕ) → List ℕ → List (List ℕ)
with_tag = insert_key (slice_cmp nat_cmp)

-- sorted tags with more of them
abbrev pub with_tags : List (List ℕ) → List (List ℕ) → List (List ℕ)
with_tags sorted tags = fold with_tag sorted tags

-- the tags of the field over the members, each once, in order of their bytes
abbrev pub tag_values : IndexDef → Field → List Doc → List (List ℕ)
tag_values def field docs = with_tags [] (all_tags field (members def docs))
