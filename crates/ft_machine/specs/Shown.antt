-- How the documents that a search counts are shown (RediSearch, FT.SEARCH: NOCONTENT, RETURN and LIMIT).
use Rattle.std.specs.Prelude.{ℕ, pos, List, [], ◌∷◌, length, take, drop, ◌==◌, Option, Some, None, if◌then◌else◌}
use Rattle.std.specs.List.{find, flat_map}
use Rattle.std.specs.Str.{bytes_eq}
use Rattle.cmd_parse.specs.Searching.{Searching}
use Rattle.ft_base.specs.Hash.{Hash, get_field, in_turn}
use Rattle.ft_base.specs.declared.definition.Field.{Field}
use Rattle.ft_base.specs.declared.definition.IndexDef.{IndexDef}
use Rattle.ft_base.specs.Docs.{Doc}
use Rattle.ft_base.specs.declared.reply.Reply.{Reply}
use Rattle.ft_base.specs.declared.reply.Reply.TheVariants.{Array, Bulk, Number}

-- a name of RETURN without the `@` that it may begin with
abbrev pub bare_name : List ℕ → List ℕ
bare_name [] = []
bare_name (b ∷ name) = if b == 64 then name else b ∷ name

-- the hash's field that a name stands for: that of the alias, else the one of this very name
abbrev pub named_by : Option Field → List ℕ → List ℕ
named_by None name = name
named_by (Some field) name = field.name

abbrev pub field_named : List Field → List ℕ → List ℕ
field_named fields name = named_by (find (λ (field : Field). bytes_eq name field.alias) fields) name

-- a name as it was given and its value, where there is one
abbrev pub with_value : List ℕ → Option (List ℕ) → List Reply
with_value name None = []
with_value name (Some text) = Bulk name ∷ Bulk text ∷ []

abbrev pub named_in : List Field → Hash → List ℕ → List Reply
named_in fields hash name = with_value name (get_field hash (field_named fields (bare_name name)))

-- the fields that are shown: those that are named and there, in the order in which they are named, or all
abbrev pub fields_shown : Option (List (List ℕ)) → List Field → Hash → List Reply
fields_shown None fields hash = in_turn hash
fields_shown (Some names) fields hash = flat_map (named_in fields hash) names

-- one document: its key, and behind it its fields unless they are left out
abbrev pub row_of : Searching → IndexDef → Doc → List Reply
row_of what def doc = Bulk doc.key ∷ (if what.no_content then [] else Array (fields_shown what.fields def.fields doc.hash) ∷ [])

-- the rows that LIMIT asks for
abbrev pub page_of : Searching → List Doc → List Doc
page_of what docs = take what.num (drop what.offset docs)

-- the number of all documents that count, and those of the page as they are shown
abbrev pub found_reply : Searching → IndexDef → List Doc → Reply
found_reply what def docs = Array (Number (pos (length docs)) ∷ flat_map (row_of what def) (page_of what docs))
