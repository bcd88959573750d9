-- Which documents are in an index (RediSearch, FT.CREATE: PREFIX, and hashes that fail to be indexed), from a
-- document's key and hash alone.
use Rattle.std.specs.Prelude.{ℕ, ◌+◌, ◌-◌, ◌^◌, min, List, [], ◌∷◌, Bool, true, ◌&&◌, ◌||◌, not, nat_eq, filter, Option, Some, None, is_some, if◌then◌else◌}
use Rattle.std.specs.List.{list_any, list_all, starts_with}
use Rattle.ft_base.specs.Hash.{Hash, get_field}
use Rattle.ft_base.specs.Kinds.{is_numeric}
use Rattle.ft_base.specs.declared.definition.Field.{Field}
use Rattle.ft_base.specs.declared.definition.IndexDef.{IndexDef}
use Rattle.ft_base.specs.Docs.{Doc}
use Rattle.field_text.specs.Numbers.{number_of}

-- whether a key begins with one of the prefixes
abbrev pub has_prefix : List (List ℕ) → List ℕ → Bool
has_prefix prefixes key = list_any (λ (prefix : List ℕ). starts_with nat_eq key prefix) prefixes

-- Whether an index with these prefixes takes a key. Without prefixes it takes each.
abbrev pub takes_key : List (List ℕ) → List ℕ → Bool
takes_key [] key = true
takes_key (prefix ∷ prefixes) key = has_prefix (prefix ∷ prefixes) key

-- a value spells a number where it is there
abbrev pub value_reads : Option (List ℕ) → Bool
value_reads None = true
value_reads (Some value) = is_some (number_of value)

-- A NUMERIC field needs a number where the hash has its field. NOINDEX makes no difference.
abbrev pub field_reads : Hash → Field → Bool
field_reads hash field = not (is_numeric field.kind) || value_reads (get_field hash field.name)

-- whether each NUMERIC field of a hash has a number, or is not there
abbrev pub numbers_read : List Field → Hash → Bool
numbers_read fields hash = list_all (field_reads hash) fields

-- A document is a member of an index that takes its key, where its NUMERIC fields have numbers.
abbrev pub member : IndexDef → Doc → Bool
member def doc = takes_key def.prefixes doc.key && numbers_read def.fields doc.hash

-- A document that the index takes by its key fails where a NUMERIC field has something else than a number.
abbrev pub failed : IndexDef → Doc → Bool
failed def doc = takes_key def.prefixes doc.key && not (numbers_read def.fields doc.hash)

-- how often a hash failed to be indexed, as far as it is counted
abbrev pub most_failures : ℕ
most_failures = 2 ^ 63 - 1

abbrev pub one_more : ℕ → ℕ
one_more failures = min (failures + 1) most_failures

-- the count once a document was tried
abbrev pub failures_with : IndexDef → Doc → ℕ → ℕ
failures_with def doc failures = if failed def doc then one_more failures else failures

-- the documents that are members, in their order
abbrev pub members : IndexDef → List Doc → List Doc
members def docs = filter (member def) docs
