-- Which ids the entries of a list have: those of a word, of a tag and of a range of numbers.
use Rattle.std.specs.Prelude.{ℕ, ℤ, ◌^◌, ◌/◌, ◌%◌, ◌==◌, ◌&&◌, nat_eq, int_le, Bool, true, false, List, [], ◌∷◌, map, filter, Option, Some, None}
use Rattle.std.specs.List.{list_any}
use Rattle.std.specs.Map.{lookup}
use Rattle.ft_base.specs.declared.query.Fields.{Fields}
use Rattle.ft_base.specs.declared.query.Fields.TheVariants as fields
use Rattle.phrase_match.specs.Phrase.{within}
use Rattle.posting_block.specs.declared.hits.NumHit.{NumHit}
use Rattle.posting_block.specs.declared.hits.TagHit.{TagHit}
use Rattle.posting_block.specs.declared.hits.TextHit.{TextHit}

-- the field and the place that a code of a word's hit stands for
abbrev pub field_of : ℕ → ℕ
field_of code = code / 2 ^ 32

abbrev pub place_of : ℕ → ℕ
place_of code = code % 2 ^ 32

-- whether some entry has the id and a hit that is wanted
abbrev pub has_entry : {P : Type 0} → (P → Bool) → List (ℕ × P) → ℕ → Bool
has_entry wants entries id = list_any (λ e. nat_eq id e.0 && wants e.1) entries

-- whether there is a hit, and it is wanted
abbrev pub wanted : {P : Type 0} → (P → Bool) → Option P → Bool
wanted wants None = false
wanted wants (Some hit) = wants hit

-- whether a field is looked in: each one, or those that are named
abbrev pub looks_in : Fields → ℕ → Bool
looks_in fields.All field = true
looks_in (fields.Named named) field = list_any (λ other. other == field) named

-- Whether a hit counts: each one where all fields are looked in, else one with a code in a field that is named.
abbrev pub counts_in : Fields → TextHit → Bool
counts_in fields.All hit = true
counts_in (fields.Named named) hit = list_any (λ code. list_any (λ other. other == field_of code) named) hit.places

-- whether a number lies in a range, both ends included
abbrev pub lies_in : ℤ → ℤ → NumHit → Bool
lies_in low high hit = int_le low hit.value && int_le hit.value high

-- whether a document has a word in one of the fields, by the word's entries
abbrev pub word_has : Fields → List (ℕ × TextHit) → ℕ → Bool
word_has fields entries id = has_entry (counts_in fields) entries id

-- whether a document has a tag, by the tag's entries
abbrev pub tag_has : List (ℕ × TagHit) → ℕ → Bool
tag_has entries id = has_entry (λ hit. true) entries id

-- whether a document has a number from `low` to `high`, by a range's entries
abbrev pub range_has : ℤ → ℤ → List (ℕ × NumHit) → ℕ → Bool
range_has low high entries id = has_entry (lies_in low high) entries id

-- the codes of a word at an id; a word without an entry of the id has none
abbrev pub hit_codes : Option TextHit → List ℕ
hit_codes None = []
hit_codes (Some hit) = hit.places

abbrev pub codes_at : List (ℕ × TextHit) → ℕ → List ℕ
codes_at entries id = hit_codes (lookup (nat_eq id) entries)

-- the places of codes that are in a field
abbrev pub places_in : ℕ → List ℕ → List ℕ
places_in field codes = map place_of (filter (λ code. field_of code == field) codes)

-- whether words with these codes stand together in a field that is looked in
abbrev pub stand_in : Fields → Option ℕ → Bool → List (List ℕ) → ℕ → Bool
stand_in fields slop in_order words field = looks_in fields field && within (map (places_in field) words) slop in_order

-- Whether words with these codes stand together in some field of the first. Without a word they do not.
abbrev pub stand_together : Fields → Option ℕ → Bool → List (List ℕ) → Bool
stand_together fields slop in_order [] = false
stand_together fields slop in_order (first ∷ words) =
    list_any (λ code. stand_in fields slop in_order (first ∷ words) (field_of code)) first

-- whether a document has the words of a phrase together, by the entries of each
abbrev pub phrase_has : Fields → Option ℕ → Bool → List (List (ℕ × TextHit)) → ℕ → Bool
phrase_has fields slop in_order words id = stand_together fields slop in_order (map (λ entries. codes_at entries id) words)
