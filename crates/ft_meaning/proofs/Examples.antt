-- What the definitions say of an index with the prefixes `a:` and `b:`, a TEXT field and a NUMERIC one, and how the live
-- records of an index with more fields are counted.
use Rattle.std.proofs.Common.{◌≡◌, ℕ, true, false, List, [], ◌∷◌, map, refl}
use Rattle.std.specs.Prelude.{codes}
use Rattle.ft_base.specs.Hash.{Hash}
use Rattle.ft_base.specs.declared.definition.Field.{Field}
use Rattle.ft_base.specs.declared.definition.FieldKind.{FieldKind}
use Rattle.ft_base.specs.declared.definition.FieldKind.TheVariants.{Text, Tag, Numeric}
use Rattle.ft_base.specs.declared.definition.IndexDef.{IndexDef}
use Rattle.ft_base.specs.Docs.{Doc}
use Rattle.ft_base.specs.declared.query.Fields.TheVariants as fields
use Rattle.ft_meaning.specs.Holds.{has_of}
use Rattle.ft_meaning.specs.Meaning.{found_by}
use Rattle.ft_meaning.specs.Member.{member, failed}
use Rattle.ft_meaning.specs.Records.{live_records, records_of}

abbrev field : List ℕ → FieldKind → Field
field name kind = record { name = name; alias = name; kind = kind; sortable = false; unf = false; noindex = false }

abbrev index : IndexDef
index = record {
  name = codes "ix";
  serial = 1;
  prefixes = codes "a:" ∷ codes "b:" ∷ [];
  stops = record { words = [] };
  fields = field (codes "t") Text ∷ field (codes "n") Numeric ∷ [];
}

abbrev stored : ℕ → List ℕ → Hash → Doc
stored id key hash = record { id = id; key = key; hash = hash }

abbrev pen : Hash
pen = (codes "t", codes "pen") ∷ []

-- a member of each prefix, without a number and with one; one that no prefix begins; one whose number is none
abbrev documents : List Doc
documents =
    stored 2 (codes "a:1") pen
    ∷ stored 3 (codes "c:1") pen
    ∷ stored 4 (codes "b:1") ((codes "n", codes "007") ∷ pen)
    ∷ stored 5 (codes "b:2") ((codes "n", codes "19.99") ∷ pen)
    ∷ []

members : map (member index) documents ≡ true ∷ false ∷ true ∷ false ∷ []
members = refl

-- a key that no prefix begins is no failure
failures : map (failed index) documents ≡ false ∷ false ∷ false ∷ true ∷ []
failures = refl

-- each document has the word, and the members alone are found
found_pens : map (λ (doc : Doc). doc.id) (found_by (λ def doc. (has_of def doc).word fields.All (codes "pen")) index documents) ≡ 2 ∷ 4 ∷ []
found_pens = refl

-- a field that is NOINDEX
abbrev hidden : List ℕ → FieldKind → Field
hidden name kind = record (field name kind) { noindex = true }

-- an index with two fields of each kind, and a third of each that is NOINDEX; a comma is between tags
abbrev shop : IndexDef
shop = record index {
  fields =
      field (codes "title") Text
      ∷ field (codes "text") Text
      ∷ hidden (codes "note") Text
      ∷ field (codes "kind") (Tag 44 false)
      ∷ field (codes "mark") (Tag 44 false)
      ∷ hidden (codes "shelf") (Tag 44 false)
      ∷ field (codes "price") Numeric
      ∷ field (codes "year") Numeric
      ∷ hidden (codes "cost") Numeric
      ∷ [];
}

-- `red` and `hat`: a word in two TEXT fields counts once
abbrev words : Hash
words = (codes "title", codes "Red hat") ∷ (codes "text", codes "hat, red hat") ∷ []

counted_words : records_of shop (stored 2 (codes "a:1") words) ≡ 2
counted_words = refl

-- `wool` and `sale` of one field, `wool` of the other: a tag counts once in each TAG field
abbrev tags : Hash
tags = (codes "kind", codes "wool, sale, Wool") ∷ (codes "mark", codes "wool") ∷ []

counted_tags : records_of shop (stored 3 (codes "a:2") tags) ≡ 3
counted_tags = refl

-- the same number in two NUMERIC fields
abbrev numbers : Hash
numbers = (codes "price", codes "25") ∷ (codes "year", codes "25") ∷ []

counted_numbers : records_of shop (stored 4 (codes "a:3") numbers) ≡ 2
counted_numbers = refl

-- what stands in NOINDEX fields alone, and in fields that the index lacks
abbrev unfound : Hash
unfound = (codes "note", codes "red hat") ∷ (codes "shelf", codes "wool") ∷ (codes "cost", codes "25") ∷ (codes "color", codes "red") ∷ []

counted_unfound : records_of shop (stored 5 (codes "a:4") unfound) ≡ 0
counted_unfound = refl

-- each document has records of its own
counted_all : live_records shop (stored 2 (codes "a:1") words ∷ stored 3 (codes "a:2") tags ∷ stored 4 (codes "a:3") words ∷ []) ≡ 7
counted_all = refl
