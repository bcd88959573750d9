-- How some definitions are spelled, with words parted by blanks here, and what cannot be spelled.
use Rattle.std.proofs.Common.{◌≡◌, ℕ, List, [], ◌∷◌, ◌++◌, true, false, refl}
use Rattle.std.specs.Prelude.{codes}
use Rattle.std.specs.Fmt.{digits}
use Rattle.ft_base.specs.declared.definition.Field.{Field}
use Rattle.ft_base.specs.declared.definition.FieldKind.{FieldKind}
use Rattle.ft_base.specs.declared.definition.FieldKind.TheVariants.{Text, Tag, Numeric}
use Rattle.ft_base.specs.declared.definition.IndexDef.{IndexDef}
use Rattle.ft_schema.specs.Names.{field_option_of}
use Rattle.ft_schema.specs.Spellable.{can_follow}
use Rattle.ft_schema.specs.Spelling.{create_words, alter_words}
use Rattle.ft_schema.proofs.Examples.{words, field}

-- a field with the options of every kind
abbrev optional : List ℕ → List ℕ → FieldKind → Field
optional name alias kind = record { name = name; alias = alias; kind = kind; sortable = true; unf = true; noindex = true }

abbrev sorted : List ℕ → FieldKind → Field
sorted name kind = record { name = name; alias = name; kind = kind; sortable = true; unf = false; noindex = false }

-- an index with every option that a definition keeps
abbrev whole : IndexDef
whole = record {
  name = codes "ix";
  serial = 7;
  prefixes = codes "a:" ∷ codes "b:" ∷ [];
  stops = record { words = codes "the" ∷ [] };
  fields = optional (codes "t") (codes "title") Text
      ∷ sorted (codes "g") (Tag 59 true)
      ∷ optional (codes "UNF") (codes "n") Numeric
      ∷ [];
}

spelled_whole : create_words whole
    ≡ words (codes "FT.CREATE ix PREFIX 2 a: b: STOPWORDS 1 the SCHEMA")
    ++ (words (codes "t AS title TEXT SORTABLE UNF NOSTEM NOINDEX")
    ++ (words (codes "g AS g TAG SORTABLE SEPARATOR ; CASESENSITIVE") ++ words (codes "UNF AS n NUMERIC SORTABLE UNF NOINDEX")))
unfolding digits
spelled_whole = refl

-- one without prefixes and without stop words
abbrev least : IndexDef
least = record {
  name = codes "ix";
  serial = 7;
  prefixes = [];
  stops = record { words = [] };
  fields = field (codes "n") (codes "n") Numeric ∷ [];
}

spelled_least : create_words least ≡ words (codes "FT.CREATE ix STOPWORDS 0 SCHEMA n AS n NUMERIC")
unfolding digits
spelled_least = refl

-- fields that are added
spelled_added : alter_words (codes "ix") (field (codes "t") (codes "t") Text ∷ field (codes "g") (codes "AS") (Tag 44 false) ∷ [])
    ≡ words (codes "FT.ALTER ix SCHEMA ADD t AS t TEXT NOSTEM g AS AS TAG SEPARATOR ,")
spelled_added = refl

-- a name that is an option of a TEXT field, behind one and behind a TAG field
behind_text : can_follow (field (codes "t") (codes "t") Text) (codes "weight") ≡ false
unfolding field_option_of
behind_text = refl

behind_tag : can_follow (field (codes "g") (codes "g") (Tag 44 false)) (codes "weight") ≡ true
unfolding field_option_of
behind_tag = refl

-- UNF behind a NUMERIC field that ends with SORTABLE, and behind a TAG field, which ends otherwise
unf_behind_numeric : can_follow (sorted (codes "n") Numeric) (codes "unf") ≡ false
unfolding field_option_of
unf_behind_numeric = refl

unf_behind_tag : can_follow (sorted (codes "g") (Tag 44 false)) (codes "unf") ≡ true
unfolding field_option_of
unf_behind_tag = refl
