-- Look-ups and additions in a set of aliases and in a list of fields, seen as those of the lists that they stand for.
use Rattle.std.proofs.Common.{◌≡◌, ℕ, Bool, true, false, List, [], ◌∷◌, ◌++◌, ◌||◌, ◌+◌, ◌≤◌, length, refl, ap, ◌∙◌, cond}
use Rattle.std.specs.List.{list_any}
use Rattle.std.specs.Str.{bytes_eq}
use Rattle.std.specs.declared.vec.Vec.{Vec}
use Rattle.std.specs.declared.alloc.Global.{Global}
use Rattle.std.proofs.lemmas.List.Sums.{sum_by-append, count_by-le-length}
use Rattle.ft_base.specs.declared.definition.Field.{Field}
use Rattle.ft_schema.specs.AliasKeys.{aliases_of}
use Rattle.ft_schema.specs.FieldAliases.{field_aliases}
use Rattle.ft_schema.specs.Fields.{has_alias, text_count}
use Rattle.ft_base.specs.Kinds.{is_text}

-- whether a stored alias is the one that is asked for
abbrev pub is_kept : List ℕ → Vec ℕ Global → Bool
is_kept alias key = bytes_eq alias key.items

pub has-aliases_of : (alias : List ℕ) (keys : List (Vec ℕ Global)) → list_any (is_kept alias) keys ≡ list_any (bytes_eq alias) (aliases_of keys)
has-aliases_of alias [] = refl
has-aliases_of alias (key ∷ keys) = ap (λ others. bytes_eq alias key.items || others) (has-aliases_of alias keys)

pub aliases_of-push : (keys : List (Vec ℕ Global)) (key : Vec ℕ Global) → aliases_of (keys ++ key ∷ []) ≡ aliases_of keys ++ key.items ∷ []
aliases_of-push [] key = refl
aliases_of-push (k ∷ keys) key = ap (λ others. k.items ∷ others) (aliases_of-push keys key)

-- fields have an alias where it is among their aliases
pub has-field_aliases : (alias : List ℕ) (fields : List Field) → list_any (bytes_eq alias) (field_aliases fields) ≡ has_alias fields alias
has-field_aliases alias [] = refl
has-field_aliases alias (field ∷ fields) = ap (λ others. bytes_eq alias field.alias || others) (has-field_aliases alias fields)

pub field_aliases-push : (fields : List Field) (field : Field) → field_aliases (fields ++ field ∷ []) ≡ field_aliases fields ++ field.alias ∷ []
field_aliases-push [] field = refl
field_aliases-push (f ∷ fields) field = ap (λ others. f.alias ∷ others) (field_aliases-push fields field)

-- one field more counts as one where it is a TEXT field
pub text_count-push : (fields : List Field) (field : Field) → text_count (fields ++ field ∷ []) ≡ text_count fields + cond (is_text field.kind) 1 0
text_count-push fields field = sum_by-append (λ (f : Field). cond (is_text f.kind) 1 0) fields (field ∷ []) ∙ ap (λ n. text_count fields + n) (one_or_none (is_text field.kind))
  where
    one_or_none : (b : Bool) → 0 + cond b 1 0 ≡ cond b 1 0
    one_or_none true = refl
    one_or_none false = refl

pub text_count-within : (fields : List Field) → text_count fields ≤ length fields
text_count-within fields = count_by-le-length (λ (f : Field). is_text f.kind) fields
