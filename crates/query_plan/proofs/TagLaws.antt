-- The tags that a query looks for, in a document.
use Rattle.std.proofs.Common.{◌≡◌, ℕ, Bool, true, cond, List, [], ◌∷◌, ◌++◌, map, Option, Some, None, refl, sym, ap, ◌∙◌, inl, inr}
use Rattle.std.specs.List.{list_any, slice_get}
use Rattle.std.specs.Str.{bytes_eq}
use Rattle.std.proofs.Math.Bool.{or-false}
use Rattle.std.proofs.lemmas.Bool.{cases_Bool}
use Rattle.std.proofs.lemmas.List.{flat_map_more, map-append}
use Rattle.ft_base.specs.declared.definition.Field.{Field}
use Rattle.ft_base.specs.declared.definition.IndexDef.{IndexDef}
use Rattle.ft_base.specs.Docs.{Doc}
use Rattle.ft_base.specs.declared.query.TagPart.{TagPart}
use Rattle.ft_meaning.specs.Holds as holds
use Rattle.ft_meaning.specs.Holds.{begins, is_sought}
use Rattle.ft_index.specs.Entries.{searched_tags}
use Rattle.query_merge.specs.Merged.{AreParts}
use Rattle.query_plan.specs.Sought.{sought_by, all_sought}
use Rattle.query_plan.proofs.AnyLaws.{any_cong, any_swap}
use Rattle.query_plan.proofs.PrefixLaws.{any_flat, begins_among}

-- a document has a tag that is looked for where one of its tags, by which the field is searched, is
searched_sought : (doc : Doc) (parts : List TagPart) (field : Option Field) → list_any (is_sought parts) (searched_tags field doc) ≡ holds.has_tag doc parts field
searched_sought doc parts None = refl
searched_sought doc parts (Some field) =
    elim (cases_Bool field.noindex) [
      | inl y ↦ rw y refl
      | inr n ↦ rw n refl
    ]

-- whether a part looks for a tag
abbrev looks_for : TagPart → List ℕ → Bool
looks_for part tag = cond part.prefix (begins part.text tag) (bytes_eq part.text tag)

module _ (tags : List (List ℕ)) (found : List (List ℕ)) (named : (tag : List ℕ) → list_any (bytes_eq tag) found ≡ true → list_any (bytes_eq tag) tags ≡ true) where
  sought_here : (part : TagPart) → list_any (λ tag. list_any (bytes_eq tag) found) (sought_by tags part) ≡ list_any (looks_for part) found
  sought_here part =
      elim (cases_Bool part.prefix) [
        | inl y ↦ rw y (begins_among part.text tags found named)
        | inr n ↦ rw n (or-false (list_any (bytes_eq part.text) found))
      ]

  -- One of the tags that are found is looked for where a tag that has a list and is looked for is one of them.
  pub sought_among : (parts : List TagPart) → list_any (λ tag. list_any (bytes_eq tag) found) (all_sought tags parts) ≡ list_any (is_sought parts) found
  sought_among parts =
      any_flat (λ tag. list_any (bytes_eq tag) found) (sought_by tags) parts
      ∙ any_cong (λ part. list_any (λ tag. list_any (bytes_eq tag) found) (sought_by tags part)) (λ part. list_any (looks_for part) found) parts sought_here
      ∙ any_swap looks_for parts found

pub tags_are : (def : IndexDef) (doc : Doc) (field : ℕ) (parts : List TagPart) (tags : List (List ℕ))
    → ((tag : List ℕ) → list_any (bytes_eq tag) (searched_tags (slice_get def.fields field) doc) ≡ true → list_any (bytes_eq tag) tags ≡ true)
    → list_any (λ tag. list_any (bytes_eq tag) (searched_tags (slice_get def.fields field) doc)) (all_sought tags parts)
    ≡ holds.has_tag doc parts (slice_get def.fields field)
tags_are def doc field parts tags named =
    sought_among tags (searched_tags (slice_get def.fields field) doc) named parts ∙ searched_sought doc parts (slice_get def.fields field)

-- where equal parts count once, what some tag passes that is looked for is the same
pub kept_sought : (tags : List (List ℕ)) (parts kept : List TagPart) → AreParts parts kept → (test : List ℕ → Bool)
    → list_any test (all_sought tags kept) ≡ list_any test (all_sought tags parts)
kept_sought tags parts kept are test =
    any_flat test (sought_by tags) kept
    ∙ are.some (λ part. list_any test (sought_by tags part))
    ∙ sym (any_flat test (sought_by tags) parts)

-- the tags of one more part go behind those of the others, each by its name
pub sought_more : {Y : Type 0} (name : List ℕ → Y) (tags : List (List ℕ)) (parts more : List TagPart) (part : TagPart) (found new : List Y)
    → more ≡ parts ++ part ∷ [] → found ≡ map name (all_sought tags parts) → new ≡ found ++ map name (sought_by tags part)
    → new ≡ map name (all_sought tags more)
sought_more {Y} name tags parts more part found new is_more before is_new =
    is_new
    ∙ ap (λ (names : List Y). names ++ map name (sought_by tags part)) before
    ∙ sym (map-append name (all_sought tags parts) (sought_by tags part))
    ∙ ap (map name) (flat_map_more (sought_by tags) [] parts part)
    ∙ ap (λ (ps : List TagPart). map name (all_sought tags ps)) (sym is_more)
