-- What a look-up and a change in the map say of the tags of its fields.
use Rattle.std.proofs.Common.{◌≡◌, ℕ, ◌&&◌, true, false, List, [], ◌∷◌, Option, None, Some, refl, sym, ap, subst, ◌∙◌, nat_eq, nat_le, inl, inr, arith}
use Rattle.std.specs.BTreeMap.Range.{entries_between}
use Rattle.std.specs.declared.ops.Bound.TheVariants.{Included, Unbounded}
use Rattle.std.specs.BTreeMap.{is_at}
use Rattle.std.specs.List.Sorted.{IsStrictlySortedBy}
use Rattle.std.specs.Map.{lookup, set_value}
use Rattle.std.specs.Option.{unwrap_or}
use Rattle.std.specs.Ordering.{is_le, nat_cmp}
use Rattle.std.proofs.lemmas.Bool.{cases_Bool, eqb-true, false≢true}
use Rattle.std.proofs.lemmas.Bool.Decides.{nat_tests}
use Rattle.std.proofs.lemmas.Map.Steps.{set_value_same}
use Rattle.ft_base.proofs.RowsLaws.{is_at-nat_eq, lookup-at}
use Rattle.posting_block.specs.declared.hits.TagHit.{TagHit}
use Rattle.inverted_list.specs.Listing.{Listing}
use Rattle.term_dict.specs.Terms.{Lists, Sets}
use Rattle.term_dict.specs.Tags.{FieldTags, FieldsKept, SetsTag, TagsRise, first_field, tags_of}

same_true : (a b : ℕ) → a ≡ b → nat_eq a b ≡ true
same_true a b e = grind (arith, nat_tests)

-- what the map lends for a field is the field's dictionary
pub tags_found : (field : ℕ) (rows : FieldTags) (found : Option (Lists TagHit)) → found ≡ lookup (is_at (nat_cmp field)) rows
    → tags_of rows field ≡ unwrap_or found []
tags_found field rows found h = ap (λ o. unwrap_or o []) (sym (lookup-at field rows) ∙ sym h)

-- A field has this dictionary now, and each other field has what it had.
pub record Puts (field : ℕ) (tags : Lists TagHit) (old new : FieldTags) : Type 0 where
  pub here : tags_of new field ≡ tags
  pub others : (other : ℕ) → ¬ (other ≡ field) → lookup (nat_eq other) new ≡ lookup (nat_eq other) old

other_no : (field other : ℕ) → ¬ (other ≡ field) → is_at (nat_cmp field) other ≡ false
other_no field other apart = elim (cases_Bool (nat_eq field other)) [
  | inl y ↦ absurd (apart (sym (eqb-true field other y)))
  | inr n ↦ is_at-nat_eq field other ∙ n
]

-- a change at one field of the map
pub puts_rows : (field : ℕ) (tags : Lists TagHit) (old new : FieldTags) → lookup (is_at (nat_cmp field)) new ≡ Some tags
    → ((other : ℕ) → is_at (nat_cmp field) other ≡ false → lookup (is_at (nat_cmp other)) new ≡ lookup (is_at (nat_cmp other)) old)
    → Puts field tags old new
puts_rows field tags old new here others = record {
  here = tags_found field new (Some tags) (sym here);
  others = λ other apart. sym (lookup-at other new) ∙ (others other (other_no field other apart) ∙ lookup-at other old);
}

-- where the dictionary that was put changes one tag of the one before, the field's tag changes
pub sets_tag : (field : ℕ) (tag : List ℕ) (list : Lists TagHit → Option (Listing TagHit)) (tags before : Lists TagHit) (old new : FieldTags)
    → Puts field tags old new → tags_of old field ≡ before → Sets tag (list before) before tags → SetsTag field tag (list (tags_of old field)) old new
sets_tag field tag list tags before old new puts was sets = record {
  here = subst (λ t. Sets tag (list t) t (tags_of new field)) (sym was) (subst (λ t. Sets tag (list before) before t) (sym puts.here) sets);
  others = puts.others;
}

-- a dictionary that is written back as it was changes nothing
pub written_same : (field : ℕ) (tags before : Lists TagHit) (old new : FieldTags) → new ≡ set_value (is_at (nat_cmp field)) old tags
    → tags ≡ before → Some before ≡ lookup (is_at (nat_cmp field)) old → new ≡ old
written_same field tags before old new written same found =
    written ∙ (ap (set_value (is_at (nat_cmp field)) old) same ∙ set_value_same (is_at (nat_cmp field)) old before (sym found))

-- the tags of no dictionary rise
none_rise : TagsRise []
unfolding IsStrictlySortedBy
none_rise = record { words = tt; ids = λ _. tt }

-- and there are none of them
pub none_kept : FieldsKept [] 0
none_kept = record { tags = λ _. none_rise; counted = refl }

-- they go on rising where those of one field rise, and the others are as they were
pub fields_rise : (field : ℕ) (old new : FieldTags) → ((f : ℕ) → TagsRise (tags_of old f)) → TagsRise (tags_of new field)
    → ((other : ℕ) → ¬ (other ≡ field) → lookup (nat_eq other) new ≡ lookup (nat_eq other) old) → (f : ℕ) → TagsRise (tags_of new f)
fields_rise field old new rise here others f = elim (cases_Bool (nat_eq f field)) [
  | inl y ↦ subst (λ n. TagsRise (tags_of new n)) (sym (eqb-true f field y)) here
  | inr n ↦ subst TagsRise (ap (λ o. unwrap_or o []) (sym (others f (λ e. false≢true (sym n ∙ same_true f field e))))) (rise f)
]

-- the first field of rows
abbrev pub head_field : FieldTags → Option ℕ
head_field [] = None
head_field (row ∷ rows) = Some row.0

le_is : (a b : ℕ) → (is_le (nat_cmp a b) && true) ≡ nat_le a b
le_is a b = grind (arith, nat_tests)

-- the fields from a number on begin with the least of them
pub first_from : (from : ℕ) (rows : FieldTags) → first_field from rows ≡ head_field (entries_between nat_cmp (Included from) Unbounded rows)
first_from from [] = refl
first_from from (row ∷ rows) = elim (cases_Bool (nat_le from row.0)) [
  | inl y ↦ rw (le_is from row.0, y) refl
  | inr n ↦ rw (le_is from row.0, n) (first_from from rows)
]
