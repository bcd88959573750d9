-- How the number of all entries changes where one list does.
use Rattle.std.proofs.Common.{◌≡◌, ℕ, ◌+◌, List, [], ◌∷◌, Option, None, Some, length, refl, sym, ap, subst, ◌∙◌, length-append, arith}
use Rattle.std.specs.BTreeMap.{insert_entry, is_at}
use Rattle.std.specs.Cmp.Lexicographic.{nat_list_cmp_total}
use Rattle.std.specs.Cmp.{IsTotalOrder, nat_cmp_total}
use Rattle.std.specs.List.{sum_by}
use Rattle.std.specs.List.Sorted.{IsStrictlySortedBy}
use Rattle.std.specs.Map.{keys_of, lookup, remove_entry, set_value, values_of}
use Rattle.std.specs.Option.{option_map, unwrap_or}
use Rattle.std.specs.Ordering.{nat_cmp}
use Rattle.std.specs.declared.alloc.Global.{Global}
use Rattle.std.specs.declared.vec.Vec.{Vec}
use Rattle.std.proofs.lemmas.List.Sums.{sum_by-cons}
use Rattle.std.proofs.lemmas.Map.Entries.{sum_by-insert_entry, sum_by-remove_entry, sum_by-set_value}
use Rattle.inverted_list.specs.Listing.{Listing, with_entry}
use Rattle.posting_block.specs.declared.hits.TagHit.{TagHit}
use Rattle.term_dict.specs.Rows.{lists_of}
use Rattle.term_dict.specs.Tags.{FieldTags, entries_in_fields}
use Rattle.term_dict.specs.Terms.{Lists, entries_in_all, list_of}
use Rattle.term_dict.proofs.TermLaws.{Row, key_cmp, list_of-rows, word_at}

abbrev size : {P : Type 0} → Listing P → ℕ
size l = length l.entries

key_cmp_total : IsTotalOrder key_cmp
key_cmp_total = record {
  antisymm = λ a b. nat_list_cmp_total.antisymm a.items b.items;
  trans = λ a b c. nat_list_cmp_total.trans a.items b.items c.items;
  congr = λ a b c. nat_list_cmp_total.congr a.items b.items c.items;
}

module _ {P : Type 0} where
  in_all : (rows : List (Row P)) → entries_in_all (lists_of rows) ≡ sum_by size (values_of rows)
  in_all [] = refl
  in_all (row ∷ rows) =
      sum_by-cons (λ r. length r.1.entries) (row.0.items, row.1) (lists_of rows)
      ∙ (ap (λ n. length row.1.entries + n) (in_all rows) ∙ sym (sum_by-cons size row.1 (values_of rows)))

  -- a list in place of another one
  pub counted_written : (word : List ℕ) (old new : List (Row P)) (l k : Listing P) → lookup (is_at (word_at word)) old ≡ Some l
      → new ≡ set_value (is_at (word_at word)) old k → entries_in_all (lists_of new) + length l.entries ≡ entries_in_all (lists_of old) + length k.entries
  counted_written word old new l k found written =
      rw (in_all old, in_all new, written) (sum_by-set_value size (is_at (word_at word)) old l k found)

  -- a list of a word that had none
  pub counted_inserted : (name : Vec ℕ Global) (old new : List (Row P)) (k : Listing P) → IsStrictlySortedBy key_cmp (keys_of old)
      → lookup (is_at (word_at name.items)) old ≡ None → new ≡ insert_entry key_cmp old name k → entries_in_all (lists_of new) ≡ entries_in_all (lists_of old) + length k.entries
  counted_inserted name old new k rise none inserted =
      let e = sum_by-insert_entry size key_cmp_total old name k rise in
      let n = ap (λ (o : Option (Listing P)). unwrap_or (option_map size o) 0) none in
      rw (in_all old, in_all new, inserted) (omega arith)

  one_more : (l k : Listing P) (id : ℕ) (hit : P) → k ≡ with_entry l id hit → length k.entries ≡ length l.entries + 1
  one_more l k id hit e = ap (λ (m : Listing P). length m.entries) e ∙ length-append l.entries ((id, hit) ∷ [])

  -- so a list that got an entry counts one more
  pub counted_appended : (word : List ℕ) (old new : List (Row P)) (l k : Listing P) (id : ℕ) (hit : P) → lookup (is_at (word_at word)) old ≡ Some l
      → new ≡ set_value (is_at (word_at word)) old k → k ≡ with_entry l id hit → entries_in_all (lists_of new) ≡ entries_in_all (lists_of old) + 1
  counted_appended word old new l k id hit found written e =
      let a = counted_written word old new l k found written in
      let b = one_more l k id hit e in
      omega arith

  -- and so does one that is new
  pub counted_first : (word : List ℕ) (name : Vec ℕ Global) (old new : List (Row P)) (l k : Listing P) (id : ℕ) (hit : P) → IsStrictlySortedBy key_cmp (keys_of old)
      → name.items ≡ word → list_of (lists_of old) word ≡ None → new ≡ insert_entry key_cmp old name k → l.entries ≡ [] → k ≡ with_entry l id hit
      → entries_in_all (lists_of new) ≡ entries_in_all (lists_of old) + 1
  counted_first word name old new l k id hit rise named none inserted empty e =
      let n = subst (λ w. lookup (is_at (word_at w)) old ≡ None) (sym named) (sym (list_of-rows word old) ∙ none) in
      let a = counted_inserted name old new k rise n inserted in
      let b = one_more l k id hit e in
      let z = ap (λ (es : List (ℕ × P)). length es) empty in
      omega arith

  -- a list that is taken out with its word
  pub counted_removed : (word : List ℕ) (old new : List (Row P)) (l : Listing P) → lookup (is_at (word_at word)) old ≡ Some l
      → new ≡ remove_entry (is_at (word_at word)) old → entries_in_all (lists_of new) + length l.entries ≡ entries_in_all (lists_of old)
  counted_removed word old new l found removed =
      let e = sum_by-remove_entry size (is_at (word_at word)) old in
      let n = ap (λ (o : Option (Listing P)). unwrap_or (option_map size o) 0) found in
      rw (in_all old, in_all new, removed) (omega arith)

in_fields : (rows : FieldTags) → entries_in_fields rows ≡ sum_by entries_in_all (values_of rows)
in_fields [] = refl
in_fields (row ∷ rows) =
    sum_by-cons (λ r. entries_in_all r.1) row rows
    ∙ (ap (λ n. entries_in_all row.1 + n) (in_fields rows) ∙ sym (sum_by-cons entries_in_all row.1 (values_of rows)))

-- a dictionary in place of another one
pub fields_written : (field : ℕ) (old new : FieldTags) (tags after : Lists TagHit) → lookup (is_at (nat_cmp field)) old ≡ Some tags
    → new ≡ set_value (is_at (nat_cmp field)) old after → entries_in_fields new + entries_in_all tags ≡ entries_in_fields old + entries_in_all after
fields_written field old new tags after found written =
    rw (in_fields old, in_fields new, written) (sum_by-set_value entries_in_all (is_at (nat_cmp field)) old tags after found)

-- the dictionary of a field that had none
pub fields_inserted : (field : ℕ) (old new : FieldTags) (tags : Lists TagHit) → IsStrictlySortedBy nat_cmp (keys_of old)
    → lookup (is_at (nat_cmp field)) old ≡ None → new ≡ insert_entry nat_cmp old field tags → entries_in_fields new ≡ entries_in_fields old + entries_in_all tags
fields_inserted field old new tags rise none inserted =
    let e = sum_by-insert_entry entries_in_all nat_cmp_total old field tags rise in
    let n = ap (λ (o : Option (Lists TagHit)). unwrap_or (option_map entries_in_all o) 0) none in
    rw (in_fields old, in_fields new, inserted) (omega arith)

-- so where the dictionary of a field counts one more
pub fields_more : (field : ℕ) (old new : FieldTags) (tags after : Lists TagHit) → lookup (is_at (nat_cmp field)) old ≡ Some tags
    → new ≡ set_value (is_at (nat_cmp field)) old after → entries_in_all after ≡ entries_in_all tags + 1 → entries_in_fields new ≡ entries_in_fields old + 1
fields_more field old new tags after found written more =
    let e = fields_written field old new tags after found written in
    omega arith

-- and where it is new
pub fields_first : (field : ℕ) (old new : FieldTags) (tags after : Lists TagHit) → IsStrictlySortedBy nat_cmp (keys_of old)
    → lookup (is_at (nat_cmp field)) old ≡ None → new ≡ insert_entry nat_cmp old field after → tags ≡ [] → entries_in_all after ≡ entries_in_all tags + 1
    → entries_in_fields new ≡ entries_in_fields old + 1
fields_first field old new tags after rise none inserted empty more =
    let e = fields_inserted field old new after rise none inserted in
    let z = ap (λ (t : Lists TagHit). entries_in_all t) empty in
    omega arith
