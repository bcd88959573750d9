-- A table that is kept by spellings notes a row as the list of its groups does.
use Rattle.std.proofs.Common.{◌≡◌, ℕ, suc, ◌+◌, ◌<◌, Bool, true, false, cond, not, List, [], ◌∷◌, ◌++◌, length, Option, None, Some, is_some, Result, IfSome, OnOk, refl, sym, ◌∙◌, ap, inl, inr, true≢false, arith}
use Rattle.std.specs.Prelude.{slice_get, position}
use Rattle.std.specs.List.{position_or_len}
use Rattle.std.specs.Map.{keys_of, lookup, values_of}
use Rattle.std.specs.Str.{bytes_eq}
use Rattle.std.specs.declared.alloc.AllocError.{AllocError}
use Rattle.std.specs.declared.alloc.Global.{Global}
use Rattle.std.specs.declared.vec.Vec.{Vec}
use Rattle.std.proofs.lemmas.Bool.{cases_Bool}
use Rattle.indexmap.specs.IndexMap.{insert_entry, set_value_at}
use Rattle.indexmap.proofs.MapLemmas.{Found, Found-position, OnOk-map, absent_from_lookup, insert_entry-absent}
use Rattle.ft_base.specs.declared.definition.IndexDef.{IndexDef}
use Rattle.ft_base.specs.declared.row.Row.{Row}
use Rattle.agg_pipeline.specs.declared.step.Reducer.{Reducer}
use Rattle.agg_pipeline.specs.declared.table.Group.{Group}
use Rattle.agg_pipeline.specs.Spellings.{is_kept}
use Rattle.agg_pipeline.specs.Table.{Kept, Table, entry_of, first_entry, note_row, stepped, table_of, tuple_key}

module _ (def : IndexDef) (by : List (List ℕ)) (reduce : List Reducer) (row : Row) (key : List ℕ) (spelled : key ≡ tuple_key def by row) where
  -- the group of the row's values takes the row in
  pub stepped_at : (es : Kept) (group : Group) → position_or_len (is_kept key) (keys_of es) < length es → slice_get (values_of es) (position_or_len (is_kept key) (keys_of es)) ≡ Some group
      → table_of (set_value_at es (position_or_len (is_kept key) (keys_of es)) (stepped def reduce group row)) ≡ note_row def by reduce (table_of es) row
  stepped_at [] group within at = absurd (omega (arith, within))
  stepped_at (e ∷ es) group within at = by_test (is_kept key e.0) (ap (λ k. bytes_eq k e.0.items) spelled) within at (stepped_at es group)
    where
      by_test : (here : Bool) → here ≡ bytes_eq (tuple_key def by row) e.0.items → cond (not here) (1 + position_or_len (is_kept key) (keys_of es)) 0 < suc (length es)
          → slice_get (values_of (e ∷ es)) (cond (not here) (1 + position_or_len (is_kept key) (keys_of es)) 0) ≡ Some group
          → (position_or_len (is_kept key) (keys_of es) < length es → slice_get (values_of es) (position_or_len (is_kept key) (keys_of es)) ≡ Some group
          → table_of (set_value_at es (position_or_len (is_kept key) (keys_of es)) (stepped def reduce group row)) ≡ note_row def by reduce (table_of es) row)
          → table_of (set_value_at (e ∷ es) (cond (not here) (1 + position_or_len (is_kept key) (keys_of es)) 0) (stepped def reduce group row)) ≡ note_row def by reduce (table_of (e ∷ es)) row
      by_test true test short there others =
          let same : e.1 ≡ group = cc (there) in
          rw (sym test) (ap (λ (g : Group). entry_of (e.0, stepped def reduce g row) ∷ table_of es) (sym same))
      by_test false test short there others =
          let next : 1 + position_or_len (is_kept key) (keys_of es) ≡ suc (position_or_len (is_kept key) (keys_of es)) = omega arith in
          let behind : slice_get (values_of es) (position_or_len (is_kept key) (keys_of es)) ≡ Some group = rw next at there in
          rw (sym test)
          (ap (λ i. table_of (set_value_at (e ∷ es) i (stepped def reduce group row))) next
          ∙ ap (λ (rest : Table). entry_of e ∷ rest) (others (omega (arith, short)) behind))

  -- the same of the place that a look-up gave
  pub stepped_there : (es : Kept) (i : ℕ) → position (is_kept key) (keys_of es) ≡ Some i → is_some (lookup (is_kept key) es) ≡ true → (new : Kept) (r : Result (Unit {0}) AllocError)
      → IfSome (slice_get (values_of es) i) (λ group. OnOk r (new ≡ set_value_at es i (stepped def reduce group row))) → OnOk r (table_of new ≡ note_row def by reduce (table_of es) row)
  stepped_there es i at found new r told =
      let place = Found-position (is_kept key) es i at in
      by_group (slice_get (values_of es) i) refl (ap is_some (sym place.value) ∙ found) told place
    where
      by_group : (o : Option Group) → slice_get (values_of es) i ≡ o → is_some o ≡ true → IfSome o (λ group. OnOk r (new ≡ set_value_at es i (stepped def reduce group row)))
          → Found (is_kept key) es i → OnOk r (table_of new ≡ note_row def by reduce (table_of es) row)
      by_group None is some says place = absurd (true≢false (sym some))
      by_group (Some group) is some says place =
          OnOk-map r _ _
          (λ set.
          ap table_of set
          ∙ (ap (λ j. table_of (set_value_at es j (stepped def reduce group row))) (sym place.or_len)
          ∙ stepped_at es group (omega (arith, place.or_len, place.within)) (ap (slice_get (values_of es)) place.or_len ∙ is)))
          says

  -- the row is the first of its group
  pub first_noted : (es : Kept) → lookup (is_kept key) es ≡ None → note_row def by reduce (table_of es) row ≡ table_of es ++ first_entry def by reduce row ∷ []
  first_noted [] none = refl
  first_noted (e ∷ es) none =
      elim (cases_Bool (is_kept key e.0)) [
        | inl same ↦
            let here : ◌≡◌ {A = Option Group} (Some e.1) None = rw same at none in
            absurd (cc (here))
        | inr apart ↦
            let differ : bytes_eq (tuple_key def by row) e.0.items ≡ false = sym (ap (λ k. bytes_eq k e.0.items) spelled) ∙ apart in
            rw differ (ap (λ (rest : Table). entry_of e ∷ rest) (first_noted es (rw apart at none)))
      ]

-- equality of stored keys
abbrev pub same_kept : Vec ℕ Global → Vec ℕ Global → Bool
same_kept a b = bytes_eq a.items b.items

-- a key that is not there goes last
pub inserted : (name : Vec ℕ Global) (group : Group) (es : Kept) (key : List ℕ) → name.items ≡ key → lookup (is_kept key) es ≡ None → insert_entry same_kept es name group ≡ es ++ (name, group) ∷ []
inserted name group es key is none =
    insert_entry-absent same_kept name group es (absent_from_lookup (same_kept name) es (ap (λ bytes. lookup (is_kept bytes) es) is ∙ none))

pub table_of-push : (es : Kept) (e : Vec ℕ Global × Group) → table_of (es ++ e ∷ []) ≡ table_of es ++ entry_of e ∷ []
table_of-push [] e = refl
table_of-push (f ∷ fs) e = ap (λ (rest : Table). entry_of f ∷ rest) (table_of-push fs e)

pub none_from : (o : Option Group) → is_some o ≡ false → o ≡ None
none_from None is = refl
none_from (Some group) is = absurd (true≢false is)
