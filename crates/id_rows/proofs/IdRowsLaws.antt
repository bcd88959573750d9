-- What becomes of the things when a row empties, a row comes or rows go.
use Rattle.std.specs.Prelude.{◌≡◌, ◌≢◌, ℕ, zero, suc, ◌+◌, ◌-◌, ◌<◌, ◌≤◌, List, [], ◌∷◌, ◌++◌, true, false, not, nat_eq, Option, None, Some, is_some, length, take, filter, drop, slice_set, refl}
use Rattle.std.proofs.Common.{sym, ◌∙◌, ap, subst, arith, inl, inr}
use Rattle.std.proofs.Math.Seq.{take-suc}
use Rattle.std.proofs.lemmas.List.{map-append, take-append-drop, take_at, take_all}
use Rattle.std.specs.Map.{keys_of, lookup, remove_entry}
use Rattle.std.proofs.lemmas.Bool.{cases_Bool, eq-eqb, ne_eqb, false≢true}
use Rattle.ft_base.specs.Rows.{Rows, Below}
use Rattle.ft_base.proofs.RowsLaws.{length-remove_entry}
use Rattle.id_rows.specs.declared.row.Row.{Row}
use Rattle.id_rows.specs.declared.row.Row.TheVariants.{Full, Empty}
use Rattle.id_rows.specs.IdRows.{row_id, is_empty_row, full_rows, Rise, row_at_place, place_id, AreIdRows}
use Rattle.id_rows.proofs.PlaceLaws.{id_least, below_before}

module _ {T : Type 0} (id_of : T → ℕ) where
  -- what is between weaker bounds
  rise_weaker : (low least : ℕ) (rows : List (Row T)) → least ≤ low → Rise id_of low rows → Rise id_of least rows
  rise_weaker low least [] lower rise = tt
  rise_weaker low least (row ∷ rows) lower rise = (omega (arith, lower, rise.0), rise.1)

  -- ---- a thing comes

  -- rows whose ids are below that of a new one
  pub rise_push : (low end : ℕ) (rows : List (Row T)) (thing : T) → Rise id_of low rows → low ≤ id_of thing → ((k : ℕ) → k < end → k < length rows → place_id id_of rows k < id_of thing) → Rise id_of low (take end rows ++ Full thing ∷ [])
  rise_push low zero rows thing rise least below = (least, tt)
  rise_push low (suc end) [] thing rise least below = (least, tt)
  rise_push low (suc end) (row ∷ rows) thing rise least below =
      let first : row_id id_of row < id_of thing = below 0 (omega arith) (omega arith) in
      (rise.0, rise_push (row_id id_of row + 1) end rows thing rise.1 (omega (arith, first)) (λ k before within. below (suc k) (omega (arith, before)) (omega (arith, within))))

  pub full_push : (rows : List (Row T)) (thing : T) → full_rows id_of (rows ++ Full thing ∷ []) ≡ full_rows id_of rows ++ (id_of thing, thing) ∷ []
  full_push [] thing = refl
  full_push (Full first ∷ rows) thing = ap (λ rest. (id_of first, first) ∷ rest) (full_push rows thing)
  full_push (Empty id ∷ rows) thing = full_push rows thing

  -- the id of a full row is below what is above all
  pub below_full : (id : ℕ) (rows : List (Row T)) (place : ℕ) → Below id (full_rows id_of rows) → place < length rows → is_empty_row (row_at_place rows place) ≡ false → place_id id_of rows place < id
  below_full id [] place below within full = absurd (omega arith)
  below_full id (Full thing ∷ rows) zero below within full = below.0
  below_full id (Empty other ∷ rows) zero below within full = absurd (false≢true (sym full))
  below_full id (Full thing ∷ rows) (suc place) below within full = below_full id rows place below.1 (omega (arith, within)) full
  below_full id (Empty other ∷ rows) (suc place) below within full = below_full id rows place below (omega (arith, within)) full

  -- empty rows have no thing
  none_full : (rows : List (Row T)) → ((k : ℕ) → k < length rows → is_empty_row (row_at_place rows k) ≡ true) → full_rows id_of rows ≡ []
  none_full [] empty = refl
  none_full (Full thing ∷ rows) empty = absurd (false≢true (empty 0 (omega arith)))
  none_full (Empty id ∷ rows) empty = none_full rows (λ k within. empty (suc k) (omega (arith, within)))

  -- nothing is lost with empty rows at the end
  pub full_take : (end : ℕ) (rows : List (Row T)) → ((k : ℕ) → end ≤ k → k < length rows → is_empty_row (row_at_place rows k) ≡ true) → full_rows id_of (take end rows) ≡ full_rows id_of rows
  full_take zero rows empty = sym (none_full rows (λ k within. empty k (omega arith) within))
  full_take (suc end) [] empty = refl
  full_take (suc end) (Full thing ∷ rows) empty =
      ap (λ rest. (id_of thing, thing) ∷ rest) (full_take end rows (λ k behind within. empty (suc k) (omega (arith, behind)) (omega (arith, within))))
  full_take (suc end) (Empty id ∷ rows) empty = full_take end rows (λ k behind within. empty (suc k) (omega (arith, behind)) (omega (arith, within)))

  -- there are as many things as rows at most
  pub full_most : (rows : List (Row T)) → length (full_rows id_of rows) ≤ length rows
  full_most [] = omega arith
  full_most (Full thing ∷ rows) = omega (arith, full_most rows)
  full_most (Empty id ∷ rows) = omega (arith, full_most rows)

  counted_push : (rows : List (Row T)) (thing : T) → length (full_rows id_of (rows ++ Full thing ∷ [])) ≡ length (full_rows id_of rows) + 1
  counted_push [] thing = refl
  counted_push (Full first ∷ rows) thing = omega (arith, counted_push rows thing)
  counted_push (Empty id ∷ rows) thing = counted_push rows thing

  -- the rows without empty ones at the end, and the new one
  pub pushed : (full end : ℕ) (rows : List (Row T)) (thing : T) → AreIdRows id_of full rows → Below (id_of thing) (full_rows id_of rows) → end ≤ length rows → (0 < end → is_empty_row (row_at_place rows (end - 1)) ≡ false) → ((k : ℕ) → end ≤ k → k < length rows → is_empty_row (row_at_place rows k) ≡ true) → AreIdRows id_of (full + 1) (take end rows ++ Full thing ∷ [])
  pushed full end rows thing are below within last empty =
      let less : (k : ℕ) → k < end → k < length rows → place_id id_of rows k < id_of thing = λ k before there.
      below_before id_of rows (id_of thing) (end - 1) are.rise (omega (arith, before, within)) (below_full (id_of thing) rows (end - 1) below (omega (arith, before, within)) (last (omega (arith, before)))) k (omega (arith, before)) in
      record {
        rise = rise_push 0 end rows thing are.rise (omega arith) less;
        counted = omega (arith, are.counted, counted_push (take end rows) thing, ap length (full_take end rows empty));
      }

  -- ---- a thing goes

  pub rise_empty : (low : ℕ) (rows : List (Row T)) (place id : ℕ) → Rise id_of low rows → place < length rows → place_id id_of rows place ≡ id → Rise id_of low (slice_set rows place (Empty id))
  rise_empty low [] place id rise within is = absurd (omega arith)
  rise_empty low (row ∷ rows) zero id rise within is = (omega (arith, is, rise.0), rise_weaker (row_id id_of row + 1) (id + 1) rows (omega (arith, is)) rise.1)
  rise_empty low (row ∷ rows) (suc place) id rise within is = (rise.0, rise_empty (row_id id_of row + 1) rows place id rise.1 (omega (arith, within)) is)

  -- ids above another one are not it
  remove_above : (low id : ℕ) (rows : List (Row T)) → Rise id_of low rows → id < low → remove_entry (nat_eq id) (full_rows id_of rows) ≡ full_rows id_of rows
  remove_above low id [] rise less = refl
  remove_above low id (Full thing ∷ rows) rise less =
      rw (ne_eqb id (id_of thing) (λ same. omega (arith, same, less, rise.0))) (ap (λ rest. (id_of thing, thing) ∷ rest) (remove_above (id_of thing + 1) id rows rise.1 (omega (arith, less, rise.0))))
  remove_above low id (Empty other ∷ rows) rise less = remove_above (other + 1) id rows rise.1 (omega (arith, less, rise.0))

  pub full_empty : (low : ℕ) (rows : List (Row T)) (place id : ℕ) → Rise id_of low rows → place < length rows → place_id id_of rows place ≡ id → full_rows id_of (slice_set rows place (Empty id)) ≡ remove_entry (nat_eq id) (full_rows id_of rows)
  full_empty low [] place id rise within is = absurd (omega arith)
  full_empty low (Full thing ∷ rows) zero id rise within is = rw (eq-eqb id (id_of thing) (sym is)) refl
  full_empty low (Empty other ∷ rows) zero id rise within is = sym (remove_above (other + 1) id rows rise.1 (omega (arith, is)))
  full_empty low (Full thing ∷ rows) (suc place) id rise within is =
      let apart : id ≢ id_of thing = λ same. omega (arith, same, is, id_least id_of (id_of thing + 1) rows place rise.1 (omega (arith, within))) in
      rw (ne_eqb id (id_of thing) apart) (ap (λ rest. (id_of thing, thing) ∷ rest) (full_empty (id_of thing + 1) rows place id rise.1 (omega (arith, within)) is))
  full_empty low (Empty other ∷ rows) (suc place) id rise within is = full_empty (other + 1) rows place id rise.1 (omega (arith, within)) is

  -- what is not found is not taken out
  pub remove_none : (id : ℕ) (rows : Rows T) → lookup (nat_eq id) rows ≡ None → remove_entry (nat_eq id) rows ≡ rows
  remove_none id [] none = refl
  remove_none id (row ∷ rows) none =
      elim (cases_Bool (nat_eq id row.0)) [
        | inl same ↦
            let here : ◌≡◌ {A = Option T} (Some row.1) None = rw same at none in
            absurd cc
        | inr apart ↦ rw apart (ap (λ rest. row ∷ rest) (remove_none id rows (rw apart at none)))
      ]

  -- one less is left
  pub counted_remove : (full id : ℕ) (thing : T) (rows others : Rows T) → full ≡ length rows → Some thing ≡ lookup (nat_eq id) rows → others ≡ remove_entry (nat_eq id) rows → full ≡ length others + 1
  counted_remove full id thing rows others counted found left =
      counted ∙ (length-remove_entry id rows (ap is_some (sym found)) ∙ ap (λ rs. length rs + 1) (sym left))

  -- ---- empty rows are swept out

  pub full_swept : (rows : List (Row T)) → full_rows id_of (filter (λ row. not (is_empty_row row)) rows) ≡ full_rows id_of rows
  full_swept [] = refl
  full_swept (Full thing ∷ rows) = ap (λ rest. (id_of thing, thing) ∷ rest) (full_swept rows)
  full_swept (Empty id ∷ rows) = full_swept rows

  pub rise_swept : (low : ℕ) (rows : List (Row T)) → Rise id_of low rows → Rise id_of low (filter (λ row. not (is_empty_row row)) rows)
  rise_swept low [] rise = tt
  rise_swept low (Full thing ∷ rows) rise = (rise.0, rise_swept (id_of thing + 1) rows rise.1)
  rise_swept low (Empty id ∷ rows) rise = rise_weaker (id + 1) low (filter (λ row. not (is_empty_row row)) rows) (omega (arith, rise.0)) (rise_swept (id + 1) rows rise.1)

  -- ---- the first ids

  full_append : (rows more : List (Row T)) → full_rows id_of (rows ++ more) ≡ full_rows id_of rows ++ full_rows id_of more
  full_append [] more = refl
  full_append (Full thing ∷ rows) more = ap (λ rest. (id_of thing, thing) ∷ rest) (full_append rows more)
  full_append (Empty id ∷ rows) more = full_append rows more

  ids_append : (rows more : List (Row T)) → keys_of (full_rows id_of (rows ++ more)) ≡ keys_of (full_rows id_of rows) ++ keys_of (full_rows id_of more)
  ids_append rows more = ap keys_of (full_append rows more) ∙ map-append (λ (row : ℕ × T). row.0) (full_rows id_of rows) (full_rows id_of more)

  -- so many ids of the first rows are the first ids
  pub first_some : (count place : ℕ) (rows : List (Row T)) → length (keys_of (full_rows id_of (take place rows))) ≡ count → keys_of (full_rows id_of (take place rows)) ≡ take count (keys_of (full_rows id_of rows))
  first_some count place rows enough =
      sym (ap (λ (rs : List (Row T)). take count (keys_of (full_rows id_of rs))) (sym (take-append-drop place rows))
      ∙ (ap (take count) (ids_append (take place rows) (drop place rows))
      ∙ take_at (keys_of (full_rows id_of (take place rows))) (keys_of (full_rows id_of (drop place rows))) count enough))

  -- and so are those of all, where they are no more
  pub first_all : (count place : ℕ) (rows : List (Row T)) → length rows ≤ place → length (keys_of (full_rows id_of (take place rows))) ≤ count → keys_of (full_rows id_of (take place rows)) ≡ take count (keys_of (full_rows id_of rows))
  first_all count place rows all few =
      let whole : take place rows ≡ rows = take_all place rows all in
      ap (λ (rs : List (Row T)). keys_of (full_rows id_of rs)) whole
      ∙ sym (take_all count (keys_of (full_rows id_of rows)) (subst (λ (rs : List (Row T)). length (keys_of (full_rows id_of rs)) ≤ count) whole few))

  -- the ids of one row more
  pub first_more : (place : ℕ) (rows : List (Row T)) (row : Row T) → place < length rows → row_at_place rows place ≡ row → keys_of (full_rows id_of (take (place + 1) rows)) ≡ keys_of (full_rows id_of (take place rows)) ++ keys_of (full_rows id_of (row ∷ []))
  first_more place rows row within is =
      let next : place + 1 ≡ suc place = omega arith in
      let one : take (place + 1) rows ≡ take place rows ++ row ∷ [] =
      ap (λ n. take n rows) next ∙ (take-suc rows place (Empty 0) within ∙ ap (λ r. take place rows ++ r ∷ []) is) in
      ap (λ (rs : List (Row T)). keys_of (full_rows id_of rs)) one ∙ ids_append (take place rows) (row ∷ [])

  pub one_most : (row : Row T) → length (keys_of (full_rows id_of (row ∷ []))) ≤ 1
  one_most (Full thing) = omega arith
  one_most (Empty id) = omega arith
