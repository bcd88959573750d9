-- The places of rows whose ids rise.
use Rattle.std.specs.Prelude.{◌≡◌, ◌≢◌, ℕ, zero, suc, ◌+◌, ◌-◌, ◌<◌, ◌≤◌, min, ◌&&◌, true, false, nat_lt, List, [], ◌∷◌, length, None, nat_eq, slice_index_or, refl}
use Rattle.std.proofs.Common.{sym, ◌∙◌, ap, arith, inl, inr}
use Rattle.std.specs.Map.{lookup}
use Rattle.std.proofs.lemmas.Bool.{cases_Bool, eq-eqb, ne_eqb, eqb-true, lt-ltb, cases_lt, false≢true}
use Rattle.std.proofs.lemmas.Bool.Decides.{nat_tests}
use Rattle.std.proofs.lemmas.List.{get_or_default}
use Rattle.id_rows.specs.declared.row.Row.{Row}
use Rattle.id_rows.specs.declared.row.Row.TheVariants.{Full, Empty}
use Rattle.id_rows.specs.IdRows.{row_id, thing_of, full_rows, Rise, row_at_place, place_id, IsPlace, IsSpan}

module _ {T : Type 0} (id_of : T → ℕ) where
  -- the row that a read at a place gave
  pub read_is : (rows : List (Row T)) (place : ℕ) (row : Row T) → row ≡ slice_index_or rows place row → place < length rows → row_at_place rows place ≡ row
  read_is rows place row is within = get_or_default rows place (Empty 0) row within ∙ sym is

  -- each id is at least as far above the least one as its place is behind the first
  pub id_least : (low : ℕ) (rows : List (Row T)) (place : ℕ) → Rise id_of low rows → place < length rows → low + place ≤ place_id id_of rows place
  id_least low [] place rise within = absurd (omega arith)
  id_least low (row ∷ rows) zero rise within = omega (arith, rise.0)
  id_least low (row ∷ rows) (suc place) rise within =
      omega (arith, rise.0, id_least (row_id id_of row + 1) rows place rise.1 (omega arith))

  -- two ids are as far apart as their places, or farther
  pub ids_apart : (low : ℕ) (rows : List (Row T)) (near far : ℕ) → Rise id_of low rows → near ≤ far → far < length rows → place_id id_of rows near + far ≤ place_id id_of rows far + near
  ids_apart low [] near far rise order within = absurd (omega arith)
  ids_apart low (row ∷ rows) zero zero rise order within = omega arith
  ids_apart low (row ∷ rows) zero (suc far) rise order within =
      omega (arith, id_least (row_id id_of row + 1) rows far rise.1 (omega arith))
  ids_apart low (row ∷ rows) (suc near) zero rise order within = absurd (omega arith)
  ids_apart low (row ∷ rows) (suc near) (suc far) rise order within =
      omega (arith, ids_apart (row_id id_of row + 1) rows near far rise.1 (omega arith) (omega arith))

  -- where an id is not below another one, those behind it aren't
  pub above_behind : (rows : List (Row T)) (id place : ℕ) → Rise id_of 0 rows → id ≤ place_id id_of rows place → (k : ℕ) → place ≤ k → k < length rows → id ≤ place_id id_of rows k
  above_behind rows id place rise most k behind within = omega (arith, ids_apart 0 rows place k rise behind within)

  -- where an id is below another one, those before it are
  pub below_before : (rows : List (Row T)) (id place : ℕ) → Rise id_of 0 rows → place < length rows → place_id id_of rows place < id → (k : ℕ) → k ≤ place → place_id id_of rows k < id
  below_before rows id place rise within less k before = omega (arith, ids_apart 0 rows k place rise before within)

  -- where it is another one, those before it are below
  pub below_it : (rows : List (Row T)) (id place : ℕ) → Rise id_of 0 rows → place < length rows → place_id id_of rows place ≡ id → (k : ℕ) → k < place → place_id id_of rows k < id
  below_it rows id place rise within is k before = omega (arith, is, ids_apart 0 rows k place rise (omega arith) within)

  -- the row of an id is at its place
  pub place_it : (rows : List (Row T)) (id place : ℕ) → Rise id_of 0 rows → place < length rows → place_id id_of rows place ≡ id → IsPlace id_of id rows place
  place_it rows id place rise within is = record {
    within = omega (arith, within);
    below = below_it rows id place rise within is;
    above = above_behind rows id place rise (omega (arith, is));
  }

  -- no row is at a place before the first one
  pub place_first : (rows : List (Row T)) (id : ℕ) → Rise id_of 0 rows → id ≤ place_id id_of rows 0 → IsPlace id_of id rows 0
  place_first rows id rise most = record {
    within = omega arith;
    below = λ k before. absurd (omega (arith, before));
    above = above_behind rows id 0 rise most;
  }

  -- a place behind the last row
  pub place_last : (rows : List (Row T)) (id last : ℕ) → Rise id_of 0 rows → last + 1 ≡ length rows → place_id id_of rows last < id → IsPlace id_of id rows (length rows)
  place_last rows id last rise is less = record {
    within = omega arith;
    below = λ k before. below_before rows id last rise (omega (arith, is)) less k (omega (arith, before, is));
    above = λ k behind within. absurd (omega (arith, behind, within));
  }

  -- a place between two rows
  pub place_next : (rows : List (Row T)) (id place next : ℕ) → Rise id_of 0 rows → next ≡ place + 1 → place < length rows → place_id id_of rows place < id → id ≤ place_id id_of rows next → IsPlace id_of id rows next
  place_next rows id place next rise is within less most = record {
    within = omega (arith, within, is);
    below = λ k before. below_before rows id place rise within less k (omega (arith, before, is));
    above = above_behind rows id next rise most;
  }

  -- an id above the first is not that of the first
  not_first : (rows : List (Row T)) (id place : ℕ) → place_id id_of rows 0 < id → id ≤ place_id id_of rows place → 0 < place
  not_first rows id zero less most = absurd (omega (arith, less, most))
  not_first rows id (suc place) less most = omega arith

  -- where the row of an id would stand, were none missing before it
  pub span_ahead : (rows : List (Row T)) (id first ahead here last : ℕ) → Rise id_of 0 rows → last < length rows → first ≡ place_id id_of rows 0 → here ≡ place_id id_of rows ahead → first < id → id ≤ place_id id_of rows last → ahead ≡ min (id - first) last → IsSpan id_of id rows 0 first ahead here
  span_ahead rows id first ahead here last rise within first_is here_is less most is =
      let there : ahead < length rows = omega (arith, is, within) in
      let more : id ≤ here = elim (cases_lt (id - first) last) [
        | inl near ↦ omega (arith, is, near, first_is, here_is, ids_apart 0 rows 0 ahead rise (omega arith) there)
        | inr far ↦
            let same : ahead ≡ last = omega (arith, is, far) in
            omega (arith, most, here_is, ap (place_id id_of rows) same)
      ] in
      record {
        order = not_first rows id ahead (omega (arith, first_is, less)) (omega (arith, here_is, more));
        within = there;
        below_is = first_is;
        above_is = here_is;
        less = less;
        most = more;
      }

  -- the least place of an id, of what is known of it
  pub below_least : (id : ℕ) (rows : List (Row T)) (below below_id above above_id : ℕ) → Rise id_of 0 rows → IsSpan id_of id rows below below_id above above_id → (k : ℕ) → k < above - min (above - below - 1) (above_id - id) → place_id id_of rows k < id
  below_least id rows below below_id above above_id rise s k before =
      elim (cases_lt below k) [
        | inl between ↦ omega (arith, s.above_is, s.most, s.order, before, between, ids_apart 0 rows k above rise (omega (arith, before)) s.within)
        | inr first ↦ below_before rows id below rise (omega (arith, s.order, s.within)) (omega (arith, s.below_is, s.less)) k (omega (arith, first))
      ]

  -- and the greatest
  pub above_most : (id : ℕ) (rows : List (Row T)) (below below_id above above_id : ℕ) → Rise id_of 0 rows → IsSpan id_of id rows below below_id above above_id → (k : ℕ) → below + min (above - below) (id - below_id) ≤ k → k < length rows → id ≤ place_id id_of rows k
  above_most id rows below below_id above above_id rise s k behind within =
      elim (cases_lt k above) [
        | inl between ↦ omega (arith, s.below_is, s.less, s.order, behind, between, ids_apart 0 rows below k rise (omega (arith, behind)) within)
        | inr last ↦ above_behind rows id above rise (omega (arith, s.above_is, s.most)) k (omega (arith, last)) within
      ]

  -- no row with a greater id has the thing
  pub found_above : (low id : ℕ) (rows : List (Row T)) → Rise id_of low rows → id < low → lookup (nat_eq id) (full_rows id_of rows) ≡ None
  found_above low id [] rise less = refl
  found_above low id (Full thing ∷ rows) rise less =
      rw (ne_eqb id (id_of thing) (λ same. omega (arith, same, less, rise.0))) (found_above (id_of thing + 1) id rows rise.1 (omega (arith, less, rise.0)))
  found_above low id (Empty other ∷ rows) rise less = found_above (other + 1) id rows rise.1 (omega (arith, less, rise.0))

  -- the row of an id has its thing
  pub found_at : (low : ℕ) (rows : List (Row T)) (id place : ℕ) → Rise id_of low rows → place < length rows → place_id id_of rows place ≡ id → lookup (nat_eq id) (full_rows id_of rows) ≡ thing_of (row_at_place rows place)
  found_at low [] id place rise within is = absurd (omega arith)
  found_at low (Full thing ∷ rows) id zero rise within is = rw (eq-eqb id (id_of thing) (sym is)) refl
  found_at low (Empty other ∷ rows) id zero rise within is = found_above (other + 1) id rows rise.1 (omega (arith, is))
  found_at low (Full thing ∷ rows) id (suc place) rise within is =
      let apart : id ≢ id_of thing = λ same. omega (arith, same, is, id_least (id_of thing + 1) rows place rise.1 (omega arith)) in
      rw (ne_eqb id (id_of thing) apart) (found_at (id_of thing + 1) rows id place rise.1 (omega arith) is)
  found_at low (Empty other ∷ rows) id (suc place) rise within is = found_at (other + 1) rows id place rise.1 (omega arith) is

  -- where no row has the id there is none
  pub not_found : (rows : List (Row T)) (id : ℕ) → ((k : ℕ) → k < length rows → place_id id_of rows k ≢ id) → lookup (nat_eq id) (full_rows id_of rows) ≡ None
  not_found [] id none = refl
  not_found (Full thing ∷ rows) id none =
      rw (ne_eqb id (id_of thing) (λ same. none 0 (omega arith) (sym same))) (not_found rows id (λ k within. none (suc k) (omega arith)))
  not_found (Empty other ∷ rows) id none = not_found rows id (λ k within. none (suc k) (omega arith))

  -- as where none stands at its place
  pub missing : (rows : List (Row T)) (id place : ℕ) → Rise id_of 0 rows → IsPlace id_of id rows place → (place < length rows → place_id id_of rows place ≢ id) → lookup (nat_eq id) (full_rows id_of rows) ≡ None
  missing rows id place rise p here =
      not_found rows id (λ k within same.
      elim (cases_lt k place) [
        | inl before ↦ omega (arith, p.below k before, same)
        | inr behind ↦
            let at : place < length rows = omega arith in
            here at (omega (arith, ids_apart 0 rows place k rise behind within, p.above place (omega arith) at, same))
      ])

  -- the test of a place, as facts
  pub at_from : (rows : List (Row T)) (id place : ℕ) → (nat_lt place (length rows) && nat_eq (place_id id_of rows place) id) ≡ true → (place < length rows) × (place_id id_of rows place ≡ id)
  at_from rows id place is =
      elim (cases_Bool (nat_lt place (length rows))) [
        | inl within ↦ elim (cases_Bool (nat_eq (place_id id_of rows place) id)) [
          | inl same ↦ (grind (arith, nat_tests, within), eqb-true (place_id id_of rows place) id same)
          | inr apart ↦ absurd (false≢true (rw (within, apart) at is))
        ]
        | inr behind ↦ absurd (false≢true (rw behind at is))
      ]

  pub not_at_from : (rows : List (Row T)) (id place : ℕ) → (nat_lt place (length rows) && nat_eq (place_id id_of rows place) id) ≡ false → place < length rows → place_id id_of rows place ≢ id
  not_at_from rows id place is within same =
      false≢true (sym is ∙ rw (lt-ltb place (length rows) within, eq-eqb (place_id id_of rows place) id same) refl)
