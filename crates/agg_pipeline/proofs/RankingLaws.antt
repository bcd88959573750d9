-- To sort rows with their values is to sort the rows, and whoever offers them one by one has the first of all.
use Rattle.std.proofs.Common.{◌≡◌, ℕ, zero, suc, Bool, true, false, cond, List, [], ◌∷◌, ◌++◌, map, take, Option, None, Some, is_lt, refl, sym, ap, ◌∙◌}
use Rattle.std.specs.Prelude.{unwrap_or}
use Rattle.std.proofs.lemmas.List.{map-append}
use Rattle.std.proofs.lemmas.List.Sums.{fold-append}
use Rattle.ft_base.specs.declared.definition.IndexDef.{IndexDef}
use Rattle.ft_base.specs.declared.row.Row.{Row}
use Rattle.row_sort.specs.First.{First}
use Rattle.row_sort.specs.Order.{row_order}
use Rattle.row_sort.specs.Sorting.{placed, sorted}
use Rattle.row_sort.specs.declared.rows.Ranked.{Ranked}
use Rattle.row_sort.proofs.OrderLaws.{row_weak}
use Rattle.row_sort.proofs.SortingLaws.{first_by_ones}
use Rattle.agg_pipeline.specs.declared.step.SortKey.{SortKey}
use Rattle.agg_pipeline.specs.Ranking.{AreFirst, first_of, items_of, no_rows, offered, one_more, ranked, rows_held}
use Rattle.agg_pipeline.specs.Steps.{directions, keys_order}

module _ (def : IndexDef) (keys : List SortKey) where
  placed-ranked : (row : Row) (rows : List Row) → placed (row_order (directions keys)) (ranked def keys row) (map (ranked def keys) rows) ≡ map (ranked def keys) (placed (keys_order def keys) row rows)
  placed-ranked row [] = refl
  placed-ranked row (r ∷ rows) = by_test (is_lt (keys_order def keys r row)) (placed-ranked row rows)
    where
      by_test : (less : Bool) → placed (row_order (directions keys)) (ranked def keys row) (map (ranked def keys) rows) ≡ map (ranked def keys) (placed (keys_order def keys) row rows)
          → cond less (ranked def keys r ∷ placed (row_order (directions keys)) (ranked def keys row) (map (ranked def keys) rows)) (ranked def keys row ∷ ranked def keys r ∷ map (ranked def keys) rows)
          ≡ map (ranked def keys) (cond less (r ∷ placed (keys_order def keys) row rows) (row ∷ r ∷ rows))
      by_test true others = ap (λ (rest : List (Ranked Row)). ranked def keys r ∷ rest) others
      by_test false others = refl

  sorted-ranked : (rows : List Row) → sorted (row_order (directions keys)) (map (ranked def keys) rows) ≡ map (ranked def keys) (sorted (keys_order def keys) rows)
  sorted-ranked [] = refl
  sorted-ranked (row ∷ rows) =
      ap (placed (row_order (directions keys)) (ranked def keys row)) (sorted-ranked rows)
      ∙ placed-ranked row (sorted (keys_order def keys) rows)

  items-ranked : (rows : List Row) → items_of (map (ranked def keys) rows) ≡ rows
  items-ranked [] = refl
  items-ranked (row ∷ rows) = ap (λ rest. row ∷ rest) (items-ranked rows)

  take-map : (n : ℕ) (rows : List Row) → take n (map (ranked def keys) rows) ≡ map (ranked def keys) (take n rows)
  take-map zero rows = refl
  take-map (suc n) [] = refl
  take-map (suc n) (row ∷ rows) = ap (λ (rest : List (Ranked Row)). ranked def keys row ∷ rest) (take-map n rows)

  pub items_sorted : (rows : List Row) → items_of (sorted (row_order (directions keys)) (map (ranked def keys) rows)) ≡ sorted (keys_order def keys) rows
  items_sorted rows = ap items_of (sorted-ranked rows) ∙ items-ranked (sorted (keys_order def keys) rows)

  first-offered : (most : ℕ) (rows : List Row) → offered (directions keys) most [] (map (ranked def keys) rows) ≡ map (ranked def keys) (take most (sorted (keys_order def keys) rows))
  first-offered most rows =
      first_by_ones (row_order (directions keys)) (row_weak (directions keys)) most (map (ranked def keys) rows)
      ∙ ap (take most) (sorted-ranked rows)
      ∙ take-map most (sorted (keys_order def keys) rows)

  pub items_first : (most : ℕ) (rows : List Row) → items_of (offered (directions keys) most [] (map (ranked def keys) rows)) ≡ take most (sorted (keys_order def keys) rows)
  items_first most rows = ap items_of (first-offered most rows) ∙ items-ranked (take most (sorted (keys_order def keys) rows))

  -- the first rows, once several more came
  first-next : (most : ℕ) (rows more : List Row)
      → offered (directions keys) most (map (ranked def keys) (take most (sorted (keys_order def keys) rows))) (map (ranked def keys) more)
      ≡ map (ranked def keys) (take most (sorted (keys_order def keys) (rows ++ more)))
  first-next most rows more =
      ap (λ (first : List (Ranked Row)). offered (directions keys) most first (map (ranked def keys) more)) (sym (first-offered most rows))
      ∙ sym (fold-append (one_more (directions keys) most) [] (map (ranked def keys) rows) (map (ranked def keys) more))
      ∙ ap (offered (directions keys) most []) (sym (map-append (ranked def keys) rows more))
      ∙ first-offered most (rows ++ more)

  take-none : (most : ℕ) → map (ranked def keys) (take most []) ≡ []
  take-none zero = refl
  take-none (suc most) = refl

  -- what is held is begun with the first row that comes
  begun : (most : ℕ) (rows : List Row) (held : Option (First Row)) → AreFirst def keys most rows held → unwrap_or held (no_rows keys most) ≡ first_of def keys most rows
  begun most rows None none =
      ap (λ (first : List (Ranked Row)). record { by = directions keys; most = most; rows = first }) (sym (take-none most))
      ∙ ap (first_of def keys most) (sym none)
  begun most rows (Some first) are = are

  -- what is held, once several more rows came
  pub held-next : (most : ℕ) (rows more : List Row) (held : Option (First Row)) (first now : First Row) → AreFirst def keys most rows held
      → first ≡ unwrap_or held (no_rows keys most)
      → now ≡ record first { rows = offered first.by first.most first.rows (map (ranked def keys) more) }
      → AreFirst def keys most (rows ++ more) (Some now)
  held-next most rows more held first now are is offers =
      offers
      ∙ ap (λ (f : First Row). record f { rows = offered f.by f.most f.rows (map (ranked def keys) more) }) (is ∙ begun most rows held are)
      ∙ ap (λ (rows : List (Ranked Row)). record { by = directions keys; most = most; rows = rows }) (first-next most rows more)

  -- the rows of what is held are the first
  pub rows-held : (most : ℕ) (rows : List Row) (held : Option (First Row)) → AreFirst def keys most rows held → rows_held held ≡ take most (sorted (keys_order def keys) rows)
  rows-held most rows None none = ap items_of (sym (take-none most)) ∙ items-ranked (take most []) ∙ ap (λ (rows : List Row). take most (sorted (keys_order def keys) rows)) (sym none)
  rows-held most rows (Some first) are = ap (λ (f : First Row). items_of f.rows) are ∙ items-ranked (take most (sorted (keys_order def keys) rows))

pub some-is : {T : Type 0} {x y : T} → Some x ≡ Some y → x ≡ y
some-is {T} {x} {y} e = ap (λ (o : Option T). unwrap_or o x) e
