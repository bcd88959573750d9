-- The table of the rows that came is that of their groups.
use Rattle.std.proofs.Common.{◌≡◌, ℕ, Bool, true, false, cond, pos, length, arith, List, [], ◌∷◌, ◌++◌, None, map, refl, sym, ap, ◌∙◌, inl, inr, append-nil, length-append}
use Rattle.std.specs.Prelude.{filter, fold}
use Rattle.std.specs.Str.{bytes_eq}
use Rattle.std.proofs.lemmas.Bool.{cases_Bool}
use Rattle.std.proofs.lemmas.List.Elements.{filter-append}
use Rattle.std.proofs.lemmas.List.Sums.{fold-append}
use Rattle.std.proofs.lemmas.Slice.Eq.{bytes_eq-Decides}
use Rattle.ft_base.specs.Cells.{cell}
use Rattle.ft_base.specs.declared.definition.IndexDef.{IndexDef}
use Rattle.ft_base.specs.declared.row.Cell.{Cell}
use Rattle.ft_base.specs.declared.row.Row.{Row}
use Rattle.ft_base.specs.declared.row.Value.{Value}
use Rattle.ft_base.specs.declared.row.Value.TheVariants.{Num}
use Rattle.agg_pipeline.specs.declared.state.State.{State}
use Rattle.agg_pipeline.specs.declared.state.State.TheVariants as so_far
use Rattle.agg_pipeline.specs.declared.step.ReduceKind.{ReduceKind}
use Rattle.agg_pipeline.specs.declared.step.ReduceKind.TheVariants as kind
use Rattle.agg_pipeline.specs.declared.step.Reducer.{Reducer}
use Rattle.agg_pipeline.specs.Equal.{spelled, value_eq}
use Rattle.agg_pipeline.specs.Groups.{firsts}
use Rattle.agg_pipeline.specs.Keyed.{add_first}
use Rattle.agg_pipeline.specs.Made.{ListOfStates, add_spelling, add_value, finished, finished_cells, made, made_all, start, starts, states_step, step}
use Rattle.agg_pipeline.specs.Grouping.{group_cells, group_row, grouped, reduced_cells, value_for}
use Rattle.agg_pipeline.specs.Reduce.{distinct, is_some_value, reduced}
use Rattle.agg_pipeline.specs.Rows.{set_cell, set_cells}
use Rattle.agg_pipeline.specs.Table.{add_row, cells_or_none, finished_row, first_cells, making, no_rows, note_row, table_of_rows, tuple_key}
use Rattle.agg_pipeline.proofs.GroupsLaws.{each_group, firsts-push}
use Rattle.agg_pipeline.proofs.KeyedLaws.{folded}
use Rattle.agg_pipeline.proofs.SpellingsLaws.{spelled-push}

-- ---- one reducer

distinct-push : (vs : List Value) (v : Value) → distinct (vs ++ v ∷ []) ≡ add_value (distinct vs) v
distinct-push vs v =
    elim (cases_Bool (is_some_value v)) [
      | inl there ↦
          ap (firsts value_eq) (filter-append is_some_value vs (v ∷ []))
          ∙ rw there (firsts-push bytes_eq bytes_eq-Decides spelled (filter is_some_value vs) v)
      | inr none ↦ ap (firsts value_eq) (filter-append is_some_value vs (v ∷ [])) ∙ rw none (ap (firsts value_eq) (append-nil (filter is_some_value vs)))
    ]

spellings-push : (vs : List Value) (v : Value) → map spelled (distinct (vs ++ v ∷ [])) ≡ add_spelling (map spelled (distinct vs)) v
spellings-push vs v = ap (map spelled) (distinct-push vs v) ∙ by_test (is_some_value v)
  where
    by_test : (there : Bool) → map spelled (cond there (add_first value_eq (distinct vs) v) (distinct vs)) ≡ cond there (add_first bytes_eq (map spelled (distinct vs)) (spelled v)) (map spelled (distinct vs))
    by_test true = spelled-push (distinct vs) v
    by_test false = refl

count : (vs : List Value) → length (map spelled vs) ≡ length vs
count [] = refl
count (v ∷ vs) = omega (arith, count vs)

-- a reducer is a fold of its values
made-push : (k : ReduceKind) (vs : List Value) (v : Value) → made k (vs ++ v ∷ []) ≡ step (made k vs) v
made-push kind.Count vs v = ap so_far.Count (length-append vs (v ∷ []))
made-push kind.CountDistinct vs v = ap so_far.Differing (spellings-push vs v)
made-push kind.Sum vs v = ap so_far.Sum (fold-append _ _ vs (v ∷ []))
made-push kind.Min vs v = ap so_far.Least (fold-append _ _ vs (v ∷ []))
made-push kind.Max vs v = ap so_far.Greatest (fold-append _ _ vs (v ∷ []))
made-push kind.ToList vs v = ap so_far.Many (distinct-push vs v)
made-push kind.FirstValue [] v = refl
made-push kind.FirstValue (w ∷ vs) v = refl

made-empty : (k : ReduceKind) → made k [] ≡ start k
made-empty kind.Count = refl
made-empty kind.CountDistinct = refl
made-empty kind.Sum = refl
made-empty kind.Min = refl
made-empty kind.Max = refl
made-empty kind.ToList = refl
made-empty kind.FirstValue = refl

-- what it gives in the end
finished-made : (k : ReduceKind) (vs : List Value) → finished (made k vs) ≡ reduced k vs
finished-made kind.Count vs = refl
finished-made kind.CountDistinct vs = ap (λ n. Num (pos n)) (count (distinct vs))
finished-made kind.Sum vs = refl
finished-made kind.Min vs = refl
finished-made kind.Max vs = refl
finished-made kind.ToList vs = refl
finished-made kind.FirstValue [] = refl
finished-made kind.FirstValue (v ∷ vs) = refl

-- ---- all reducers

map-push : (f : Row → Value) (rows : List Row) (row : Row) → map f (rows ++ row ∷ []) ≡ map f rows ++ f row ∷ []
map-push f [] row = refl
map-push f (r ∷ rs) row = ap (λ rest. f r ∷ rest) (map-push f rs row)

made_all-push : (def : IndexDef) (reduce : List Reducer) (rows : List Row) (row : Row) → made_all def reduce (rows ++ row ∷ []) ≡ states_step def reduce (made_all def reduce rows) row
made_all-push def [] rows row = refl
made_all-push def (r ∷ rs) rows row =
    ap (λ (state : State). state ∷ made_all def rs (rows ++ row ∷ []))
    (ap (made r.kind) (map-push (value_for def r.of) rows row) ∙ made-push r.kind (map (value_for def r.of) rows) (value_for def r.of row))
    ∙ ap (λ (rest : ListOfStates). step (made r.kind (map (value_for def r.of) rows)) (value_for def r.of row) ∷ rest) (made_all-push def rs rows row)

made_all-empty : (def : IndexDef) (reduce : List Reducer) → made_all def reduce [] ≡ starts reduce
made_all-empty def [] = refl
made_all-empty def (r ∷ rs) =
    ap (λ (state : State). state ∷ made_all def rs []) (made-empty r.kind) ∙ ap (λ (rest : ListOfStates). start r.kind ∷ rest) (made_all-empty def rs)

finished_made : (def : IndexDef) (reduce : List Reducer) (rows : List Row) → finished_cells reduce (made_all def reduce rows) ≡ reduced_cells def reduce rows
finished_made def [] rows = refl
finished_made def (r ∷ rs) rows =
    ap (λ v. cell r.name v ∷ finished_cells rs (made_all def rs rows)) (finished-made r.kind (map (value_for def r.of) rows))
    ∙ ap (λ (rest : List Cell). cell r.name (reduced r.kind (map (value_for def r.of) rows)) ∷ rest) (finished_made def rs rows)

-- ---- all groups

module _ (def : IndexDef) (by : List (List ℕ)) (reduce : List Reducer) where
  making-push : (rows : List Row) (row : Row) → making def by reduce (rows ++ row ∷ []) ≡ add_row def by reduce (making def by reduce rows) row
  making-push [] row = ap (λ states. (first_cells def by (row ∷ []), states)) (made_all-push def reduce [] row)
  making-push (r ∷ rows) row = ap (λ states. (first_cells def by (r ∷ rows), states)) (made_all-push def reduce (r ∷ rows) row)

  making-empty : making def by reduce [] ≡ no_rows reduce
  making-empty = ap (λ states. (first_cells def by [], states)) (made_all-empty def reduce)

  -- to take the rows in as they come gives what is made of each group's rows
  pub table_is : (rows : List Row) → fold (note_row def by reduce) [] rows ≡ table_of_rows def by reduce rows
  table_is rows = folded bytes_eq bytes_eq-Decides (tuple_key def by) (making def by reduce) (add_row def by reduce) (no_rows reduce) making-empty making-push [] rows

  first_is : (rows : List Row) → cells_or_none (first_cells def by rows) ≡ set_cells [] (group_cells def by rows)
  first_is [] = refl
  first_is (row ∷ rows) = refl

  abbrev bare : List Cell → Row
  bare cells = record { doc = None; cells = cells }

  row_is : (k : List ℕ) (rows : List Row) → finished_row reduce (k, making def by reduce rows) ≡ group_row def by reduce rows
  row_is k rows =
      ap (λ (cells : List Cell). bare cells)
      (ap (λ cells. set_cells cells (finished_cells reduce (made_all def reduce rows))) (first_is rows)
      ∙ ap (set_cells (set_cells [] (group_cells def by rows))) (finished_made def reduce rows)
      ∙ sym (fold-append set_cell [] (group_cells def by rows) (reduced_cells def reduce rows)))

  -- and then to finish gives the rows of the groups
  pub finished_groups : (rows : List Row) → map (finished_row reduce) (table_of_rows def by reduce rows) ≡ grouped def by reduce rows
  finished_groups rows = each_group bytes_eq bytes_eq-Decides (tuple_key def by) (making def by reduce) (finished_row reduce) (group_row def by reduce) row_is rows
