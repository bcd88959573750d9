-- Rows that come one by one, and the steps cut in two behind the first that take a row at a time.
use Rattle.std.proofs.Common.{◌≡◌, ℕ, suc, ◌+◌, ◌≤◌, Bool, not, List, [], ◌∷◌, ◌++◌, map, length, take, Option, None, Some, Result, Ok, Err, IfOk, refl, sym, ap, subst, ◌∙◌, inl, inr, true≢false, ltb-false, arith}
use Rattle.std.specs.Prelude.{filter, nat_lt, slice_get}
use Rattle.std.specs.List.{list_all, position_or_len}
use Rattle.std.specs.declared.alloc.Global.{Global}
use Rattle.std.specs.declared.vec.Vec.{Vec}
use Rattle.std.proofs.lemmas.Bool.{cases_Bool}
use Rattle.std.proofs.lemmas.List.{map-append, take-append-drop}
use Rattle.std.proofs.lemmas.List.Elements.{filter-append}
use Rattle.std.proofs.lemmas.List.Sums.{fold-append, prefix_len-le-length}
use Rattle.ft_base.specs.declared.definition.IndexDef.{IndexDef}
use Rattle.ft_base.specs.Docs.{Doc}
use Rattle.ft_base.specs.declared.row.Row.{Row}
use Rattle.row_sort.specs.First.{First as FirstRows}
use Rattle.agg_pipeline.specs.declared.step.Load.{Load}
use Rattle.agg_pipeline.specs.declared.step.SortKey.{SortKey}
use Rattle.agg_pipeline.specs.declared.step.Step.{Step}
use Rattle.agg_pipeline.specs.declared.step.Step.TheVariants.{Apply, Group, Keep, Limit, Sort}
use Rattle.agg_pipeline.specs.declared.feed.Feed.{Feed}
use Rattle.agg_pipeline.specs.declared.feed.Made.{Made}
use Rattle.agg_pipeline.specs.declared.feed.Made.TheVariants.{First, Groups, Rows}
use Rattle.agg_pipeline.specs.declared.step.Reducer.{Reducer}
use Rattle.agg_pipeline.specs.Feeding.{EndsWith, Gains, Holds, IsMade, first_count, first_made, first_steps, later_steps}
use Rattle.agg_pipeline.specs.OneByOne.{rows_of}
use Rattle.agg_pipeline.specs.Ranking.{AreFirst, rows_held}
use Rattle.agg_pipeline.specs.Rows.{loaded}
use Rattle.agg_pipeline.specs.Steps.{applied, is_kept, piped, step_rows}
use Rattle.agg_pipeline.specs.Stream.{AreOfRows, is_of_rows}
use Rattle.agg_pipeline.specs.Table.{Table, finished_row}
use Rattle.agg_pipeline.proofs.GroupLaws.{finished_groups, table_is}
use Rattle.agg_pipeline.proofs.RankingLaws.{rows-held, some-is}

-- ---- the first steps

-- whether a step takes all rows at once
abbrev stops : Step → Bool
stops step = not (is_of_rows step)

count-is : (steps : List Step) → first_count steps ≡ position_or_len stops steps
count-is steps =
    elim (cases_Bool (nat_lt (position_or_len stops steps) (length steps))) [
      | inl found ↦ rw found refl
      | inr none ↦
          let past : length steps ≤ position_or_len stops steps = ltb-false (position_or_len stops steps) (length steps) none in
          let within : position_or_len stops steps ≤ length steps = prefix_len-le-length (λ step. not (stops step)) steps in
          let same : length steps ≡ position_or_len stops steps = omega (arith, past, within) in
          rw none same
    ]

taken-of-rows : (steps : List Step) → AreOfRows (take (position_or_len stops steps) steps)
taken-of-rows [] = refl
taken-of-rows (Group by reduce ∷ steps) = refl
taken-of-rows (Sort keys max ∷ steps) = refl
taken-of-rows (Limit offset num ∷ steps) = refl
taken-of-rows (Apply expr name ∷ steps) =
    let next : 1 + position_or_len stops steps ≡ suc (position_or_len stops steps) = omega arith in rw next (taken-of-rows steps)
taken-of-rows (Keep expr ∷ steps) =
    let next : 1 + position_or_len stops steps ≡ suc (position_or_len stops steps) = omega arith in rw next (taken-of-rows steps)

-- they take a row at a time
first-of-rows : (steps : List Step) → AreOfRows (first_steps steps)
first-of-rows steps = ap (λ n. list_all is_of_rows (take n steps)) (count-is steps) ∙ taken-of-rows steps

-- the later steps go on with what the first made
piped-behind : (def : IndexDef) (steps : List Step) (rows : List Row) → piped def (later_steps steps) (piped def (first_steps steps) rows) ≡ piped def steps rows
piped-behind def steps rows =
    sym (fold-append (λ rows step. step_rows def step rows) rows (first_steps steps) (later_steps steps))
    ∙ ap (λ (all : List Step). piped def all rows) (take-append-drop (first_count steps) steps)

-- ---- rows that come one by one

pub piped-append : (def : IndexDef) (steps : List Step) → AreOfRows steps → (xs ys : List Row) → piped def steps (xs ++ ys) ≡ piped def steps xs ++ piped def steps ys
piped-append def [] all xs ys = refl
piped-append def (Apply expr name ∷ steps) all xs ys =
    ap (piped def steps) (map-append (applied def expr name) xs ys)
    ∙ piped-append def steps all (map (applied def expr name) xs) (map (applied def expr name) ys)
piped-append def (Keep expr ∷ steps) all xs ys =
    ap (piped def steps) (filter-append (is_kept def expr) xs ys)
    ∙ piped-append def steps all (filter (is_kept def expr) xs) (filter (is_kept def expr) ys)
piped-append def (Group by reduce ∷ steps) all xs ys = absurd (true≢false (sym all))
piped-append def (Sort keys max ∷ steps) all xs ys = absurd (true≢false (sym all))
piped-append def (Limit offset num ∷ steps) all xs ys = absurd (true≢false (sym all))

-- what the first steps made, once one more document came
made-next : (def : IndexDef) (load : Load) (steps : List Step) (docs : List Doc) (doc : Doc)
    → first_made def load steps (docs ++ doc ∷ []) ≡ first_made def load steps docs ++ rows_of def load (first_steps steps) (doc ∷ [])
made-next def load steps docs doc =
    ap (piped def (first_steps steps)) (map-append (loaded load def) docs (doc ∷ []))
    ∙ piped-append def (first_steps steps) (first-of-rows steps) (map (loaded load def) docs) (loaded load def doc ∷ [])

-- ---- a feed

module _ (def : IndexDef) (load : Load) (steps : List Step) (docs : List Doc) (feed : Feed) (holds : Holds def load steps docs feed) where
  of-rows : AreOfRows feed.first.now
  of-rows = ap (list_all is_of_rows) holds.first ∙ first-of-rows steps

  -- the rows that are held, once one more document came
  pub rows-next : (doc : Doc) (rows now : Vec Row Global) → feed.made ≡ Rows rows
      → (AreOfRows feed.first.now → now.items ≡ rows.items ++ rows_of feed.def.now feed.load.now feed.first.now (doc ∷ []))
      → now.items ≡ first_made def load steps (docs ++ doc ∷ [])
  rows-next doc rows now is told =
      let held : rows.items ≡ first_made def load steps docs = subst (IsMade def (later_steps steps) (first_made def load steps docs)) is holds.made in
      let pushed : now.items ≡ rows.items ++ rows_of def load (first_steps steps) (doc ∷ []) =
      rw (← holds.first, ← holds.load_same, ← holds.def_same) (told of-rows) in
      pushed ∙ ap (λ (made : List Row). made ++ rows_of def load (first_steps steps) (doc ∷ [])) held ∙ sym (made-next def load steps docs doc)

  -- the same of groups and of first rows
  pub held-next : (doc : Doc) (held now : Made) → feed.made ≡ held
      → (AreOfRows feed.first.now → Gains feed.def.now feed.later.now (rows_of feed.def.now feed.load.now feed.first.now (doc ∷ [])) held now)
      → IsMade def (later_steps steps) (first_made def load steps (docs ++ doc ∷ [])) now
  held-next doc held now is told =
      let was : IsMade def (later_steps steps) (first_made def load steps docs) held = subst (IsMade def (later_steps steps) (first_made def load steps docs)) is holds.made in
      let noted = rw (holds.first, holds.later, holds.load_same, holds.def_same) at told in
      subst (λ (rows : List Row). IsMade def (later_steps steps) rows now) (sym (made-next def load steps docs doc))
      (noted (first-of-rows steps) (first_made def load steps docs) was)

  -- what is made of all that is held
  pub finished : (made : List Row) → EndsWith feed.def.now feed.later.now feed.made made → made ≡ rows_of def load steps docs
  finished made told =
      let all = rw (holds.later, holds.def_same) at told in
      all (first_made def load steps docs) holds.made ∙ piped-behind def steps (map (loaded load def) docs)

-- the rows of a GROUPBY's groups go through the steps behind it
pub groups-finished : (def : IndexDef) (by : List (List ℕ)) (reduce : List Reducer) (behind : List Step) (table : Table)
    → EndsWith def (Group by reduce ∷ behind) (Groups table) (piped def behind (map (finished_row reduce) table))
groups-finished def by reduce behind table rows noted =
    ap (piped def behind)
    (ap (map (finished_row reduce)) (noted ∙ table_is def by reduce rows) ∙ finished_groups def by reduce rows)

-- the first rows of a SORTBY, where it comes first among the later steps
pub sort-held : (def : IndexDef) (later : List Step) (keys : List SortKey) (most : ℕ) (more : List Row) (held now : Option (FirstRows Row)) → Some (Sort keys (Some most)) ≡ slice_get later 0
    → ((rows : List Row) → AreFirst def keys most rows held → AreFirst def keys most (rows ++ more) now) → Gains def later more (First held) (First now)
sort-held def [] keys most more held now is goes_on = λ rows made. absurd made
sort-held def (step ∷ later) keys most more held now is goes_on = subst (λ (s : Step). Gains def (s ∷ later) more (First held) (First now)) (some-is is) goes_on

-- the first rows of a SORTBY go through the steps behind it
pub first-finished : (def : IndexDef) (step : Step) (behind : List Step) (held : Option (FirstRows Row))
    → EndsWith def (step ∷ behind) (First held) (piped def behind (rows_held held))
first-finished def (Sort keys (Some most)) behind held rows made = ap (piped def behind) (rows-held def keys most rows held made)
first-finished def (Sort keys None) behind held rows made = absurd made
first-finished def (Group by reduce) behind held rows made = absurd made
first-finished def (Apply expr name) behind held rows made = absurd made
first-finished def (Keep expr) behind held rows made = absurd made
first-finished def (Limit offset num) behind held rows made = absurd made

pub IfOk-map : {T E : Type 0} (r : Result T E) (P Q : T → Type 0) → ((x : T) → P x → Q x) → IfOk r P → IfOk r Q
IfOk-map (Ok x) P Q f h = f x h
IfOk-map (Err e) P Q f h = h
