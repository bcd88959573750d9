-- A legal history of a cursor whose FILTER drops what its query finds: it gives nothing, so that a document without a row may
-- not count as one that matches.
use Rattle.std.proofs.Common.{◌≡◌, ℕ, true, false, cond, pos, List, [], ◌∷◌, ◌++◌, filter, take, is_some, codes, Option, Some, None, Ok, refl, sym, ap, ap₂, ◌∙◌, lit<, lit≤}
use Rattle.std.specs.List.{cons_option, filter_map}
use denote.Hole.Carrier.{out}
use Rattle.agg_pipeline.specs.RowMade.{first_row}
use Rattle.agg_pipeline.specs.Rows.{loaded}
use Rattle.agg_pipeline.specs.declared.step.Load.TheVariants as nothing
use Rattle.agg_pipeline.specs.declared.step.Step.TheVariants.{Keep}
use Rattle.agg_pipeline.specs.Stream.{Stream}
use Rattle.cmd_parse.specs.Aggregate.{part_at, part_with}
use Rattle.cmd_parse.specs.AggregateNames.{part_of}
use Rattle.cmd_parse.specs.AggregateSteps.{step_at}
use Rattle.cmd_parse.specs.AggregateWords.{tree_of}
use Rattle.cmd_parse.specs.Aggregating.{Aggregating}
use Rattle.cmd_parse.specs.Asked.{Aggregate}
use Rattle.cmd_parse.specs.Read.{read}
use Rattle.cmd_parse.specs.declared.aggregate_words.CursorSpec.{CursorSpec}
use Rattle.cursor_book.specs.declared.cursor.Body.TheVariants as body
use Rattle.expr_eval.specs.Meaning.{value_of, value_step}
use Rattle.expr_eval.specs.Reading.{sign_at, others_at, chain_at, closed_at, group_at as in_parens_at, item_at, signed_at, comparison_at, negation_at, whole_at}
use Rattle.expr_eval.specs.Tokens.{tokens_of, kind_at, sign_of}
use Rattle.expr_eval.specs.Values.{Operand, Nothing, is_true, operand_of, operand_step}
use Rattle.expr_eval.specs.declared.tree.Expr.{Expr}
use Rattle.expr_eval.specs.declared.tree.Expr.TheFolds.{fold_out-Expr}
use Rattle.expr_eval.specs.declared.tree.Expr.TheVariants as tree
use Rattle.expr_eval.specs.declared.tree.Expr.TheViews.{out-Expr}
use Rattle.ft_base.specs.Reading.{parts_at}
use Rattle.ft_base.specs.Reply.{spelling}
use Rattle.ft_base.specs.Words.{KeepsLimits}
use Rattle.ft_base.specs.Docs.{Doc}
use Rattle.ft_base.specs.declared.query.Query.TheVariants as query
use Rattle.ft_base.specs.declared.reply.Reply.TheVariants.{Line, Number}
use Rattle.ft_base.specs.declared.row.Row.{Row}
use Rattle.ft_base.specs.declared.row.Value.{Value}
use Rattle.ft_base.specs.declared.row.Value.TheFolds.{fold_out-Value}
use Rattle.ft_base.specs.declared.row.Value.TheVariants.{Null}
use Rattle.ft_base.specs.declared.row.Value.TheViews.{out-Value}
use Rattle.ft_machine.specs.History.{IsLegal}
use Rattle.ft_machine.specs.Opening.{opened_by}
use Rattle.ft_machine.specs.Parts.{behind, docs_taken, last_id, part, still_to_come, stream_part, stream_row, stream_taken}
use Rattle.ft_machine.specs.Step.{Answers}
use Rattle.ft_machine.specs.Parts.{Part}
use Rattle.cursor_book.specs.declared.cursor.Taken.TheVariants as taken
use Rattle.history_core.specs.Entries.{Exec}
use Rattle.cursor_law.specs.Given.{given as given_by}
use Rattle.cursor_law.specs.Opens.{Opens}
use Rattle.cursor_law.specs.Steps.{Step, steps}
use Rattle.cursor_law.specs.StreamCursor.{StreamCursor, after_in, found_in, gives_row, has_id, hits_in}
use Rattle.cursor_law.proofs.PartLaws.{first-given}
use Rattle.cursor_law.proofs.ExampleWords.{Command, commands_alone, create_words, index, set_words, star_answers}
use Rattle.cursor_law.proofs.Examples.{a, all-found, answer, b, create_keeps, created, doc, earlier, gives, keeps, no_fault, set_a, set_b, set_keeps, state}

-- a cursor over all documents whose `p` is a number other than 0
abbrev filter_words : List (List ℕ)
filter_words = codes "FT.AGGREGATE" ∷ codes "ix" ∷ codes "*" ∷ codes "FILTER" ∷ codes "@p" ∷ codes "WITHCURSOR" ∷ []

abbrev p : Expr
p = tree.Prop (codes "p")

abbrev stream : Stream
stream = (nothing.Nothing, Keep (tree.Prop (codes "p")) ∷ [])

abbrev spec : CursorSpec
spec = record { count = 1000; max_idle = 300000 }

abbrev what : Aggregating
what = record { index = codes "ix"; query = codes "*"; load = nothing.Nothing; steps = Keep (tree.Prop (codes "p")) ∷ []; params = []; cursor = Some spec }

filter_asks : (number : ℕ) → read number filter_words ≡ Ok (Aggregate what)
unfolding part_of part_with part_at parts_at step_at tree_of tokens_of kind_at sign_of whole_at chain_at others_at sign_at item_at signed_at comparison_at negation_at in_parens_at closed_at
filter_asks number = refl

-- ---- no document has a `p`

p-is : (row : Row) → value_of p row index ≡ Rattle.expr_eval.specs.Properties.property_value (codes "p") row index
unfolding out-Expr out
p-is row = fold_out-Expr Value (value_step row index) p

null-is : operand_of Null ≡ Nothing
unfolding out-Value out
null-is = fold_out-Value Operand operand_step Null

no_row : (id : ℕ) (key : List ℕ) → stream_row index stream (doc id key) ≡ None
no_row id key = ap (λ v. first_row (cond (is_true (operand_of v)) (loaded nothing.Nothing index (doc id key) ∷ []) [])) (p-is (loaded nothing.Nothing index (doc id key)))
    ∙ ap (λ o. first_row (cond (is_true o) (loaded nothing.Nothing index (doc id key) ∷ []) [])) null-is

both_taken : docs_taken (stream_row index stream) 1000 (doc 2 a ∷ doc 3 b ∷ []) ≡ doc 2 a ∷ doc 3 b ∷ []
both_taken = ap (λ row. doc 2 a ∷ docs_taken (stream_row index stream) (still_to_come row 999) (doc 3 b ∷ [])) (no_row 2 a)

no_rows : filter_map (stream_row index stream) (docs_taken (stream_row index stream) 1000 (doc 2 a ∷ doc 3 b ∷ [])) ≡ []
no_rows = ap (filter_map (stream_row index stream)) both_taken ∙ ap₂ (λ (left right : Option Row). cons_option left (cons_option right [])) (no_row 2 a) (no_row 3 b)

abbrev cursor : StreamCursor
cursor = record { serial = 1; id = 4; count = 1000; query = query.All; stream = stream }

-- ---- they are found, and do not match

found : found_in cursor (Some index) (doc 2 a ∷ doc 3 b ∷ []) ≡ doc 2 a ∷ doc 3 b ∷ []
found = all-found (doc 2 a ∷ doc 3 b ∷ [])

none_match : hits_in cursor (Some index) (doc 2 a ∷ doc 3 b ∷ []) ≡ []
none_match = ap (filter (gives_row cursor (Some index))) found ∙ rows_drop
  where
    rows_drop : filter (gives_row cursor (Some index)) (doc 2 a ∷ doc 3 b ∷ []) ≡ []
    rows_drop = ap₂ (λ (left right : Option Row). cond (is_some left) (doc 2 a ∷ cond (is_some right) (doc 3 b ∷ []) []) (cond (is_some right) (doc 3 b ∷ []) [])) (no_row 2 a) (no_row 3 b)

-- ---- the opening ends it, and gives nothing

abbrev opening : Step
opening = record { number = 4; moment = 0; old = state (doc 2 a ∷ doc 3 b ∷ []) [] 0; words = filter_words; reply = spelling (answer [] 0); new = state (doc 2 a ∷ doc 3 b ∷ []) [] 0 }

opens : Opens cursor opening
opens = record {
  what = what;
  spec = spec;
  index = record { def = index; failures = 0 };
  number = lit< tt;
  asks = filter_asks 4;
  with_cursor = refl;
  there = refl;
  query = star_answers;
  of_rows = refl;
  stream = refl;
  serial = refl;
  id = refl;
  count = refl;
  memory = no_fault _ _;
  room = no_fault _ _;
}

given_is : given_by cursor opening [] ≡ []
given_is = ap (λ l. l ++ []) (first-given cursor (Some index) 0 1000 (doc 2 a ∷ doc 3 b ∷ []) ∙ ap (λ l. take 1000 (behind 0 l)) none_match)

-- A document that the query finds throughout would have to be given, if it needed no row to match.
needs_a_row : (has_id 2 (found_in cursor (Some index) (doc 2 a ∷ doc 3 b ∷ [])) ≡ true) × (after_in cursor opening.new ≡ None) × (has_id 2 (given_by cursor opening []) ≡ false)
needs_a_row = (ap (has_id 2) found, refl, ap (has_id 2) given_is)

-- ---- the history

filter_keeps : KeepsLimits filter_words
filter_keeps = keeps filter_words (lit≤ tt) (lit≤ tt, (lit≤ tt, (lit≤ tt, (lit≤ tt, (lit≤ tt, (lit≤ tt, tt)))))) (lit≤ tt)

abbrev part_over : List Doc → Part
part_over docs = stream_part index stream 0 1000 (stream_taken index stream 0 1000 docs)

part_is : part_over (doc 2 a ∷ doc 3 b ∷ []) ≡ part 1000 [] (taken.UpTo 3)
part_is = ap₂ (λ rows docs. part 1000 rows (taken.UpTo (last_id 0 docs))) no_rows both_taken

read_is : Answers filter_words 4 0 opening.old (spelling (answer [] 0)) opening.new
read_is = gives filter_words 4 0 opening.old (Aggregate what) (record { reply = answer [] 0; after = opening.new }) (lit< tt) (filter_asks 4)
    (record {
      answer = Ok query.All;
      read = λ e. let bad : ⊥ = cc in bad;
      text = star_answers;
      same = sym (ap (λ docs. opened_by 1 spec 4 (body.Stream query.All stream 0) (part_over docs) opening.old) (all-found (doc 2 a ∷ doc 3 b ∷ []))
          ∙ ap (λ part. opened_by 1 spec 4 (body.Stream query.All stream 0) part opening.old) part_is);
    })

abbrev entries : List Command
entries =
    Exec 0 0 create_words (spelling (Line (codes "OK")))
    ∷ Exec 0 0 (set_words a) (spelling (Number (pos 1)))
    ∷ Exec 0 0 (set_words b) (spelling (Number (pos 1)))
    ∷ Exec 0 0 filter_words (spelling (answer [] 0))
    ∷ []

legal : IsLegal commands_alone 1 entries opening.new
legal = (
  state [] [] 0,
  (lit< tt, create_keeps, created),
  (
    state (doc 2 a ∷ []) [] 0,
    (lit< tt, set_keeps a (lit≤ tt) (lit≤ tt), set_a),
    (
      state (doc 2 a ∷ doc 3 b ∷ []) [] 0,
      (lit< tt, set_keeps b (lit≤ tt) (lit≤ tt), set_b),
      (opening.new, (lit< tt, filter_keeps, read_is), refl),
    ),
  ),
)

its_steps : steps commands_alone 1 entries opening.new legal ≡ earlier ++ opening ∷ []
unfolding legal
its_steps = refl
