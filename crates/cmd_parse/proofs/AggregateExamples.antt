-- What the definitions say of some aggregates, whose words are parted by blanks here.
use Rattle.std.proofs.Common.{◌≡◌, ◌∙◌, ℕ, Bool, false, true, List, [], ◌∷◌, map, length, Option, Some, None, Result, Ok, Err, refl, ap}
use Rattle.std.specs.Prelude.{codes}
use Rattle.ft_base.specs.Reading.{◌>>=◌, parts_at}
use Rattle.ft_base.proofs.PartsLaws.{begins, ended, goes_on, stops_there}
use Rattle.agg_pipeline.specs.declared.step.Load.TheVariants.{All, Fields}
use Rattle.agg_pipeline.specs.declared.step.ReduceKind.{ReduceKind}
use Rattle.agg_pipeline.specs.declared.step.ReduceKind.TheVariants as kind
use Rattle.agg_pipeline.specs.declared.step.Reducer.{Reducer}
use Rattle.agg_pipeline.specs.declared.step.SortKey.{SortKey}
use Rattle.agg_pipeline.specs.declared.step.Step.{Step}
use Rattle.agg_pipeline.specs.declared.step.Step.TheVariants.{Apply, Group, Keep, Sort}
use Rattle.expr_eval.specs.declared.tree.Expr.TheVariants as tree
use Rattle.expr_eval.specs.declared.tree.Func.TheVariants.{Exists}
use Rattle.expr_eval.specs.Reading.{sign_at, others_at, chain_at, closed_at, group_at as in_parens_at, item_at, signed_at, comparison_at, negation_at, whole_at}
use Rattle.expr_eval.specs.Tokens.{tokens_of, kind_at, sign_of}
use Rattle.cmd_parse.specs.Aggregate.{no_parts, part_at, part_with}
use Rattle.cmd_parse.specs.AggregateNames.{part_of, reducer_of}
use Rattle.cmd_parse.specs.AggregateSteps.{argument_at, cell_at, group_at, is_no_reduce, key_at, keys_up_to, load_at, max_at, reduce_at, reducer_at, reducers_at, sorted_at, step_at}
use Rattle.cmd_parse.specs.AggregateWords.{count_at, counted_names, name_at, name_of, tree_of}
use Rattle.cmd_parse.specs.Aggregating.{Aggregating, aggregate, aggregate_with, aggregating_of}
use Rattle.cmd_parse.specs.Search.{is_at_end}
use Rattle.cmd_parse.specs.Searching.{placed}
use Rattle.cmd_parse.specs.Words.{Word, Read, number_at}
use Rattle.cmd_parse.specs.declared.aggregate_names.NameForm.TheVariants as form
use Rattle.cmd_parse.specs.declared.aggregate_parts.Parts.{Parts}
use Rattle.cmd_parse.specs.declared.command.CmdFault.{CmdFault}
use Rattle.cmd_parse.specs.declared.command.CmdFault.TheVariants.{Limit, OutOfScope, Syntax}
use Rattle.cmd_parse.specs.declared.stop.Cause.TheVariants as causes
use Rattle.cmd_parse.specs.declared.stop.Stop.{Stop}
use Rattle.cmd_parse.specs.declared.stop.Stop.TheVariants.{Fault}
use Rattle.cmd_parse.proofs.OptionsLaws.{some-left}
use Rattle.cmd_parse.proofs.SearchExamples.{is_0, is_1, is_2, is_4, words}

-- what FT.AGGREGATE asks that has these parts behind an index and a query
abbrev command : List Word → List Word
command parts = codes "FT.AGGREGATE" ∷ codes "ix" ∷ codes "q" ∷ parts

abbrev asked : List Word → Result Aggregating CmdFault
asked parts = aggregate (command parts)

abbrev aggregating : Parts → Result Aggregating CmdFault
aggregating parts = Ok (aggregating_of (codes "ix") (codes "q") parts)

-- parts without numbers and expressions, and the faults of such
rows : map (λ text. asked (words text)) (
    codes "verbatim"
    ∷ codes "LOAD * VERBATIM"
    ∷ codes "withcursor"
    ∷ codes "VERBATIM VERBATIM"
    ∷ codes "LOAD * LOAD *"
    ∷ codes "VERBATIM WITHSCORES VERBATIM"
    ∷ codes "VERBATIM PAYLOADS"
    ∷ codes "REDUCE COUNT"
    ∷ codes "APPLY"
    ∷ codes "WITHCURSOR MAXIDLE"
    ∷ [])
    ≡ aggregating (record no_parts { verbatim = true })
    ∷ aggregating (record no_parts { load = Some All; verbatim = true })
    ∷ aggregating (record no_parts { cursor = Some (record { count = 1000; max_idle = 300000 }) })
    ∷ Err (Syntax 4)
    ∷ Err (Syntax 5)
    ∷ Err (OutOfScope 4)
    ∷ Err (Syntax 4)
    ∷ Err (Syntax 3)
    ∷ Err (Syntax 4)
    ∷ Err (Syntax 5)
    ∷ []
unfolding part_of part_with part_at parts_at number_at load_at step_at
rows = refl

-- An aggregate of one part is what the part gives.
abbrev alone : List Word → Read Parts
alone parts = part_at no_parts parts

refused : (parts : List Word) (stop : Stop) → is_at_end parts ≡ false → alone parts ≡ Err stop → asked parts ≡ Err (placed (length (command parts)) stop)
refused parts stop more e =
    let stops = stops_there is_at_end part_at no_parts parts _ stop more e (begins is_at_end part_at no_parts parts) in
    ap (aggregate_with (codes "ix") (codes "q") (command parts)) (ap (λ (r : Read Parts). r >>= λ x. Ok x.0) stops)

answered : (parts : List Word) (given : Parts) → is_at_end parts ≡ false → alone parts ≡ Ok (given, []) → asked parts ≡ aggregating given
answered parts given more e =
    let start = begins is_at_end part_at no_parts parts in
    let end = goes_on is_at_end part_at no_parts given parts [] _ more e (some-left parts more) start in
    ap (aggregate_with (codes "ix") (codes "q") (command parts)) (ap (λ (r : Read Parts). r >>= λ x. Ok x.0) (ended is_at_end part_at given [] _ refl end))

-- one part to the end
once : {A : Type 0} (ends : List Word → Bool) (part : A → List Word → Read A) (first next : A) (parts : List Word) → is_at_end parts ≡ false → ends parts ≡ false → ends [] ≡ true
    → part first parts ≡ Ok (next, []) → parts_at ends part first parts ≡ Ok (next, [])
once ends part first next parts some more done e =
    ended ends part next [] _ done (goes_on ends part first next parts [] _ more e (some-left parts some) (begins ends part first parts))

-- a reducer's cell, with AS and without
abbrev count_all : Reducer
count_all = record { kind = kind.Count; of = None; name = codes "count" }

counts : reduce_at (words (codes "count 0")) ≡ Ok (count_all, [])
unfolding number_at reducer_of cell_at
counts = rw (is_0) refl

abbrev cell_behind : ReduceKind → Read (Option Word) → Read Reducer
cell_behind kind property =
    property >>= λ found. cell_at kind found.0 found.1 >>= λ name. Ok (record { kind = kind; of = found.0; name = name.0 }, name.1)

one_argument : argument_at kind.Sum (words (codes "1 @n AS s")) ≡ Ok (Some (codes "n"), words (codes "AS s"))
unfolding number_at name_of
one_argument = rw (is_1) refl

named : reduce_at (words (codes "SUM 1 @n AS s")) ≡ Ok (record { kind = kind.Sum; of = Some (codes "n"); name = codes "s" }, [])
unfolding reducer_of cell_at
named = ap (cell_behind kind.Sum) one_argument

other_argument : argument_at kind.Max (words (codes "1 @n LIMIT")) ≡ Ok (Some (codes "n"), words (codes "LIMIT"))
unfolding number_at name_of
other_argument = rw (is_1) refl

usual : reduce_at (words (codes "MAX 1 @n LIMIT")) ≡ Ok (record { kind = kind.Max; of = Some (codes "n"); name = codes "max_n" }, words (codes "LIMIT"))
unfolding reducer_of cell_at
usual = ap (cell_behind kind.Max) other_argument

-- a reducer that is left out
average : reduce_at (words (codes "AVG 1 @n")) ≡ Err (Fault causes.OutOfScope 3)
unfolding number_at reducer_of
average = refl

-- FIRST_VALUE with BY: its number of arguments is wrong
four_arguments : argument_at kind.FirstValue (words (codes "4 @a BY @b ASC")) ≡ Err (Fault causes.Syntax 5)
unfolding number_at
four_arguments = rw (is_4) refl

first_by : reduce_at (words (codes "FIRST_VALUE 4 @a BY @b ASC")) ≡ Err (Fault causes.Syntax 5)
unfolding reducer_of cell_at
first_by = ap (cell_behind kind.FirstValue) four_arguments

-- GROUPBY of no property: one group, whose rows are counted
no_properties : counted_names form.Property (words (codes "0 REDUCE count 0")) ≡ Ok ([], words (codes "REDUCE count 0"))
unfolding number_at parts_at
no_properties = rw (is_0) refl

one_reducer : reducers_at (words (codes "REDUCE count 0")) ≡ Ok (count_all ∷ [], [])
unfolding reducer_at
one_reducer =
    once is_no_reduce reducer_at [] (count_all ∷ []) (words (codes "REDUCE count 0")) refl refl refl (ap (λ (r : Read Reducer). r >>= λ x. Ok (x.0 ∷ [], x.1)) counts)

grouped : group_at (words (codes "0 REDUCE count 0")) ≡ Ok (Group [] (count_all ∷ []), [])
grouped =
    ap (λ (r : Read (List Word)). r >>= λ by. reducers_at by.1 >>= λ reduce. Ok (Group by.0 reduce.0, reduce.1)) no_properties
    ∙ ap (λ (r : Read (List Reducer)). r >>= λ reduce. Ok (Group [] reduce.0, reduce.1)) one_reducer

counted : asked (words (codes "GROUPBY 0 REDUCE count 0")) ≡ aggregating (record no_parts { steps = Group [] (count_all ∷ []) ∷ [] })
unfolding part_of part_with part_at step_at
counted = answered (words (codes "GROUPBY 0 REDUCE count 0")) (record no_parts { steps = Group [] (count_all ∷ []) ∷ [] }) refl
    (ap (λ (r : Read Step). r >>= λ x. Ok (record no_parts { steps = x.0 ∷ [] }, x.1)) grouped)

-- SORTBY: its number counts the words up to MAX
abbrev falling : List SortKey
falling = record { name = codes "p"; descending = true } ∷ []

two_words : count_at (words (codes "2 @p DESC MAX 1")) ≡ Ok (2, words (codes "@p DESC MAX 1"))
unfolding number_at
two_words = rw (is_2) refl

one_key : keys_up_to 2 (words (codes "@p DESC MAX 1")) ≡ Ok (falling, words (codes "MAX 1"))
unfolding parts_at key_at name_of
one_key = refl

one_row : max_at (words (codes "MAX 1")) ≡ Ok (Some 1, [])
unfolding max_at number_at
one_row = rw (is_1) refl

sorted : sorted_at (words (codes "2 @p DESC MAX 1")) ≡ Ok (Sort falling (Some 1), [])
sorted =
    ap (λ (r : Read ℕ). r >>= λ n. keys_up_to n.0 n.1 >>= λ keys. max_at keys.1 >>= λ max. Ok (Sort keys.0 max.0, max.1)) two_words
    ∙ (ap (λ (r : Read (List SortKey)). r >>= λ keys. max_at keys.1 >>= λ max. Ok (Sort keys.0 max.0, max.1)) one_key
    ∙ ap (λ (r : Read (Option ℕ)). r >>= λ max. Ok (Sort falling max.0, max.1)) one_row)

-- a direction behind the words that are counted is another part's word
one_word : sorted_at (words (codes "1 @p DESC")) ≡ Ok (Sort (record { name = codes "p"; descending = false } ∷ []) None, words (codes "DESC"))
unfolding number_at parts_at key_at name_of max_at
one_word = rw (is_1) refl

-- LOAD: the `@` may be left out
loaded : asked (words (codes "LOAD 2 @t u")) ≡ aggregating (record no_parts { load = Some (Fields (codes "t" ∷ codes "u" ∷ [])) })
unfolding part_of part_with part_at parts_at number_at load_at name_of name_at
loaded = answered (words (codes "LOAD 2 @t u")) (record no_parts { load = Some (Fields (codes "t" ∷ codes "u" ∷ [])) }) refl (rw (is_2) refl)

-- AS is left out there
loaded_as : asked (words (codes "LOAD 1 AS")) ≡ Err (OutOfScope 5)
unfolding part_of part_with part_at parts_at number_at load_at name_of name_at
loaded_as = refused (words (codes "LOAD 1 AS")) (Fault causes.OutOfScope 1) refl (rw (is_1) refl)

-- a property without `@`
bare : asked (words (codes "GROUPBY 1 p")) ≡ Err (Syntax 5)
unfolding part_of part_with part_at parts_at number_at step_at name_of name_at
bare = refused (words (codes "GROUPBY 1 p")) (Fault causes.Syntax 1) refl (rw (is_1) refl)

-- a number of more words than there are
too_few : asked (words (codes "GROUPBY 2 @p")) ≡ Err (Syntax 4)
unfolding part_of part_with part_at parts_at number_at step_at
too_few = refused (words (codes "GROUPBY 2 @p")) (Fault causes.Syntax 2) refl (rw (is_2) refl)

-- a cursor that would give no row
no_rows : asked (words (codes "WITHCURSOR COUNT 0")) ≡ Err (Limit 5)
unfolding part_of part_with part_at number_at
no_rows = refused (words (codes "WITHCURSOR COUNT 0")) (Fault causes.Limit 1) refl (rw (is_0) refl)

-- expressions, and a fault of one before a fault of the words behind it
expressions : map (λ text. asked (words text)) (
    codes "APPLY @p AS q"
    ∷ codes "FILTER exists(@p)"
    ∷ codes "FILTER ) PAYLOADS"
    ∷ codes "APPLY ) q"
    ∷ codes "APPLY @p q"
    ∷ codes "APPLY @p AS"
    ∷ codes "FILTER @p LOAD *"
    ∷ [])
    ≡ aggregating (record no_parts { steps = Apply (tree.Prop (codes "p")) (codes "q") ∷ [] })
    ∷ aggregating (record no_parts { steps = Keep (tree.Call Exists (tree.Prop (codes "p"))) ∷ [] })
    ∷ Err (Syntax 4)
    ∷ Err (Syntax 4)
    ∷ Err (Syntax 5)
    ∷ Err (Syntax 6)
    ∷ Err (Syntax 5)
    ∷ []
unfolding part_of part_with part_at parts_at step_at tree_of tokens_of kind_at sign_of whole_at chain_at others_at sign_at item_at signed_at comparison_at negation_at in_parens_at closed_at
expressions = refl
