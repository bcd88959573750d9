-- What the definitions say of some values and rows.
use Rattle.std.proofs.Common.{◌≡◌, ℕ, ℤ, pos, negsuc, ◌+ℤ◌, Bool, true, false, List, [], ◌∷◌, ◌++◌, length, Option, None, Some, codes, refl, sym, ap, ◌∙◌}
use Rattle.std.specs.Int.{cast_unsigned, w64}
use Rattle.std.specs.Prelude.{◌==◌, unwrap_or}
use Rattle.std.specs.Str.{bytes_eq}
use Rattle.ft_base.specs.Cells.{cell}
use Rattle.ft_base.specs.declared.definition.FieldKind.TheVariants.{Text}
use Rattle.ft_base.specs.declared.definition.IndexDef.{IndexDef}
use Rattle.ft_base.specs.Docs.{Doc}
use Rattle.ft_base.specs.declared.row.Cell.{Cell}
use Rattle.ft_base.specs.declared.row.Row.{Row}
use Rattle.ft_base.specs.declared.row.Value.{Value}
use Rattle.ft_base.specs.declared.row.Value.TheFolds.{fold-roll-Value}
use Rattle.ft_base.specs.declared.row.Value.TheOpen as layer
use Rattle.ft_base.specs.declared.row.Value.TheVariants as value
use Rattle.expr_eval.specs.Values.{Operand, num_or_null, number_of, operand_of, operand_step, whole}
use Rattle.agg_pipeline.specs.declared.step.Load.TheVariants.{All, Fields}
use Rattle.agg_pipeline.specs.declared.step.ReduceKind.TheVariants.{Count, FirstValue, Min, Sum}
use Rattle.agg_pipeline.specs.declared.step.Reducer.{Reducer}
use Rattle.agg_pipeline.specs.declared.step.Step.TheVariants.{Limit}
use Rattle.agg_pipeline.specs.Equal.{eight_bytes, spelled, spelling_step, value_eq}
use Rattle.agg_pipeline.specs.Groups.{firsts, groups}
use Rattle.agg_pipeline.specs.Grouping.{grouped}
use Rattle.agg_pipeline.specs.Reduce.{added, least, lesser, number, reduced, sum_of}
use Rattle.agg_pipeline.specs.Rows.{loaded_cells, set_cell, set_cells}
use Rattle.agg_pipeline.specs.Steps.{piped}

-- ---- groups

-- groups stand in order of first appearance, and their items in their old order
abbrev same_first : ℕ × ℕ → ℕ × ℕ → Bool
same_first a b = a.0 == b.0

groups_by_appearance : groups same_first ((2, 0) ∷ (1, 1) ∷ (2, 2) ∷ []) ≡ ((2, 0) ∷ (2, 2) ∷ []) ∷ ((1, 1) ∷ []) ∷ []
groups_by_appearance = refl

no_items_no_groups : groups same_first [] ≡ []
no_items_no_groups = refl

firsts_once : firsts same_first ((2, 0) ∷ (1, 1) ∷ (2, 2) ∷ []) ≡ (2, 0) ∷ (1, 1) ∷ []
firsts_once = refl

-- ---- cells

abbrev n : Cell
n = cell (codes "n") (value.Num (pos 1))

abbrev m : Cell
m = cell (codes "m") (value.Num (pos 2))

-- a cell of a name that is there takes the old one's place, and another goes last
present_in_place : set_cell (n ∷ m ∷ []) (cell (codes "n") value.Null) ≡ cell (codes "n") value.Null ∷ m ∷ []
present_in_place = refl

absent_last : set_cell (n ∷ []) m ≡ n ∷ m ∷ []
absent_last = refl

later_counts : set_cells [] (n ∷ m ∷ cell (codes "n") (value.Num (pos 3)) ∷ []) ≡ cell (codes "n") (value.Num (pos 3)) ∷ m ∷ []
later_counts = refl

-- ---- equality

spelled-Null : spelled value.Null ≡ 0 ∷ []
spelled-Null = ap spelled (sym value.rolls-Null) ∙ fold-roll-Value (List ℕ) spelling_step layer.Null

spelled-Num : (k : ℤ) → spelled (value.Num k) ≡ 1 ∷ eight_bytes (cast_unsigned w64 k)
spelled-Num k = ap spelled (sym (value.rolls-Num k)) ∙ fold-roll-Value (List ℕ) spelling_step (layer.Num k)

spelled-Text : (text : List ℕ) → spelled (value.Text text) ≡ 2 ∷ (eight_bytes (length text) ++ text)
spelled-Text text = ap spelled (sym (value.rolls-Text text)) ∙ fold-roll-Value (List ℕ) spelling_step (layer.Text text)

-- the Num 1 and the Text `1` are two values
number_is_no_text : value_eq (value.Num (pos 1)) (value.Text (codes "1")) ≡ false
number_is_no_text =
    ap (λ bytes. bytes_eq bytes (spelled (value.Text (codes "1")))) (spelled-Num (pos 1))
    ∙ ap (bytes_eq (1 ∷ eight_bytes 1)) (spelled-Text (codes "1"))

nulls_are_equal : value_eq value.Null value.Null ≡ true
nulls_are_equal = ap (λ bytes. bytes_eq bytes (spelled value.Null)) spelled-Null ∙ ap (bytes_eq (0 ∷ [])) spelled-Null

-- ---- reducers

number-Null : number value.Null ≡ None
number-Null = ap number_of (ap operand_of (sym value.rolls-Null) ∙ fold-roll-Value Operand operand_step layer.Null)

number-Num : (k : ℤ) → number (value.Num k) ≡ Some k
number-Num k = ap number_of (ap operand_of (sym (value.rolls-Num k)) ∙ fold-roll-Value Operand operand_step (layer.Num k))

number-Text : (text : List ℕ) → number (value.Text text) ≡ None
number-Text text = ap number_of (ap operand_of (sym (value.rolls-Text text)) ∙ fold-roll-Value Operand operand_step (layer.Text text))

added_three : (a b c : Value) (x y z : Option ℤ) → number a ≡ x → number b ≡ y → number c ≡ z
    → sum_of (a ∷ b ∷ c ∷ []) ≡ pos 0 +ℤ unwrap_or x (pos 0) +ℤ unwrap_or y (pos 0) +ℤ unwrap_or z (pos 0)
added_three a b c x y z p q r =
    ap (λ k. added (added (pos 0 +ℤ unwrap_or k (pos 0)) b) c) p
    ∙ ap (λ k. added (pos 0 +ℤ unwrap_or x (pos 0) +ℤ unwrap_or k (pos 0)) c) q
    ∙ ap (λ k. pos 0 +ℤ unwrap_or x (pos 0) +ℤ unwrap_or y (pos 0) +ℤ unwrap_or k (pos 0)) r

least_of_three : (a b c : Value) (x y z : Option ℤ) → number a ≡ x → number b ≡ y → number c ≡ z → least (a ∷ b ∷ c ∷ []) ≡ lesser (lesser (lesser None x) y) z
least_of_three a b c x y z p q r =
    ap (λ k. lesser (lesser (lesser None k) (number b)) (number c)) p
    ∙ ap (λ k. lesser (lesser (lesser None x) k) (number c)) q
    ∙ ap (λ k. lesser (lesser (lesser None x) y) k) r

-- the greatest number, 1 and -1 give the greatest number: only the whole sum is judged
sum_is_exact : reduced Sum (value.Num (pos 9223372036854775807) ∷ value.Num (pos 1) ∷ value.Num (negsuc 0) ∷ []) ≡ value.Num (pos 9223372036854775807)
sum_is_exact = ap (λ k. num_or_null (whole k)) (added_three _ _ _ _ _ _ (number-Num _) (number-Num _) (number-Num _))

-- one that has no 64 bits is Null
sum_past_the_end : reduced Sum (value.Num (pos 9223372036854775807) ∷ value.Num (pos 1) ∷ value.Null ∷ []) ≡ value.Null
sum_past_the_end = ap (λ k. num_or_null (whole k)) (added_three _ _ _ _ _ _ (number-Num _) (number-Num _) number-Null)

-- of no Num the sum is 0, and the least and the greatest are Null
sum_of_none : reduced Sum [] ≡ value.Num (pos 0)
sum_of_none = refl

least_of_texts : reduced Min (value.Text (codes "a") ∷ value.Null ∷ value.Text (codes "1") ∷ []) ≡ value.Null
least_of_texts = ap num_or_null (least_of_three _ _ _ _ _ _ (number-Text _) number-Null (number-Text _))

least_of_numbers : reduced Min (value.Num (pos 3) ∷ value.Text (codes "a") ∷ value.Num (negsuc 1) ∷ []) ≡ value.Num (negsuc 1)
least_of_numbers = ap num_or_null (least_of_three _ _ _ _ _ _ (number-Num _) (number-Text _) (number-Num _))

first_may_be_null : reduced FirstValue (value.Null ∷ value.Num (pos 3) ∷ []) ≡ value.Null
first_may_be_null = refl

-- ---- rows

-- without rows there is no group, whatever the properties
no_rows_no_group : (def : IndexDef) (by : List (List ℕ)) (reduce : List Reducer) → grouped def by reduce [] ≡ []
no_rows_no_group def by reduce = refl

-- all rows are one group where no property is given
all_are_one_group : (def : IndexDef) (a b : Row) → grouped def [] (record { kind = Count; of = None; name = codes "c" } ∷ []) (a ∷ b ∷ [])
    ≡ record { doc = None; cells = cell (codes "c") (value.Num (pos 2)) ∷ [] } ∷ []
all_are_one_group def a b = refl

-- windows
window : (def : IndexDef) (a b c d : Row) → piped def (Limit 1 2 ∷ []) (a ∷ b ∷ c ∷ d ∷ []) ≡ b ∷ c ∷ []
window def a b c d = refl

window_of_a_window : (def : IndexDef) (a b c d : Row) → piped def (Limit 1 3 ∷ Limit 2 5 ∷ []) (a ∷ b ∷ c ∷ d ∷ []) ≡ d ∷ []
window_of_a_window def a b c d = refl

-- ---- LOAD

abbrev index : IndexDef
index = record {
  name = codes "ix";
  serial = 1;
  prefixes = [];
  stops = record { words = [] };
  fields = record { name = codes "a"; alias = codes "b"; kind = Text; sortable = false; unf = false; noindex = false } ∷ [];
}

abbrev document : Doc
document = record { id = 2; key = codes "d"; hash = (codes "a", codes "one") ∷ (codes "b", codes "two") ∷ [] }

-- a property is the field that its alias names, else the field of that name; what isn't there has no cell
loads_by_alias : loaded_cells (Fields (codes "b" ∷ codes "x" ∷ codes "a" ∷ [])) index document ≡ cell (codes "b") (value.Text (codes "one")) ∷ cell (codes "a") (value.Text (codes "one")) ∷ []
loads_by_alias = refl

-- LOAD * gives each field under its own name
loads_all : loaded_cells All index document ≡ cell (codes "a") (value.Text (codes "one")) ∷ cell (codes "b") (value.Text (codes "two")) ∷ []
loads_all = refl
