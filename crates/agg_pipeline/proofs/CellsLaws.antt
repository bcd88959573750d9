-- To put a cell at the place of its name, or last, is to set it.
use Rattle.std.proofs.Common.{◌≡◌, ℕ, zero, suc, ◌<◌, Bool, true, false, cond, List, [], ◌∷◌, ◌++◌, length, get_or, slice_set, ◌≤◌, nat_lt, Option, Some, None, inl, inr, refl, sym, ap, ◌∙◌, arith}
use Rattle.std.specs.Str.{bytes_eq}
use Rattle.std.proofs.lemmas.Bool.{cases_Bool, ltb-false}
use Rattle.std.proofs.lemmas.List.Quantifiers.{position-Some}
use Rattle.std.proofs.lemmas.List.Sums.{fails_before_first}
use Rattle.std.specs.List.{position, position_or_len}
use Rattle.ft_base.specs.declared.row.Cell.{Cell}
use Rattle.ft_base.specs.declared.row.Value.{Value}
use Rattle.ft_base.specs.Cells.{cell, value_set}
use Rattle.agg_pipeline.specs.Rows.{set_cell}

abbrev is_named : List ℕ → Cell → Bool
is_named name c = bytes_eq c.name name

-- the first cell of the name is there
pub set_there : (cells : List Cell) (i : ℕ) (new : Cell) → i < length cells → is_named new.name (get_or cells i new) ≡ true
    → ((k : ℕ) → k < i → is_named new.name (get_or cells k new) ≡ false) → value_set cells i new.value ≡ set_cell cells new
set_there [] i new within here before = absurd (omega (arith, within))
set_there (old ∷ cells) zero new within here before = sym (ap (λ b. cond b (cell old.name new.value ∷ cells) (old ∷ set_cell cells new)) here)
set_there (old ∷ cells) (suc i) new within here before =
    ap (λ rest. old ∷ rest) (set_there cells i new (omega (arith, within)) here (λ k l. before (suc k) (omega (arith, l))))
    ∙ sym (ap (λ b. cond b (cell old.name new.value ∷ cells) (old ∷ set_cell cells new)) (before 0 (omega arith)))

-- there is none of the name
pub set_last : (cells : List Cell) (new : Cell) → ((k : ℕ) → k < length cells → is_named new.name (get_or cells k new) ≡ false)
    → cells ++ new ∷ [] ≡ set_cell cells new
set_last [] new none = refl
set_last (old ∷ cells) new none =
    ap (λ rest. old ∷ rest) (set_last cells new (λ k l. none (suc k) (omega (arith, l))))
    ∙ sym (ap (λ b. cond b (cell old.name new.value ∷ cells) (old ∷ set_cell cells new)) (none 0 (omega arith)))

-- no place passes
pub none_length : (n len : ℕ) → cond (nat_lt n len) (Some n) None ≡ None → len ≤ n
none_length n len none =
    elim (cases_Bool (nat_lt n len)) [
      | inl below ↦ let clash : ◌≡◌ {A = Option ℕ} (Some n) None = rw below at none in absurd cc
      | inr past ↦ ltb-false n len past
    ]

-- what a look-up says
pub found_set : (cells : List Cell) (name : List ℕ) (value : Value) (i : ℕ) → Some i ≡ position (is_named name) cells → value_set cells i value ≡ set_cell cells (cell name value)
found_set cells name value i found =
    let at = position-Some (is_named name) cells i (cell name value) (sym found) in
    set_there cells i (cell name value) at.0 at.1 at.2

pub none_set : (cells : List Cell) (name : List ℕ) (value : Value) → None ≡ position (is_named name) cells → cells ++ cell name value ∷ [] ≡ set_cell cells (cell name value)
none_set cells name value none =
    let past : length cells ≤ position_or_len (is_named name) cells = none_length (position_or_len (is_named name) cells) (length cells) (sym none) in
    set_last cells (cell name value) (λ k l. fails_before_first (is_named name) cells k (cell name value) (omega (arith, l, past)))
