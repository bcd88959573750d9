-- A map from spellings to values keeps the distinct values.
use Rattle.std.proofs.Common.{◌≡◌, ℕ, Bool, true, false, List, [], ◌∷◌, is_some, refl, sym, ◌∙◌, ap, inl, inr, true≢false}
use Rattle.std.specs.Map.{lookup, values_of}
use Rattle.std.specs.Str.{bytes_eq}
use Rattle.std.specs.declared.alloc.Global.{Global}
use Rattle.std.specs.declared.vec.Vec.{Vec}
use Rattle.std.proofs.lemmas.Bool.{cases_Bool}
use Rattle.std.proofs.lemmas.Slice.Eq.{bytes_eq-Decides}
use Rattle.indexmap.specs.IndexMap.{insert_entry}
use Rattle.ft_base.specs.declared.row.Value.{Value}
use Rattle.agg_pipeline.specs.Distinct.{AreSpelled, IsSpelled, Spelled}
use Rattle.agg_pipeline.specs.Equal.{spelled, value_eq}
use Rattle.agg_pipeline.specs.Keyed.{add_first}
use Rattle.agg_pipeline.specs.Spellings.{is_kept}

-- equality of stored keys
abbrev pub same_kept : Vec ℕ Global → Vec ℕ Global → Bool
same_kept a b = bytes_eq a.items b.items

-- the test of keys is that of values
entry_test : (key : List ℕ) (v : Value) (e : Vec ℕ Global × Value) → key ≡ spelled v → IsSpelled e → bytes_eq key e.0.items ≡ value_eq v e.1
entry_test key v e is s = ap (λ k. bytes_eq k e.0.items) is ∙ ap (bytes_eq (spelled v)) s

-- a value that is there is not added
pub add_first-found : (key : List ℕ) (v : Value) (es : Spelled) → key ≡ spelled v → AreSpelled es → is_some (lookup (is_kept key) es) ≡ true
    → add_first value_eq (values_of es) v ≡ values_of es
add_first-found key v [] is each found = absurd (true≢false (sym found))
add_first-found key v (e ∷ es) is each found =
    elim (cases_Bool (value_eq v e.1)) [
      | inl same ↦ rw same refl
      | inr apart ↦
          let here : bytes_eq key e.0.items ≡ false = entry_test key v e is each.0 ∙ apart in
          rw apart (ap (λ rest. e.1 ∷ rest) (add_first-found key v es is each.1 (rw here at found)))
    ]

-- A value that is there keeps its place and is written anew: so this is said of one that is not there.
pub values_of-insert : (name : Vec ℕ Global) (v : Value) (es : Spelled) → name.items ≡ spelled v → AreSpelled es → is_some (lookup (is_kept name.items) es) ≡ false
    → values_of (insert_entry same_kept es name v) ≡ add_first value_eq (values_of es) v
values_of-insert name v [] is each missing = refl
values_of-insert name v (e ∷ es) is each missing =
    elim (cases_Bool (value_eq v e.1)) [
      | inl same ↦
          let here : bytes_eq name.items e.0.items ≡ true = entry_test name.items v e is each.0 ∙ same in
          absurd (true≢false (rw here at missing))
      | inr apart ↦
          let here : bytes_eq name.items e.0.items ≡ false = entry_test name.items v e is each.0 ∙ apart in
          rw (here, apart) (ap (λ rest. e.1 ∷ rest) (values_of-insert name v es is each.1 (rw here at missing)))
    ]

pub AreSpelled-insert : (name : Vec ℕ Global) (v : Value) (es : Spelled) → name.items ≡ spelled v → AreSpelled es → AreSpelled (insert_entry same_kept es name v)
AreSpelled-insert name v [] is each = (is, tt)
AreSpelled-insert name v (e ∷ es) is each =
    elim (cases_Bool (bytes_eq name.items e.0.items)) [
      | inl same ↦ rw same (sym ((bytes_eq-Decides name.items e.0.items).0 same) ∙ is, each.1)
      | inr apart ↦ rw apart (each.0, AreSpelled-insert name v es is each.1)
    ]
