-- A set keeps the distinct spellings, in order of first appearance.
use Rattle.std.proofs.Common.{◌≡◌, ℕ, Bool, true, false, cond, List, [], ◌∷◌, ◌++◌, map, refl, sym, ap, ◌∙◌, inl, inr}
use Rattle.std.specs.List.{list_any}
use Rattle.std.specs.Prelude.{◌||◌}
use Rattle.std.specs.Str.{bytes_eq}
use Rattle.std.specs.declared.alloc.Global.{Global}
use Rattle.std.specs.declared.vec.Vec.{Vec}
use Rattle.std.proofs.lemmas.Bool.{cases_Bool}
use Rattle.ft_base.specs.declared.row.Value.{Value}
use Rattle.agg_pipeline.specs.Equal.{spelled, value_eq}
use Rattle.agg_pipeline.specs.Keyed.{add_first}
use Rattle.agg_pipeline.specs.Spellings.{bytes_of, is_kept}

any-kept : (bytes : List ℕ) (keys : List (Vec ℕ Global)) → list_any (is_kept bytes) keys ≡ list_any (bytes_eq bytes) (bytes_of keys)
any-kept bytes [] = refl
any-kept bytes (key ∷ keys) = ap (λ b. bytes_eq bytes key.items || b) (any-kept bytes keys)

bytes_of-push : (keys : List (Vec ℕ Global)) (key : Vec ℕ Global) → bytes_of (keys ++ key ∷ []) ≡ bytes_of keys ++ key.items ∷ []
bytes_of-push [] key = refl
bytes_of-push (k ∷ keys) key = ap (λ rest. k.items ∷ rest) (bytes_of-push keys key)

there : (keys : List (List ℕ)) (bytes : List ℕ) → list_any (bytes_eq bytes) keys ≡ true → add_first bytes_eq keys bytes ≡ keys
there [] bytes any = cc
there (k ∷ keys) bytes any =
    elim (cases_Bool (bytes_eq bytes k)) [
      | inl same ↦ rw same refl
      | inr apart ↦ rw apart (ap (λ rest. k ∷ rest) (there keys bytes (rw apart at any)))
    ]

absent : (keys : List (List ℕ)) (bytes : List ℕ) → list_any (bytes_eq bytes) keys ≡ false → add_first bytes_eq keys bytes ≡ keys ++ bytes ∷ []
absent [] bytes any = refl
absent (k ∷ keys) bytes any =
    elim (cases_Bool (bytes_eq bytes k)) [
      | inl same ↦ let clash : ◌≡◌ {A = Bool} true false = rw same at any in absurd cc
      | inr apart ↦ rw apart (ap (λ rest. k ∷ rest) (absent keys bytes (rw apart at any)))
    ]

-- a spelling that is there is not added
pub kept_there : (keys : List (Vec ℕ Global)) (view : List (List ℕ)) (bytes wanted : List ℕ) → bytes_of keys ≡ view → bytes ≡ wanted → list_any (is_kept bytes) keys ≡ true
    → view ≡ add_first bytes_eq view wanted
kept_there keys view bytes wanted seen is any =
    sym (there view wanted (ap (λ vs. list_any (bytes_eq wanted) vs) (sym seen) ∙ ap (λ b. list_any (bytes_eq b) (bytes_of keys)) (sym is) ∙ sym (any-kept bytes keys) ∙ any))

-- another goes last
pub kept_last : (keys after : List (Vec ℕ Global)) (key : Vec ℕ Global) (view : List (List ℕ)) (bytes wanted : List ℕ) → bytes_of keys ≡ view → bytes ≡ wanted → key.items ≡ bytes
    → list_any (is_kept bytes) keys ≡ false → after ≡ cond (list_any (is_kept key.items) keys) keys (keys ++ key ∷ []) → bytes_of after ≡ add_first bytes_eq view wanted
kept_last keys after key view bytes wanted seen is key_is none e =
    let none_of : list_any (is_kept key.items) keys ≡ false = ap (λ b. list_any (is_kept b) keys) key_is ∙ none in
    let none_wanted : list_any (bytes_eq wanted) view ≡ false =
    ap (λ vs. list_any (bytes_eq wanted) vs) (sym seen) ∙ ap (λ b. list_any (bytes_eq b) (bytes_of keys)) (sym is) ∙ sym (any-kept bytes keys) ∙ none in
    ap bytes_of (e ∙ ap (λ b. cond b keys (keys ++ key ∷ [])) none_of)
    ∙ (bytes_of-push keys key ∙ (ap (λ vs. vs ++ key.items ∷ []) seen ∙ ap (λ b. view ++ b ∷ []) (key_is ∙ is)))
    ∙ sym (absent view wanted none_wanted)

-- the spellings of distinct values, once one more came
pub spelled-push : (vs : List Value) (v : Value) → map spelled (add_first value_eq vs v) ≡ add_first bytes_eq (map spelled vs) (spelled v)
spelled-push [] v = refl
spelled-push (w ∷ vs) v =
    elim (cases_Bool (value_eq v w)) [
      | inl same ↦ rw same refl
      | inr apart ↦ rw apart (ap (λ rest. spelled w ∷ rest) (spelled-push vs v))
    ]
