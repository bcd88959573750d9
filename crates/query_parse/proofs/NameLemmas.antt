-- One name more in a set.
use Rattle.std.proofs.Common.{◌≡◌, ℕ, Bool, true, false, not, ◌||◌, List, ◌∷◌, ap, sym, ◌∙◌, refl}
use Rattle.std.specs.Prelude.{MatchBool}
use Rattle.std.specs.List.{list_any}
use Rattle.std.specs.List.Sorted.{IsPermutation}
use Rattle.std.specs.Str.{bytes_eq}
use Rattle.std.specs.declared.alloc.Global.{Global}
use Rattle.std.specs.declared.vec.Vec.{Vec}
use Rattle.std.proofs.lemmas.List.Sorted.{list_any-IsPermutation}
use Rattle.std.proofs.lemmas.Slice.Eq.{bytes_eq-Decides}
use Rattle.query_parse.specs.NameKeys.{is_kept}

pub name-added : (old new : List (Vec ℕ Global)) (key : Vec ℕ Global) (name other : List ℕ) (added : Bool) → key.items ≡ name
    → added ≡ not (list_any (is_kept key.items) old) → MatchBool added (IsPermutation (key ∷ old) new) (new ≡ old)
    → list_any (is_kept other) new ≡ (bytes_eq other name || list_any (is_kept other) old)
name-added old new key name other true same is put =
    sym (list_any-IsPermutation (is_kept other) (key ∷ old) new put) ∙ ap (λ n. bytes_eq other n || list_any (is_kept other) old) same
name-added old new key name other false same is put = ap (list_any (is_kept other)) put ∙ by_test (bytes_eq other name) refl
  where
    there : (has : Bool) → false ≡ not has → has ≡ true
    there true e = refl
    there false e = absurd cc

    by_test : (equal : Bool) → bytes_eq other name ≡ equal → list_any (is_kept other) old ≡ (equal || list_any (is_kept other) old)
    by_test true e = ap (λ n. list_any (is_kept n) old) ((bytes_eq-Decides other name).0 e ∙ sym same) ∙ there (list_any (is_kept key.items) old) is
    by_test false e = refl
