-- A parameter stands as `$` and its name.
use Rattle.std.proofs.Common.{◌≡◌, ℕ, ◌+◌, ◌≤◌, Bool, true, false, cond, not, ltb, List, [], ◌∷◌, ◌++◌, length, take, drop, Option, Some, None, unwrap_or, refl, ap, sym, ◌∙◌, subst, take-append-drop, one-add, arith}
use Rattle.std.specs.Prelude.{◌&&◌}
use Rattle.std.specs.List.{list_all, prefix_len}
use Rattle.std.proofs.lemmas.Bool.{ltb-false, and_parts, and_from, not_from_false}
use Rattle.std.proofs.lemmas.List.Sums.{prefix_len-le-length}
use Rattle.query_lex.specs.declared.lexeme.LexKind.TheVariants.{Param, ParamPrefix}
use Rattle.query_lex.specs.Bytes.{is_of_name, comes, is_at}
use Rattle.query_lex.specs.Spelling.{is_name_byte, names_param}
use Rattle.query_lex.specs.Words.{Found, ends_name, name_length, param_with, param_at}
use Rattle.query_lex.proofs.NameBytes.{name-byte}
use Rattle.query_lex.proofs.Standing.{StandsSo, took, at-next, with-next}

-- how many bytes of a name come, one after another
abbrev named : List ℕ → ℕ
named bytes = prefix_len (λ b. not (ends_name b)) bytes

name-length : (bytes : List ℕ) → name_length bytes ≡ named bytes
name-length bytes = by_test (ltb (named bytes) (length bytes)) refl
  where
    by_test : (is : Bool) → ltb (named bytes) (length bytes) ≡ is
        → unwrap_or (cond {A = Option ℕ} is (Some (named bytes)) None) (length bytes) ≡ named bytes
    by_test true e = refl
    by_test false e =
        let most : named bytes ≤ length bytes = prefix_len-le-length (λ b. not (ends_name b)) bytes in
        let least : length bytes ≤ named bytes = ltb-false (named bytes) (length bytes) e in
        omega arith

-- they are of a name
name-bytes : (bytes : List ℕ) → list_all is_name_byte (take (named bytes) bytes) ≡ true
name-bytes [] = refl
name-bytes (b ∷ bytes) = by_test (is_of_name b) refl (name-bytes bytes)
  where
    by_test : (is : Bool) → is_of_name b ≡ is → list_all is_name_byte (take (named bytes) bytes) ≡ true
        → list_all is_name_byte (take (cond (not (not is)) (1 + named bytes) 0) (b ∷ bytes)) ≡ true
    by_test true e others =
        ap (λ (n : ℕ). list_all is_name_byte (take n (b ∷ bytes))) (one-add (named bytes))
        ∙ and_from (is_name_byte b) (list_all is_name_byte (take (named bytes) bytes)) (sym (name-byte b) ∙ e) others
    by_test false e others = refl

-- and none comes behind them
name-ends : (bytes : List ℕ) → comes is_name_byte (drop (named bytes) bytes) ≡ false
name-ends [] = refl
name-ends (b ∷ bytes) = by_test (is_of_name b) refl (name-ends bytes)
  where
    by_test : (is : Bool) → is_of_name b ≡ is → comes is_name_byte (drop (named bytes) bytes) ≡ false
        → comes is_name_byte (drop (cond (not (not is)) (1 + named bytes) 0) (b ∷ bytes)) ≡ false
    by_test true e others = ap (λ (n : ℕ). comes is_name_byte (drop n (b ∷ bytes))) (one-add (named bytes)) ∙ others
    by_test false e others = sym (name-byte b) ∙ e

-- a name comes
name-stands : (may_be_prefix : Bool) (b : ℕ) (name behind rest : List ℕ) → rest ≡ (b ∷ name) ++ behind
    → names_param (b ∷ name) ≡ true → comes is_name_byte behind ≡ false
    → StandsSo false 36 rest (param_with may_be_prefix (b ∷ name) behind)
name-stands may_be_prefix b name behind rest whole names ends = by_test (may_be_prefix && is_at 42 behind) refl
  where
    by_test : (is : Bool) → (may_be_prefix && is_at 42 behind) ≡ is
        → StandsSo false 36 rest
        (cond {A = Found} is (Some (ParamPrefix (b ∷ name)), drop 1 behind) (Some (Param (b ∷ name)), behind))
    by_test true e =
        let star = at-next 42 behind (and_parts may_be_prefix (is_at 42 behind) e).1 in
        took false (36 ∷ rest) (ParamPrefix (b ∷ name)) (drop 1 behind) (36 ∷ ((b ∷ name) ++ 42 ∷ [])) (omega arith)
        (ap (λ (bytes : List ℕ). 36 ∷ bytes) (with-next rest (b ∷ name) behind (drop 1 behind) 42 whole star))
        (refl, names) refl
    by_test false e =
        took false (36 ∷ rest) (Param (b ∷ name)) behind (36 ∷ b ∷ name) (omega arith)
        (ap (λ (bytes : List ℕ). 36 ∷ bytes) whole) (refl, names) (not_from_false (comes is_name_byte behind) ends)

-- what stands behind so many bytes
abbrev Behind : Bool → List ℕ → ℕ → Type 0
Behind may_be_prefix rest n = StandsSo false 36 rest (param_with may_be_prefix (take n rest) (drop n rest))

by-name : (may_be_prefix : Bool) (rest : List ℕ) → Behind may_be_prefix rest (named rest)
by-name may_be_prefix [] = (refl, refl)
by-name may_be_prefix (b ∷ rest) = by_test (is_of_name b) refl
  where
    by_test : (is : Bool) → is_of_name b ≡ is → Behind may_be_prefix (b ∷ rest) (cond (not (not is)) (1 + named rest) 0)
    by_test true e =
        subst (Behind may_be_prefix (b ∷ rest)) (sym (one-add (named rest)))
        (name-stands may_be_prefix b (take (named rest) rest) (drop (named rest) rest) (b ∷ rest)
        (ap (λ (bytes : List ℕ). b ∷ bytes) (sym (take-append-drop (named rest) rest)))
        (and_from (is_name_byte b) (list_all is_name_byte (take (named rest) rest)) (sym (name-byte b) ∙ e)
        (name-bytes rest))
        (name-ends rest))
    by_test false e = (refl, not_from_false (is_name_byte b) (sym (name-byte b) ∙ e))

pub param-stands : (may_be_prefix : Bool) (rest : List ℕ) → StandsSo false 36 rest (param_at may_be_prefix rest)
unfolding param_at
param-stands may_be_prefix rest =
    subst (Behind may_be_prefix rest) (sym (name-length rest)) (by-name may_be_prefix rest)
