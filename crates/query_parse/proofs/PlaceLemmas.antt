-- The places of parameters by their names, and the values there.
use Rattle.std.proofs.Common.{◌≡◌, ℕ, suc, ◌+◌, ◌<◌, Bool, true, false, cond, List, [], ◌∷◌, Some, None, length, drop, get_or, refl, sym, ap, ◌∙◌, Bor, drop-cons, arith}
use Rattle.std.proofs.lemmas.Cmp.{nat_list_eq_equiv}
use Rattle.std.proofs.lemmas.Map.Text.{btree_map_updates_str}
use Rattle.std.specs.BTreeMap.{BTreeMap, Updates}
use Rattle.std.specs.Cmp.Lexicographic.{slice_cmp}
use Rattle.std.specs.Ordering.{nat_cmp}
use Rattle.std.specs.Str.{bytes_eq}
use Rattle.ft_base.specs.declared.query.Param.{Param}
use Rattle.query_grammar.specs.Values.{param_of}
use Rattle.query_parse.specs.Places.{place_from, place_in}

-- The map has the places of the parameters from one on.
abbrev pub HasFrom : ℕ → List Param → BTreeMap (Bor (List ℕ)) ℕ → Type 0
HasFrom from params places = (name : List ℕ) → place_in places name ≡ place_from from (drop from params) name

-- one parameter more, before those that the map has
pub has-more : (params : List Param) (place next : ℕ) (param : Param) (name : Bor (List ℕ)) (old new : BTreeMap (Bor (List ℕ)) ℕ)
    → next ≡ suc place → place < length params → name.now ≡ (get_or params place param).name
    → HasFrom next params old → Updates (λ x y. slice_cmp nat_cmp x.now y.now) old new name (Some place) → HasFrom place params new
has-more params place next param name old new e within named has updates = λ other.
    let test : bytes_eq name.now other ≡ bytes_eq other (get_or params place param).name = nat_list_eq_equiv.symm name.now other ∙ ap (bytes_eq other) named in
    let behind : place_in old other ≡ place_from (suc place) (drop (suc place) params) other = has other ∙ ap (λ n. place_from n (drop n params) other) e in
    btree_map_updates_str name.now old new (Some place) updates other
    ∙ (ap (λ b. cond b (Some place) (place_in old other)) test
    ∙ (ap (λ o. cond (bytes_eq other (get_or params place param).name) (Some place) o) behind
    ∙ sym (ap (λ ps. place_from place ps other) (drop-cons params place param within))))

-- The parameter at a place is the first of a name, where places are counted from a number on.
pub record IsFirst (params : List Param) (name : List ℕ) (from place : ℕ) : Type 0 where
  pub index : ℕ
  pub same : place ≡ from + index
  pub within : index < length params
  pub value : (other : Param) → Some (get_or params index other).value ≡ param_of params name

is-first : (params : List Param) (name : List ℕ) (from place : ℕ) → place_from from params name ≡ Some place → IsFirst params name from place
is-first [] name from place e = absurd (cc)
is-first (param ∷ params) name from place e = by_test (bytes_eq name param.name) refl (is-first params name (suc from) place) e
  where
    by_test : (same : Bool) → bytes_eq name param.name ≡ same → (place_from (suc from) params name ≡ Some place → IsFirst params name (suc from) place)
        → cond same (Some from) (place_from (suc from) params name) ≡ Some place → IsFirst (param ∷ params) name from place
    by_test true test others e =
        let here : from ≡ place = cc in
        record {
          index = 0;
          same = omega arith;
          within = omega arith;
          value = λ other. sym (ap (λ b. cond b (Some param.value) (param_of params name)) test);
        }
    by_test false test others e =
        let behind = others e in
        record {
          index = suc behind.index;
          same = omega (arith, behind.same);
          within = omega (arith, behind.within);
          value = λ other. behind.value other ∙ sym (ap (λ b. cond b (Some param.value) (param_of params name)) test);
        }

-- the place of a name is among the parameters, and its value is that of the name
pub place-within : (params : List Param) (name : List ℕ) (place : ℕ) → place_from 0 params name ≡ Some place → place < length params
place-within params name place e =
    let first = is-first params name 0 place e in
    omega (arith, first.same, first.within)

pub place-value : (params : List Param) (name : List ℕ) (place : ℕ) (other : Param) → place_from 0 params name ≡ Some place
    → Some (get_or params place other).value ≡ param_of params name
place-value params name place other e =
    let first = is-first params name 0 place e in
    let same : place ≡ first.index = omega (arith, first.same) in
    ap (λ i. Some (get_or params i other).value) same ∙ first.value other

-- a name that has no place has no value
pub no-place : (params : List Param) (name : List ℕ) (from : ℕ) → place_from from params name ≡ None → None ≡ param_of params name
no-place [] name from e = refl
no-place (param ∷ params) name from e = by_test (bytes_eq name param.name) refl (no-place params name (suc from)) e
  where
    by_test : (same : Bool) → bytes_eq name param.name ≡ same → (place_from (suc from) params name ≡ None → None ≡ param_of params name)
        → cond same (Some from) (place_from (suc from) params name) ≡ None → None ≡ param_of (param ∷ params) name
    by_test true test others e = absurd (cc)
    by_test false test others e = others e ∙ sym (ap (λ b. cond b (Some param.value) (param_of params name)) test)
