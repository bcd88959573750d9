-- Names and values in turn, taken by their places, and the names that a set of them knows.
use Rattle.std.proofs.Common.{◌≡◌, ℕ, zero, suc, Bool, true, false, not, cond, List, [], ◌∷◌, ◌++◌, ◌||◌, Some, None, length, take, drop, get_or, refl, sym, ap, ◌∙◌, ◌+◌, ◌*◌, ◌/◌, ◌<◌, ◌≤◌, arith, Bor, add-one, add-zero, drop-cons}
use Rattle.std.proofs.Math.ListN.{drop_of_length-le}
use Rattle.std.proofs.lemmas.List.{take_more}
use Rattle.std.proofs.lemmas.Map.Text.{is_eq-slice_cmp}
use Rattle.std.specs.BTreeSet.{BTreeSet, contains_by, Updates}
use Rattle.std.specs.Cmp.Lexicographic.{nat_list_eq_equiv, slice_cmp}
use Rattle.std.specs.List.{list_any}
use Rattle.std.specs.Ordering.{is_eq, nat_cmp}
use Rattle.std.specs.declared.cmp.Ordering.{Ordering}
use Rattle.std.specs.Str.{bytes_eq}
use Rattle.ft_base.specs.declared.query.Param.{Param}
use Rattle.cmd_parse.specs.Params.{params_of, first_repeat}

-- the parameter whose name is the word at a place
abbrev pub param_at : List (List ℕ) → ℕ → Param
param_at words place = record { name = get_or words place []; value = get_or words (suc place) [] }

-- the parameters from one on begin with it
from_place : (words : List (List ℕ)) (k place : ℕ) → place ≡ 2 * k → suc place < length words → drop k (params_of words) ≡ param_at words place ∷ drop (suc k) (params_of words)
from_place [] k place same within = absurd (omega arith)
from_place (name ∷ []) k place same within = absurd (omega arith)
from_place (name ∷ value ∷ words) zero zero same within = refl
from_place (name ∷ value ∷ words) zero (suc place) same within = absurd (omega arith)
from_place (name ∷ value ∷ words) (suc k) zero same within = absurd (omega arith)
from_place (name ∷ value ∷ words) (suc k) (suc zero) same within = absurd (omega arith)
from_place (name ∷ value ∷ words) (suc k) (suc (suc place)) same within = from_place words k place (omega arith) (omega arith)

pub params_of-length : (words : List (List ℕ)) → length (params_of words) ≡ length words / 2
params_of-length [] = refl
params_of-length (name ∷ []) = refl
params_of-length (name ∷ value ∷ words) = omega (arith, params_of-length words)

pub params_of-from : (words : List (List ℕ)) (k : ℕ) → k < length words / 2 → drop k (params_of words) ≡ param_at words (2 * k) ∷ drop (suc k) (params_of words)
params_of-from words k within = from_place words k (2 * k) refl (omega arith)

-- one parameter more
pub params_of-more : (words : List (List ℕ)) (k : ℕ) (copies : List Param) (name value : List ℕ) → k < length words / 2 → copies ≡ take k (params_of words)
    → name ≡ get_or words (2 * k) [] → value ≡ get_or words (2 * k + 1) [] → copies ++ record { name = name; value = value } ∷ [] ≡ take (k + 1) (params_of words)
params_of-more words k copies name value within so_far same_name same_value =
    let there : k < length (params_of words) = omega (arith, params_of-length words) in
    let here = params_of-from words k within in
    let apart = drop-cons (params_of words) k (param_at words (2 * k)) there in
    let same : get_or (params_of words) k (param_at words (2 * k)) ≡ param_at words (2 * k) = cc in
    let next : value ≡ get_or words (suc (2 * k)) [] = same_value ∙ ap (λ place. get_or words place []) (add-one (2 * k)) in
    sym (take_more (params_of words) k (param_at words (2 * k)) there ∙ rw (same, same_name, next, so_far) refl)

-- What a set of names knows at a place: the names before it, none of which came twice.
pub record Knows (words : List (List ℕ)) (first k : ℕ) (names : BTreeSet (Bor (List ℕ))) : Type 0 where
  pub before : List (List ℕ)
  pub known : (name : List ℕ) → contains_by (λ (k : Bor (List ℕ)). slice_cmp nat_cmp name k.now) names ≡ list_any (bytes_eq name) before
  pub same : first_repeat (first + 2 * k) before (drop k (params_of words)) ≡ first_repeat first [] (params_of words)

pub knows_none : (words : List (List ℕ)) (first : ℕ) (names : BTreeSet (Bor (List ℕ))) → names.keys ≡ [] → Knows words first 0 names
knows_none words first names none = record {
  before = [];
  known = λ name. ap (λ keys. list_any (λ (k : Bor (List ℕ)). is_eq (slice_cmp nat_cmp name k.now)) keys) none;
  same = rw add-zero refl;
}

-- the order of names that the set goes by
abbrev by_bytes : Bor (List ℕ) → Bor (List ℕ) → Ordering
by_bytes x y = slice_cmp nat_cmp x.now y.now

cond-or : (a b : Bool) → cond a true b ≡ (a || b)
cond-or true b = refl
cond-or false b = refl

-- what a reading answers whose next name has this test
next-answer : (words : List (List ℕ)) (first k : ℕ) (before : List (List ℕ)) (seen : Bool) → k < length words / 2 → list_any (bytes_eq (get_or words (2 * k) [])) before ≡ seen
    → first_repeat (first + 2 * k) before (drop k (params_of words))
    ≡ cond seen (Some (first + 2 * k)) (first_repeat (first + 2 * k + 2) (get_or words (2 * k) [] ∷ before) (drop (suc k) (params_of words)))
next-answer words first k before seen within test =
    ap (λ params. first_repeat (first + 2 * k) before params) (params_of-from words k within)
    ∙ ap (λ b. cond b (Some (first + 2 * k)) (first_repeat (first + 2 * k + 2) (get_or words (2 * k) [] ∷ before) (drop (suc k) (params_of words)))) test

-- a name that is known is the first that came before
pub repeats-here : (words : List (List ℕ)) (first k : ℕ) (names : BTreeSet (Bor (List ℕ))) (name : List ℕ) → Knows words first k names → k < length words / 2 → name ≡ get_or words (2 * k) []
    → contains_by (λ (k : Bor (List ℕ)). slice_cmp nat_cmp name k.now) names ≡ true → Some (first + 2 * k) ≡ first_repeat first [] (params_of words)
repeats-here words first k names name knows within is found =
    let test : list_any (bytes_eq (get_or words (2 * k) [])) knows.before ≡ true = ap (λ n. list_any (bytes_eq n) knows.before) (sym is) ∙ (sym (knows.known name) ∙ found) in
    sym (next-answer words first k knows.before true within test) ∙ knows.same

-- a name that is not known is known from then on
pub goes-on : (words : List (List ℕ)) (first k : ℕ) (names more : BTreeSet (Bor (List ℕ))) (name : Bor (List ℕ)) → Knows words first k names → k < length words / 2 → name.now ≡ get_or words (2 * k) []
    → contains_by (λ (k : Bor (List ℕ)). slice_cmp nat_cmp name.now k.now) names ≡ false → Updates by_bytes names more name true → Knows words first (k + 1) more
goes-on words first k names more name knows within is new updates =
    let test : list_any (bytes_eq (get_or words (2 * k) [])) knows.before ≡ false = ap (λ n. list_any (bytes_eq n) knows.before) (sym is) ∙ (sym (knows.known name.now) ∙ new) in
    let place : first + 2 * k + 2 ≡ first + 2 * (k + 1) = omega arith in
    record {
      before = get_or words (2 * k) [] ∷ knows.before;
      known = λ other.
          updates.0 (record { ref_ptr = (0, 0); now = other })
          ∙ (ap (λ b. cond b true (contains_by (λ (k : Bor (List ℕ)). slice_cmp nat_cmp other k.now) names)) (is_eq-slice_cmp name.now other ∙ (nat_list_eq_equiv.symm name.now other ∙ ap (bytes_eq other) is))
          ∙ (ap (λ b. cond (bytes_eq other (get_or words (2 * k) [])) true b) (knows.known other) ∙ cond-or (bytes_eq other (get_or words (2 * k) [])) (list_any (bytes_eq other) knows.before)));
      same =
          ap (λ at. first_repeat at (get_or words (2 * k) [] ∷ knows.before) (drop (k + 1) (params_of words))) (sym place)
          ∙ (ap (λ n. first_repeat (first + 2 * k + 2) (get_or words (2 * k) [] ∷ knows.before) (drop n (params_of words))) (add-one k)
          ∙ (sym (next-answer words first k knows.before false within test) ∙ knows.same));
    }

-- behind all names none came twice
pub none-repeats : (words : List (List ℕ)) (first k : ℕ) (names : BTreeSet (Bor (List ℕ))) → Knows words first k names → length words / 2 ≤ k → None ≡ first_repeat first [] (params_of words)
none-repeats words first k names knows all =
    let end : length (params_of words) ≤ k = omega (arith, params_of-length words) in
    sym (ap (λ params. first_repeat (first + 2 * k) knows.before params) (drop_of_length-le (params_of words) end)) ∙ knows.same

-- what an addition says of the set before it
pub known_where_not_added : (added known : Bool) → added ≡ not known → added ≡ false → known ≡ true
known_where_not_added added true e f = refl
known_where_not_added added false e f = absurd (cc)

pub unknown_where_added : (added known : Bool) → added ≡ not known → added ≡ true → known ≡ false
unknown_where_added added true e f = absurd (cc)
unknown_where_added added false e f = refl
