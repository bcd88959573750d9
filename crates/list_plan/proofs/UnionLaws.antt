-- Parts put together.
use Rattle.std.proofs.Common.{◌≡◌, ◌+◌, ◌<◌, take, slice_index_or, ℕ, Bool, true, false, ◌&&◌, ◌||◌, List, [], ◌∷◌, ◌++◌, map, length, IsSome, Option, refl, sym, ap, ◌∙◌, subst, arith}
use Rattle.std.specs.Cmp.{both_ways}
use Rattle.std.specs.List.{All, AllByRecursion, flat_map, list_all, list_any}
use Rattle.std.specs.List.Sorted.{IsPermutation}
use Rattle.std.proofs.Math.Bool.{or-false}
use Rattle.std.proofs.lemmas.List.{take_more}
use Rattle.std.proofs.lemmas.List.Elements.{All-from_recursion, recursion_from_All}
use Rattle.std.proofs.lemmas.List.Folds.{list_any-append}
use Rattle.std.proofs.lemmas.List.Sorted.{All-permutation, IsPermutation-sym}
use Rattle.std.proofs.lemmas.List.Sums.{AllPass-from_list_all, list_all-from_AllPass}
use Rattle.ft_base.proofs.AnyLaws.{any_map}
use Rattle.id_iters.specs.Fitting.{IsOpenAt, leaves_of, leaves_of_ahead}
use Rattle.id_iters.specs.Held.{Held}
use Rattle.id_iters.specs.Ready.{AheadReady, Ready}
use Rattle.id_iters.specs.Sets.{About, about, about_ahead, all_have, any_has}
use Rattle.id_iters.specs.declared.iter.Ahead.{Ahead}
use Rattle.id_iters.specs.declared.iter.Iter.{Iter}
use Rattle.id_iters.specs.declared.leaf.Leaf.{Leaf}
use Rattle.id_iters.specs.declared.list_name.ListName.{ListName}
use Rattle.inverted_list.specs.declared.place.Place.{Place}
use Rattle.list_plan.specs.Groups.{Gathers}
use Rattle.list_plan.specs.Plans.{AllKnown, AllOpen, AllReady, Joins, PartsKnown, PartsOpen, ids_of}
use Rattle.list_plan.specs.declared.size.Planned.{Planned}

-- ---- a fact of each item

pub all_joined : {X : Type 0} (P : X → Type 0) (xs ys : List X) → AllByRecursion P xs → AllByRecursion P ys → AllByRecursion P (xs ++ ys)
all_joined P [] ys one other = other
all_joined P (x ∷ xs) ys one other = (one.0, all_joined P xs ys one.1 other)

pub all_apart : {X : Type 0} (P : X → Type 0) (xs ys : List X) → AllByRecursion P (xs ++ ys) → AllByRecursion P xs × AllByRecursion P ys
all_apart P [] ys all = (tt, all)
all_apart P (x ∷ xs) ys all = let rest = all_apart P xs ys all.1 in ((all.0, rest.0), rest.1)

pub nil : {X : Type 0} (xs : List X) → length xs ≡ 0 → xs ≡ []
nil [] none = refl
nil (x ∷ xs) none = absurd (omega (arith, none))

pub map_same : {X : Type 0} (xs : List X) → map (λ x. x) xs ≡ xs
map_same [] = refl
map_same (x ∷ xs) = ap (λ rest. x ∷ rest) (map_same xs)

-- the first items, and the next one
pub more : {X : Type 0} (xs : List X) (i : ℕ) (x : X) → i < length xs → x ≡ slice_index_or xs i x → take (i + 1) xs ≡ take i xs ++ x ∷ []
more xs i x within is = take_more xs i x within ∙ ap (λ y. take i xs ++ y ∷ []) (sym is)

-- ---- a fact of each leaf

-- it holds of none, and of the leaves of two that are all
pub of_none : (P : Leaf → Type 0) (leaves : List Leaf) → leaves ≡ [] → AllByRecursion P leaves
of_none P leaves is = subst (AllByRecursion P) (sym is) tt

pub of_one : (P : Leaf → Type 0) (leaf : Leaf) (leaves : List Leaf) → leaves ≡ leaf ∷ [] → P leaf → AllByRecursion P leaves
of_one P leaf leaves is holds = subst (AllByRecursion P) (sym is) (holds, tt)

pub the_one : (P : Leaf → Type 0) (leaf : Leaf) (leaves : List Leaf) → leaves ≡ leaf ∷ [] → AllByRecursion P leaves → P leaf
the_one P leaf leaves is all = (subst (AllByRecursion P) is all).0

pub of_same : (P : Leaf → Type 0) (leaves others : List Leaf) → leaves ≡ others → AllByRecursion P others → AllByRecursion P leaves
of_same P leaves others is all = subst (AllByRecursion P) (sym is) all

pub of_parts : (P : Leaf → Type 0) (plans : List Planned) → AllByRecursion (λ (planned : Planned). AllByRecursion P (leaves_of planned.iter)) plans
    → AllByRecursion P (flat_map leaves_of (map (λ (planned : Planned). planned.iter) plans))
of_parts P [] all = tt
of_parts P (p ∷ plans) all = all_joined P (leaves_of p.iter) _ all.0 (of_parts P plans all.1)

pub parts_of : (P : Leaf → Type 0) (plans : List Planned) → AllByRecursion P (flat_map leaves_of (map (λ (planned : Planned). planned.iter) plans))
    → AllByRecursion (λ (planned : Planned). AllByRecursion P (leaves_of planned.iter)) plans
parts_of P [] all = tt
parts_of P (p ∷ plans) all =
    let both = all_apart P (leaves_of p.iter) _ all in
    (both.0, parts_of P plans both.1)

-- ---- joining

abbrev some_id : Held → List Planned → ℕ → Bool
some_id held plans id = list_any (λ planned. ids_of held planned id) plans

pub joins_same : (plans : List Planned) → Joins plans plans
joins_same plans = record { set = λ held id. refl; ready = λ held from all. all; placed = λ held after all. all; known = λ known all. all }

pub joins_again : (one two three : List Planned) → Joins one two → Joins two three → Joins one three
joins_again one two three first second = record {
  set = λ held id. second.set held id ∙ first.set held id;
  ready = λ held from all. second.ready held from (first.ready held from all);
  placed = λ held after all. second.placed held after (first.placed held after all);
  known = λ known all. first.known known (second.known known all);
}

-- no parts are a part without ids
pub joins_none : (made : Planned) → ((held : Held) → (about held made.iter).has ≡ (λ id. false)) → ((held : Held) (from : ℕ) → Ready held made.iter from)
    → leaves_of made.iter ≡ [] → Joins [] (made ∷ [])
joins_none made set ready leaves = record {
  set = λ held id. ap (λ (has : ℕ → Bool). has id || false) (set held);
  ready = λ held from all. (ready held from, tt);
  placed = λ held after all. (subst (AllOpen held after) (sym leaves) tt, tt);
  known = λ known all. tt;
}

-- ---- parts that go into a union

abbrev has_part : Held → ℕ → Ahead → Bool
has_part held id part = (about_ahead held part).has id

one_went : (a b p : Bool) → (a || (b || (p || false))) ≡ ((a || (p || false)) || b)
one_went true b p = refl
one_went false true true = refl
one_went false true false = refl
one_went false false true = refl
one_went false false false = refl

-- a fact of each, where the last of those left went to the parts
part_came : (P : Planned → Type 0) (Q : Ahead → Type 0) (less : List Planned) (parts : List Ahead) (other : Planned) (part : Ahead) → (P other → Q part)
    → AllByRecursion P (less ++ other ∷ []) → AllByRecursion Q parts → AllByRecursion P less × AllByRecursion Q (parts ++ part ∷ [])
part_came P Q less parts other part went all each =
    let apart = all_apart P less (other ∷ []) all in
    (apart.0, all_joined Q parts (part ∷ []) each (went apart.1.0, tt))

part_went : (P : Planned → Type 0) (Q : Ahead → Type 0) (less : List Planned) (parts : List Ahead) (other : Planned) (part : Ahead) → (Q part → P other)
    → AllByRecursion P less → AllByRecursion Q (parts ++ part ∷ []) → AllByRecursion P (less ++ other ∷ []) × AllByRecursion Q parts
part_went P Q less parts other part came all each =
    let apart = all_apart Q parts (part ∷ []) each in
    (all_joined P less (other ∷ []) all (came apart.1.0, tt), apart.0)

-- one more part
pub gathers_more : (left old : List Planned) (parts some : List Ahead) (less : List Planned) (other : Planned) (part : Ahead) (all : List Ahead) → Gathers left parts old some → old ≡ less ++ other ∷ []
    → all ≡ some ++ part ∷ [] → ((held : Held) → about_ahead held part ≡ about held other.iter)
    → ((held : Held) (from : ℕ) → Ready held other.iter from → AheadReady held part from) → leaves_of_ahead part ≡ leaves_of other.iter → Gathers left parts less all
gathers_more left old parts some less other part all g took is set ready leaves =
    subst (λ (xs : List Ahead). Gathers left parts less xs) (sym is)
    (further (subst (λ (xs : List Planned). Gathers left parts xs some) took g))
  where
    further : Gathers left parts (less ++ other ∷ []) some → Gathers left parts less (some ++ part ∷ [])
    further h = record {
      set = λ held id.
          ap (λ b. some_id held less id || b)
          (list_any-append (has_part held id) some (part ∷ []) ∙ ap (λ (a : About). list_any (has_part held id) some || (a.has id || false)) (set held))
          ∙ (one_went (some_id held less id) (list_any (has_part held id) some) (ids_of held other id)
          ∙ (ap (λ b. b || list_any (has_part held id) some) (sym (list_any-append (λ planned. ids_of held planned id) less (other ∷ []))) ∙ h.set held id));
      ready = λ held from all each.
          let both = h.ready held from all each in
          part_came (λ (planned : Planned). Ready held planned.iter from) (λ (p : Ahead). AheadReady held p from) less some other part (ready held from) both.0 both.1;
      placed = λ held after all each.
          let both = h.placed held after all each in
          part_came (λ (planned : Planned). AllOpen held after (leaves_of planned.iter)) (λ (p : Ahead). AllOpen held after (leaves_of_ahead p)) less some other part (subst (AllOpen held after) (sym leaves)) both.0 both.1;
      known = λ known all each.
          let both = part_went (λ (planned : Planned). AllKnown known (leaves_of planned.iter)) (λ (p : Ahead). AllKnown known (leaves_of_ahead p)) less some other part (subst (AllKnown known) leaves) all each in
          h.known known both.0 both.1;
    }

-- a fact of the leaves of all parts
of_each : (P : Leaf → Type 0) (parts : List Ahead) → AllByRecursion (λ (part : Ahead). AllByRecursion P (leaves_of_ahead part)) parts → AllByRecursion P (flat_map leaves_of_ahead parts)
of_each P [] all = tt
of_each P (p ∷ parts) all = all_joined P (leaves_of_ahead p) _ all.0 (of_each P parts all.1)

each_of : (P : Leaf → Type 0) (parts : List Ahead) → AllByRecursion P (flat_map leaves_of_ahead parts) → AllByRecursion (λ (part : Ahead). AllByRecursion P (leaves_of_ahead part)) parts
each_of P [] all = tt
each_of P (p ∷ parts) all =
    let both = all_apart P (leaves_of_ahead p) _ all in
    (both.0, each_of P parts both.1)

-- the union of the parts that a part and some of those left went to
pub gathers_joined : (left fewer : List Planned) (one : List Ahead) (more : List Ahead) (last made : Planned) (part : Ahead) → one ≡ part ∷ [] → Gathers left one fewer more
    → ((held : Held) → about_ahead held part ≡ about held last.iter)
    → ((held : Held) (from : ℕ) → Ready held last.iter from → AheadReady held part from) → leaves_of_ahead part ≡ leaves_of last.iter
    → ((held : Held) → (about held made.iter).has ≡ any_has (map (about_ahead held) more))
    → ((held : Held) (from : ℕ) → All (λ p. AheadReady held p from) more → Ready held made.iter from)
    → leaves_of made.iter ≡ flat_map leaves_of_ahead more → Joins (left ++ last ∷ []) (fewer ++ made ∷ [])
gathers_joined left fewer one more last made part is g same ready leaves set asked all_leaves = further (subst (λ (xs : List Ahead). Gathers left xs fewer more) is g)
  where
    further : Gathers left (part ∷ []) fewer more → Joins (left ++ last ∷ []) (fewer ++ made ∷ [])
    further h = record {
      set = λ held id.
          rw (list_any-append (λ planned. ids_of held planned id) fewer (made ∷ []), list_any-append (λ planned. ids_of held planned id) left (last ∷ []))
          (ap (λ b. some_id held fewer id || b)
          (or-false (ids_of held made id) ∙ (ap (λ (has : ℕ → Bool). has id) (set held) ∙ any_map (λ (a : About). a.has id) (about_ahead held) more))
          ∙ (h.set held id ∙ ap (λ (a : About). some_id held left id || (a.has id || false)) (same held)));
      ready = λ held from all.
          let apart = all_apart (λ (planned : Planned). Ready held planned.iter from) left (last ∷ []) all in
          let both = h.ready held from apart.0 (ready held from apart.1.0, tt) in
          all_joined (λ (planned : Planned). Ready held planned.iter from) fewer (made ∷ []) both.0
          (asked held from (All-from_recursion (λ (p : Ahead). AheadReady held p from) more both.1), tt);
      placed = λ held after all.
          let apart = all_apart (λ (planned : Planned). AllOpen held after (leaves_of planned.iter)) left (last ∷ []) all in
          let both = h.placed held after apart.0 (subst (AllOpen held after) (sym leaves) apart.1.0, tt) in
          all_joined (λ (planned : Planned). AllOpen held after (leaves_of planned.iter)) fewer (made ∷ []) both.0
          (subst (AllOpen held after) (sym all_leaves) (of_each (λ (leaf : Leaf). IsOpenAt held leaf.list after leaf.place) more both.1), tt);
      known = λ known all.
          let apart = all_apart (λ (planned : Planned). AllKnown known (leaves_of planned.iter)) fewer (made ∷ []) all in
          let both = h.known known apart.0 (each_of (λ (leaf : Leaf). IsSome (known leaf.list)) more (subst (AllKnown known) all_leaves apart.1.0)) in
          all_joined (λ (planned : Planned). AllKnown known (leaves_of planned.iter)) left (last ∷ []) both.0 (subst (AllKnown known) leaves both.1.0, tt);
    }

one_group : (a b g m : Bool) → (b || (m || false)) ≡ a → (b || (g || (m || false))) ≡ (a || g)
one_group a true g m same = ap (λ x. x || g) same
one_group a false true m same = true_last a
  where
    true_last : (x : Bool) → true ≡ (x || true)
    true_last true = refl
    true_last false = refl
one_group a false false m same = same ∙ sym (or-false a)

-- a group came to the others
pub group_more : (old left fewer groups more : List Planned) (last made : Planned) → old ≡ left ++ last ∷ [] → Joins (left ++ last ∷ []) (fewer ++ made ∷ []) → more ≡ groups ++ made ∷ []
    → Joins (old ++ groups) (fewer ++ more)
group_more old left fewer groups more last made took joins is =
    subst (λ (xs : List Planned). Joins (old ++ groups) (fewer ++ xs)) (sym is)
    (subst (λ (xs : List Planned). Joins (xs ++ groups) (fewer ++ (groups ++ made ∷ []))) (sym took) (further (left ++ last ∷ []) joins))
  where
    came : (P : Planned → Type 0) (all_old : List Planned) → (AllByRecursion P all_old → AllByRecursion P (fewer ++ made ∷ [])) → AllByRecursion P (all_old ++ groups) → AllByRecursion P (fewer ++ (groups ++ made ∷ []))
    came P all_old joined all =
        let apart = all_apart P all_old groups all in
        let new = all_apart P fewer (made ∷ []) (joined apart.0) in
        all_joined P fewer (groups ++ made ∷ []) new.0 (all_joined P groups (made ∷ []) apart.1 new.1)

    went : (P : Planned → Type 0) (all_old : List Planned) → (AllByRecursion P (fewer ++ made ∷ []) → AllByRecursion P all_old) → AllByRecursion P (fewer ++ (groups ++ made ∷ [])) → AllByRecursion P (all_old ++ groups)
    went P all_old joined all =
        let apart = all_apart P fewer (groups ++ made ∷ []) all in
        let rest = all_apart P groups (made ∷ []) apart.1 in
        all_joined P all_old groups (joined (all_joined P fewer (made ∷ []) apart.0 rest.1)) rest.0

    further : (all_old : List Planned) → Joins all_old (fewer ++ made ∷ []) → Joins (all_old ++ groups) (fewer ++ (groups ++ made ∷ []))
    further all_old h = record {
      set = λ held id.
          rw (
            list_any-append (λ planned. ids_of held planned id) fewer (groups ++ made ∷ []),
            list_any-append (λ planned. ids_of held planned id) groups (made ∷ []),
            list_any-append (λ planned. ids_of held planned id) all_old groups,
          ) (one_group (some_id held all_old id) (some_id held fewer id) (some_id held groups id) (ids_of held made id)
          (sym (list_any-append (λ planned. ids_of held planned id) fewer (made ∷ [])) ∙ h.set held id));
      ready = λ held from. came (λ (planned : Planned). Ready held planned.iter from) all_old (h.ready held from);
      placed = λ held after. came (λ (planned : Planned). AllOpen held after (leaves_of planned.iter)) all_old (h.placed held after);
      known = λ known. went (λ (planned : Planned). AllKnown known (leaves_of planned.iter)) all_old (h.known known);
    }

-- ---- what all parts have

all_moved : {X : Type 0} (p : X → Bool) (xs ys : List X) → IsPermutation xs ys → list_all p xs ≡ list_all p ys
all_moved p xs ys moved =
    both_ways _ _
    (λ all. list_all-from_AllPass p ys (All-permutation (λ x. p x ≡ true) xs ys moved (AllPass-from_list_all p xs all)))
    (λ all. list_all-from_AllPass p xs (All-permutation (λ x. p x ≡ true) ys xs (IsPermutation-sym xs ys moved) (AllPass-from_list_all p ys all)))

module _ (plans ordered : List Planned) (moved : IsPermutation plans ordered) (parts : List Iter) (are : parts ≡ map (λ (planned : Planned). planned.iter) ordered) where
  pub every_set : (held : Held) (id : ℕ) → all_have (map (about held) parts) id ≡ list_all (λ planned. ids_of held planned id) plans
  every_set held id = ap (λ (ps : List Iter). all_have (map (about held) ps) id) are ∙ each ordered ∙ sym (all_moved (λ planned. ids_of held planned id) plans ordered moved)
    where
      each : (ps : List Planned) → all_have (map (about held) (map (λ (planned : Planned). planned.iter) ps)) id ≡ list_all (λ planned. ids_of held planned id) ps
      each [] = refl
      each (p ∷ ps) = ap (λ b. ids_of held p id && b) (each ps)

  pub every_ready : (held : Held) (from : ℕ) → AllReady held plans from → All (λ part. Ready held part from) parts
  every_ready held from all =
      subst (All (λ (part : Iter). Ready held part from)) (sym are)
      (All-from_recursion (λ (part : Iter). Ready held part from) _ (over ordered
      (recursion_from_All (λ (planned : Planned). Ready held planned.iter from) ordered
      (All-permutation (λ (planned : Planned). Ready held planned.iter from) plans ordered moved
      (All-from_recursion (λ (planned : Planned). Ready held planned.iter from) plans all)))))
    where
      over : (ps : List Planned) → AllReady held ps from → AllByRecursion (λ (part : Iter). Ready held part from) (map (λ (planned : Planned). planned.iter) ps)
      over [] h = tt
      over (p ∷ ps) h = (h.0, over ps h.1)

  moved_all : (P : Planned → Type 0) → AllByRecursion P plans → AllByRecursion P ordered
  moved_all P all = recursion_from_All P ordered (All-permutation P plans ordered moved (All-from_recursion P plans all))

  moved_back : (P : Planned → Type 0) → AllByRecursion P ordered → AllByRecursion P plans
  moved_back P all = recursion_from_All P plans (All-permutation P ordered plans (IsPermutation-sym plans ordered moved) (All-from_recursion P ordered all))

  pub every_placed : (made : Iter) → leaves_of made ≡ flat_map leaves_of parts → (held : Held) (after : ℕ) → PartsOpen held after plans → AllOpen held after (leaves_of made)
  every_placed made leaves held after all =
      of_same _ (leaves_of made) _ (leaves ∙ ap (flat_map leaves_of) are)
      (of_parts _ ordered (moved_all (λ (planned : Planned). AllOpen held after (leaves_of planned.iter)) all))

  pub every_known : (made : Iter) → leaves_of made ≡ flat_map leaves_of parts → (known : ListName → Option Place) → AllKnown known (leaves_of made) → PartsKnown known plans
  every_known made leaves known all =
      moved_back (λ (planned : Planned). AllKnown known (leaves_of planned.iter))
      (parts_of _ ordered (subst (AllKnown known) (leaves ∙ ap (flat_map leaves_of) are) all))

-- parts with the ids of lists have in all what some list has
pub lists_set : {X : Type 0} (held : Held) (has : X → ℕ → Bool) (names : List X) (plans : List Planned) (made : Planned) → Joins plans (made ∷ [])
    → map (λ planned. ids_of held planned) plans ≡ map has names → ids_of held made ≡ (λ id. list_any (λ name. has name id) names)
lists_set {X = X} held has names plans made joins same = λ i id. at id i
  where
    at : (id : ℕ) → ids_of held made id ≡ list_any (λ name. has name id) names
    at id =
        sym (or-false (ids_of held made id))
        ∙ joins.set held id
        ∙ sym (any_map (λ (set : ℕ → Bool). set id) (λ planned. ids_of held planned) plans)
        ∙ ap (list_any (λ (set : ℕ → Bool). set id)) same
        ∙ any_map (λ (set : ℕ → Bool). set id) has names

-- and parts with the ids of sets what some set has
pub sets_joined : (held : Held) (sets : List (ℕ → Bool)) (plans : List Planned) (made : Planned) → Joins plans (made ∷ [])
    → map (λ planned. ids_of held planned) plans ≡ sets → ids_of held made ≡ (λ id. list_any (λ (set : ℕ → Bool). set id) sets)
sets_joined held sets plans made joins same = lists_set held (λ (set : ℕ → Bool). set) sets plans made joins (same ∙ sym (map_same sets))
