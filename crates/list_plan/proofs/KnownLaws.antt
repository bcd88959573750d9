-- The places of lists by their names.
use Rattle.std.proofs.Common.{IsSome, ◌+◌, ◌<◌, length, take, slice_index_or, ◌≡◌, ◌⊎◌, inl, inr, ℕ, Bool, true, false, cond, List, [], Option, Some, None, Bor, refl, sym, ap, ◌∙◌, subst, arith}
use Rattle.std.proofs.lemmas.Cmp.{tied_itself, nat_cmp_total, int_cmp_total}
use Rattle.std.proofs.lemmas.List.Elements.{All-more}
use Rattle.std.proofs.lemmas.Map.Lookups.{exact_signed, exact_unsigned}
use Rattle.std.proofs.lemmas.Map.Text.{btree_map_updates_str}
use Rattle.std.proofs.lemmas.Slice.Eq.{bytes_eq-Decides}
use Rattle.std.specs.BTreeMap.{BTreeMap, Updates, UpdatesBy, get}
use Rattle.std.specs.Cmp.{Equal-is}
use Rattle.std.specs.Cmp.Lexicographic.{slice_cmp}
use Rattle.std.specs.Option.{unwrap_or}
use Rattle.std.specs.Ordering.{nat_cmp, int_cmp, is_eq, ordering_then}
use Rattle.std.specs.Str.{bytes_eq}
use Rattle.std.specs.declared.cmp.Ordering.{Ordering}
use Rattle.std.specs.declared.cmp.Ordering.TheVariants.{Equal, Less, Greater}
use Rattle.id_iters.specs.Fitting.{IsOpenAt}
use Rattle.id_iters.specs.Held.{Held}
use Rattle.id_iters.specs.declared.hint.Hint.{Hint}
use Rattle.list_plan.specs.Known.{Adds, KnownFit, KnowsAll, Group, group_cmp, group_of, place_at, place_of, text_of}
use Rattle.id_iters.specs.declared.list_name.ListName.{ListName}
use Rattle.id_iters.specs.declared.list_name.ListName.TheVariants as names
use Rattle.inverted_list.specs.declared.place.Place.{Place}

first_equal : (a b : Ordering) → ordering_then a b ≡ Equal → a ≡ Equal
first_equal Less b e = e
first_equal Equal b e = refl
first_equal Greater b e = e

then_equal : (a b : Ordering) → ordering_then a b ≡ Equal → b ≡ Equal
then_equal Less b e = absurd (cc)
then_equal Equal b e = e
then_equal Greater b e = absurd (cc)

some_same : {X : Type 0} {a b : X} → Some a ≡ Some b → a ≡ b
some_same e = cc

there_is : {X : Type 0} (x : X) → IsSome (Some x)
there_is x = refl

-- names of one group are told apart by their texts
same_group : (one other : Group) → is_eq (group_cmp one other) ≡ true → one ≡ other
same_group one other tied =
    let e : group_cmp one other ≡ Equal = (Equal-is (group_cmp one other)).0 tied in
    let numbers : ordering_then (nat_cmp one.0 other.0) (nat_cmp one.1 other.1) ≡ Equal = first_equal _ (int_cmp one.2 other.2) e in
    let kind = exact_unsigned one.0 other.0 (first_equal _ (nat_cmp one.1 other.1) numbers) in
    let field = exact_unsigned one.1 other.1 (then_equal (nat_cmp one.0 other.0) _ numbers) in
    let low = exact_signed one.2 other.2 (then_equal (ordering_then (nat_cmp one.0 other.0) (nat_cmp one.1 other.1)) _ e) in
    λ i. (kind i, field i, low i)

itself : (group : Group) → is_eq (group_cmp group group) ≡ true
itself group =
    ap (λ o. is_eq (ordering_then (ordering_then o (nat_cmp group.1 group.1)) (int_cmp group.2 group.2))) (tied_itself nat_cmp_total group.0)
    ∙ ap (λ o. is_eq (ordering_then o (int_cmp group.2 group.2))) (tied_itself nat_cmp_total group.1)
    ∙ ap is_eq (tied_itself int_cmp_total group.2)

same_name : (name list : ListName) → group_of name ≡ group_of list → text_of name ≡ text_of list → name ≡ list
same_name (names.Word a) (names.Word b) group text = ap (λ t. names.Word t) text
same_name (names.Word a) (names.Tag f b) group text =
    let apart : 0 ≡ 1 = ap (λ (g : Group). g.0) group in
    absurd (omega (arith, apart))
same_name (names.Word a) (names.Range f b) group text =
    let apart : 0 ≡ 2 = ap (λ (g : Group). g.0) group in
    absurd (omega (arith, apart))
same_name (names.Tag f a) (names.Word b) group text =
    let apart : 1 ≡ 0 = ap (λ (g : Group). g.0) group in
    absurd (omega (arith, apart))
same_name (names.Tag f a) (names.Tag g b) group text = λ i. names.Tag ((group i).1) (text i)
same_name (names.Tag f a) (names.Range g b) group text =
    let apart : 1 ≡ 2 = ap (λ (g : Group). g.0) group in
    absurd (omega (arith, apart))
same_name (names.Range f a) (names.Word b) group text =
    let apart : 2 ≡ 0 = ap (λ (g : Group). g.0) group in
    absurd (omega (arith, apart))
same_name (names.Range f a) (names.Tag g b) group text =
    let apart : 2 ≡ 1 = ap (λ (g : Group). g.0) group in
    absurd (omega (arith, apart))
same_name (names.Range f a) (names.Range g b) group text = λ i. names.Range ((group i).1) ((group i).2)

module _ (old left new : BTreeMap Group (BTreeMap (Bor (List ℕ)) Place)) (group : Group) (list : ListName) (place : Place) (text : Bor (List ℕ))
    (taken : Option (BTreeMap (Bor (List ℕ)) Place)) (empty places made : BTreeMap (Bor (List ℕ)) Place)
    (is_group : group ≡ group_of list) (is_text : text.now ≡ text_of list)
    (took : taken ≡ get group_cmp old group) (leaves : UpdatesBy group_cmp (group_cmp group) old left None)
    (none : empty.entries ≡ []) (are : places ≡ unwrap_or taken empty)
    (adds : Updates (λ x y. slice_cmp nat_cmp x.now y.now) places made text (Some place))
    (puts : Updates group_cmp left new group (Some made)) where
  got : (q : Group) → get group_cmp new q ≡ cond (is_eq (group_cmp group q)) (Some made) (get group_cmp old q)
  got q = puts.0 q ∙ ap (cond (is_eq (group_cmp group q)) (Some made)) (leaves.0 q) ∙ twice (is_eq (group_cmp group q))
    where
      twice : (b : Bool) → cond b (Some made) (cond b None (get group_cmp old q)) ≡ cond b (Some made) (get group_cmp old q)
      twice true = refl
      twice false = refl

  made_at : (t : List ℕ) → place_at (Some made) t ≡ cond (bytes_eq text.now t) (Some place) (place_at (Some places) t)
  made_at t = btree_map_updates_str text.now places made (Some place) adds t

  before : (t : List ℕ) → place_at (Some places) t ≡ place_at taken t
  before t = ap (λ p. place_at (Some p) t) are ∙ by_taken taken
    where
      by_taken : (o : Option (BTreeMap (Bor (List ℕ)) Place)) → place_at (Some (unwrap_or o empty)) t ≡ place_at o t
      by_taken None = rw none refl
      by_taken (Some p) = refl

  pub added : Adds (place_of old) (place_of new) list place
  added = record {
    here =
        ap (λ o. place_at o (text_of list)) (got (group_of list))
        ∙ ap (λ b. place_at (cond b (Some made) (get group_cmp old (group_of list))) (text_of list)) (ap (λ (g : Group). is_eq (group_cmp g (group_of list))) is_group ∙ itself (group_of list))
        ∙ made_at (text_of list)
        ∙ ap (λ b. cond b (Some place) (place_at (Some places) (text_of list))) ((bytes_eq-Decides text.now (text_of list)).1 is_text);
    others = λ name. by_group name (is_eq (group_cmp group (group_of name))) refl;
  }
    where
      by_text : (name : ListName) → group_of name ≡ group_of list → (b : Bool) → bytes_eq text.now (text_of name) ≡ b → place_of new name ≡ place_at (Some made) (text_of name)
          → (name ≡ list) ⊎ (place_of new name ≡ place_of old name)
      by_text name same true e is = inl (same_name name list same (sym ((bytes_eq-Decides text.now (text_of name)).0 e) ∙ is_text))
      by_text name same false e is = inr (
          is ∙ made_at (text_of name) ∙ ap (λ b. cond b (Some place) (place_at (Some places) (text_of name))) e
          ∙ before (text_of name) ∙ ap (λ o. place_at o (text_of name)) (took ∙ ap (get group_cmp old) (is_group ∙ sym same)))

      by_group : (name : ListName) (b : Bool) → is_eq (group_cmp group (group_of name)) ≡ b → (name ≡ list) ⊎ (place_of new name ≡ place_of old name)
      by_group name true e =
          by_text name (sym (same_group group (group_of name) e) ∙ is_group) (bytes_eq text.now (text_of name)) refl
          (ap (λ o. place_at o (text_of name)) (got (group_of name)) ∙ ap (λ b. place_at (cond b (Some made) (get group_cmp old (group_of name))) (text_of name)) e)
      by_group name false e = inr (
          ap (λ o. place_at o (text_of name)) (got (group_of name)) ∙ ap (λ b. place_at (cond b (Some made) (get group_cmp old (group_of name))) (text_of name)) e)

-- ---- what a place that becomes known changes

module _ (old new : ListName → Option Place) (list : ListName) (place : Place) (adds : Adds old new list place) where
  pub still_fit : (held : Held) (after : ℕ) → IsOpenAt held list after place → KnownFit held after old → KnownFit held after new
  still_fit held after opened fit name other known = by_name (adds.others name)
    where
      by_name : (name ≡ list) ⊎ (new name ≡ old name) → IsOpenAt held name after other
      by_name (inl same) =
          let is : place ≡ other = some_same (sym adds.here ∙ ap new (sym same) ∙ known) in
          subst (λ (n : ListName). IsOpenAt held n after other) (sym same) (subst (IsOpenAt held list after) is opened)
      by_name (inr same) = fit name other (sym same ∙ known)

  pub still_known : (name : ListName) → IsSome (old name) → IsSome (new name)
  still_known name known = by_name (adds.others name)
    where
      by_name : (name ≡ list) ⊎ (new name ≡ old name) → IsSome (new name)
      by_name (inl same) = subst IsSome (sym (ap new same ∙ adds.here)) (there_is place)
      by_name (inr same) = subst IsSome (sym same) known

  pub now_known : IsSome (new list)
  now_known = subst IsSome (sym adds.here) (there_is place)

pub knows_more : (held : Held) (after : ℕ) (old new : ListName → Option Place) (hints : List Hint) (i : ℕ) (hint : Hint) → i < length hints → hint ≡ slice_index_or hints i hint
    → ((list : ListName) → IsSome (old list) → IsSome (new list)) → (IsOpenAt held hint.list after hint.place → IsSome (new hint.list))
    → KnowsAll held after old (take i hints) → KnowsAll held after new (take (i + 1) hints)
knows_more held after old new hints i hint within is kept here all =
    All-more (λ (h : Hint). IsOpenAt held h.list after h.place → IsSome (new h.list)) hints i hint within
    (λ k d inside opened. kept _ (all k d inside opened))
    (subst (λ (h : Hint). IsOpenAt held h.list after h.place → IsSome (new h.list)) is here)
