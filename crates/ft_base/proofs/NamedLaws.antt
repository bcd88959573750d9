-- What a list of named items notes of them, and what it finds.
use Rattle.std.proofs.Common.{◌≡◌, ℕ, suc, ◌+◌, ◌<◌, ◌≤◌, nat_lt, eqb, Bool, true, false, cond, not, List, [], ◌∷◌, ◌++◌, length, map, get_or, take, Option, None, Some, inl, inr, refl, sym, ap, subst, ◌∙◌, arith, length-append}
use Rattle.std.specs.Cmp.Lexicographic.{nat_list_eq_equiv}
use Rattle.std.specs.List.{list_any, position, position_or_len, slice_get}
use Rattle.std.specs.Map.{lookup}
use Rattle.std.specs.Option.{IfSome, is_some, option_or}
use Rattle.std.specs.Prelude.{◌||◌}
use Rattle.std.specs.Str.{bytes_eq}
use Rattle.std.specs.declared.alloc.Global.{Global}
use Rattle.std.specs.declared.vec.Vec.{Vec}
use Rattle.std.proofs.lemmas.Bool.{cases_Bool, lt-ltb, ltb-true, ltb-false, ne_eqb}
use Rattle.std.proofs.lemmas.Bool.Decides.{eqb_tells}
use Rattle.std.proofs.lemmas.List.{length-take-le, take_more}
use Rattle.std.proofs.lemmas.List.Folds.{find_at, position_or_len_push}
use Rattle.std.proofs.lemmas.List.Sums.{prefix_len-le-length}
use Rattle.std.proofs.lemmas.Option.{slice_get_past}
use Rattle.std.proofs.lemmas.Slice.Eq.{bytes_eq-Decides}
use Rattle.indexmap.specs.IndexMap.{insert_entry}
use Rattle.ft_base.specs.Named.{Places, FindsFirst, IsNoted, noted_at, noted_of, item_of, place_if, place_of}
use Rattle.ft_base.proofs.FieldsLemmas.{is_kept, same_kept}

abbrev Stored : Type 0
Stored = Vec ℕ Global × ℕ

-- which of two names comes first does not matter
pub turned : (a b : List ℕ) → bytes_eq a b ≡ bytes_eq b a
turned a b = nat_list_eq_equiv.symm a b

-- ---- names and their places, as they are stored

-- a look-up of a name is one of its bytes
pub noted-lookup : (entries : List Stored) (name : List ℕ) → noted_at (map noted_of entries) name ≡ lookup (is_kept name) entries
noted-lookup [] name = refl
noted-lookup (e ∷ es) name = ap (cond (bytes_eq name e.0.items) (Some e.1)) (noted-lookup es name)

noted-cond : (b : Bool) (xs ys : List Stored) (name : List ℕ) → noted_at (map noted_of (cond b xs ys)) name ≡ cond b (noted_at (map noted_of xs) name) (noted_at (map noted_of ys) name)
noted-cond true xs ys name = refl
noted-cond false xs ys name = refl

-- what a look-up behind an insertion gives
abbrev InsertGives : List Stored → Vec ℕ Global → ℕ → List ℕ → Type 0
InsertGives entries key place name =
    noted_at (map noted_of (insert_entry same_kept entries key place)) name ≡ cond (bytes_eq key.items name) (Some place) (noted_at (map noted_of entries) name)

noted-insert : (entries : List Stored) (key : Vec ℕ Global) (place : ℕ) (name : List ℕ) → InsertGives entries key place name
noted-insert [] key place name = ap (λ b. cond b (Some place) None) (turned name key.items)
noted-insert (e ∷ es) key place name =
    noted-cond (same_kept key e.0) ((e.0, place) ∷ es) (e ∷ insert_entry same_kept es key place) name
    ∙ by_test (bytes_eq key.items e.0.items) refl (noted-insert es key place name)
  where
    here : bytes_eq key.items e.0.items ≡ true → (others : Option ℕ)
        → cond (bytes_eq name e.0.items) (Some place) others ≡ cond (bytes_eq key.items name) (Some place) (cond (bytes_eq name e.0.items) (Some e.1) others)
    here same others =
        let is : bytes_eq name e.0.items ≡ bytes_eq key.items name = ap (bytes_eq name) (sym ((bytes_eq-Decides key.items e.0.items).0 same)) ∙ turned name key.items in
        ap (λ b. cond b (Some place) others) is
        ∙ elim (cases_Bool (bytes_eq key.items name)) [
          | inl y ↦ rw y refl
          | inr n ↦ rw (n, is, n) refl
        ]

    apart : bytes_eq key.items e.0.items ≡ false → InsertGives es key place name
        → cond (bytes_eq name e.0.items) (Some e.1) (noted_at (map noted_of (insert_entry same_kept es key place)) name)
        ≡ cond (bytes_eq key.items name) (Some place) (cond (bytes_eq name e.0.items) (Some e.1) (noted_at (map noted_of es) name))
    apart differ others =
        ap (cond (bytes_eq name e.0.items) (Some e.1)) others
        ∙ elim (cases_Bool (bytes_eq name e.0.items)) [
          | inl y ↦
              let other : bytes_eq key.items name ≡ false = ap (bytes_eq key.items) ((bytes_eq-Decides name e.0.items).0 y) ∙ differ in
              rw (y, other) refl
          | inr n ↦ rw n refl
        ]

    by_test : (same : Bool) → bytes_eq key.items e.0.items ≡ same → InsertGives es key place name
        → cond same (cond (bytes_eq name e.0.items) (Some place) (noted_at (map noted_of es) name)) (cond (bytes_eq name e.0.items) (Some e.1) (noted_at (map noted_of (insert_entry same_kept es key place)) name))
        ≡ cond (bytes_eq key.items name) (Some place) (cond (bytes_eq name e.0.items) (Some e.1) (noted_at (map noted_of es) name))
    by_test true is others = here is (noted_at (map noted_of es) name)
    by_test false is others = apart is others

or-none : (found : Option ℕ) → found ≡ option_or found None
or-none None = refl
or-none (Some n) = refl

-- a name that is there keeps its place
pub noted-there : (places : Places) (name : List ℕ) (place : ℕ) → is_some (noted_at places name) ≡ true → IsNoted name place places places
noted-there places name place there other = by_test (bytes_eq name other) refl
  where
    first : (found : Option ℕ) → is_some found ≡ true → found ≡ option_or found (Some place)
    first None is = absurd cc
    first (Some n) is = refl

    by_test : (same : Bool) → bytes_eq name other ≡ same → noted_at places other ≡ option_or (noted_at places other) (cond same (Some place) None)
    by_test true is = first (noted_at places other) (ap (λ n. is_some (noted_at places n)) (sym ((bytes_eq-Decides name other).0 is)) ∙ there)
    by_test false is = or-none (noted_at places other)

-- one that is not there gets its place
pub noted-new : (old new : List Stored) (key : Vec ℕ Global) (name : List ℕ) (place : ℕ) → key.items ≡ name → is_some (noted_at (map noted_of old) name) ≡ false
    → new ≡ insert_entry same_kept old key place → IsNoted name place (map noted_of old) (map noted_of new)
noted-new old new key name place same none put other =
    ap (λ es. noted_at (map noted_of es) other) put
    ∙ (noted-insert old key place other ∙ ap (λ k. cond (bytes_eq k other) (Some place) (noted_at (map noted_of old) other)) same)
    ∙ by_test (bytes_eq name other) refl
  where
    first : (found : Option ℕ) → is_some found ≡ false → Some place ≡ option_or found (Some place)
    first None is = refl
    first (Some n) is = absurd cc

    by_test : (is : Bool) → bytes_eq name other ≡ is
        → cond is (Some place) (noted_at (map noted_of old) other) ≡ option_or (noted_at (map noted_of old) other) (cond is (Some place) None)
    by_test true is = first (noted_at (map noted_of old) other) (ap (λ n. is_some (noted_at (map noted_of old) n)) (sym ((bytes_eq-Decides name other).0 is)) ∙ none)
    by_test false is = or-none (noted_at (map noted_of old) other)

-- ---- the first item that passes

not-lt : (a b : ℕ) → b ≤ a → nat_lt a b ≡ false
not-lt a b most =
    elim (cases_Bool (nat_lt a b)) [
      | inl y ↦ let less : a < b = ltb-true a b y in absurd (omega arith)
      | inr past ↦ past
    ]

same_eqb : (n l : ℕ) → n ≡ l → eqb n l ≡ true
same_eqb n l same =
    elim (eqb_tells n l) [
      | inl is ↦ is.0
      | inr apart ↦ absurd (apart.1 same)
    ]

-- one item more is the first where none was before
position-push : {X : Type 0} (p : X → Bool) (xs : List X) (x : X) → position p (xs ++ x ∷ []) ≡ option_or (position p xs) (cond (p x) (Some (length xs)) None)
position-push p xs x =
    ap (λ n. cond (nat_lt n (length (xs ++ x ∷ []))) (Some n) None) (position_or_len_push p xs x)
    ∙ ap (λ l. cond (nat_lt (cond (eqb (position_or_len p xs) (length xs)) (length xs + cond (p x) 0 1) (position_or_len p xs)) l) (Some (cond (eqb (position_or_len p xs) (length xs)) (length xs + cond (p x) 0 1) (position_or_len p xs))) None) (length-append xs (x ∷ []))
    ∙ by_number (position_or_len p xs) (length xs) (p x) (prefix_len-le-length (λ y. not (p y)) xs)
  where
    by_number : (n l : ℕ) (b : Bool) → n ≤ l
        → cond (nat_lt (cond (eqb n l) (l + cond b 0 1) n) (l + 1)) (Some (cond (eqb n l) (l + cond b 0 1) n)) None ≡ option_or (cond (nat_lt n l) (Some n) None) (cond b (Some l) None)
    by_number n l b within =
        elim (cases_Bool (nat_lt n l)) [
          | inl y ↦
              let less : n < l = ltb-true n l y in
              let apart : eqb n l ≡ false = ne_eqb n l (λ e. omega arith) in
              let still : nat_lt n (l + 1) ≡ true = lt-ltb n (l + 1) (omega arith) in
              rw (apart, y, still) refl
          | inr past ↦
              let most : l ≤ n = ltb-false n l past in
              let same : n ≡ l = omega arith in
              rw (same_eqb n l same, past) (at_end b)
        ]
      where
        at_end : (c : Bool) → cond (nat_lt (l + cond c 0 1) (l + 1)) (Some (l + cond c 0 1)) None ≡ cond c (Some l) None
        at_end true =
            let here : l + 0 ≡ l = omega arith in
            let below : nat_lt l (l + 1) ≡ true = lt-ltb l (l + 1) (omega arith) in
            rw (here, below) refl
        at_end false = let past : nat_lt (l + 1) (l + 1) ≡ false = not-lt (l + 1) (l + 1) (omega arith) in rw past refl

at_place : (n l i : ℕ) → cond (nat_lt n l) (Some n) None ≡ Some i → n ≡ i
at_place n l i found = by_test (nat_lt n l) found
  where
    by_test : (b : Bool) → cond b (Some n) None ≡ Some i → n ≡ i
    by_test true e = cc
    by_test false e = absurd cc

no_place : (n l : ℕ) → cond (nat_lt n l) (Some n) None ≡ None → l ≤ n
no_place n l none =
    elim (cases_Bool (nat_lt n l)) [
      | inl below ↦ let clash : ◌≡◌ {A = Option ℕ} (Some n) None = rw below at none in absurd cc
      | inr past ↦ ltb-false n l past
    ]

-- the place of the first one is one of the list
pub place-within : {X : Type 0} (p : X → Bool) (xs : List X) → IfSome (position p xs) (λ i. i < length xs)
place-within p xs = by_number (position_or_len p xs) (length xs)
  where
    by_number : (n l : ℕ) → IfSome (cond (nat_lt n l) (Some n) None) (λ i. i < l)
    by_number n l =
        elim (cases_Bool (nat_lt n l)) [
          | inl y ↦ rw y (ltb-true n l y)
          | inr past ↦ rw past tt
        ]

-- there is a first one where one passes
some-position : {X : Type 0} (p : X → Bool) (xs : List X) → is_some (position p xs) ≡ list_any p xs
some-position {X = X} p xs = some_cond (nat_lt (position_or_len p xs) (length xs)) (position_or_len p xs) ∙ below xs
  where
    some_cond : (b : Bool) (n : ℕ) → is_some (cond b (Some n) None) ≡ b
    some_cond true n = refl
    some_cond false n = refl

    next : (n l : ℕ) → nat_lt (1 + n) (suc l) ≡ nat_lt n l
    next n l =
        elim (cases_Bool (nat_lt n l)) [
          | inl y ↦ lt-ltb (1 + n) (suc l) (let less : n < l = ltb-true n l y in omega arith) ∙ sym y
          | inr past ↦ not-lt (1 + n) (suc l) (let most : l ≤ n = ltb-false n l past in omega arith) ∙ sym past
        ]

    by_test : (b : Bool) (n l : ℕ) → nat_lt (cond (not b) (1 + n) 0) (suc l) ≡ (b || nat_lt n l)
    by_test true n l = lt-ltb 0 (suc l) (omega arith)
    by_test false n l = next n l

    below : (xs : List X) → nat_lt (position_or_len p xs) (length xs) ≡ list_any p xs
    below [] = refl
    below (x ∷ xs) = by_test (p x) (position_or_len p xs) (length xs) ∙ ap (λ b. p x || b) (below xs)

-- ---- named items

module _ {T : Type 0} (name_of : T → List ℕ) where
  -- what was noted of some items, and then of one more
  pub finds-next : (items : List T) (item : T) (old new : Places) → FindsFirst name_of items old → IsNoted (name_of item) (length items) old new → FindsFirst name_of (items ++ item ∷ []) new
  finds-next items item old new finds noted name =
      noted name
      ∙ ap (λ found. option_or found (place_if (name_of item) (length items) name)) (finds name)
      ∙ sym (position-push (λ i. bytes_eq (name_of i) name) items item)

  pub finds-named : (items : List T) (item : T) (name : List ℕ) (old new : Places) → FindsFirst name_of items old → name ≡ name_of item → IsNoted name (length items) old new
      → FindsFirst name_of (items ++ item ∷ []) new
  finds-named items item name old new finds is noted = finds-next items item old new finds (subst (λ n. IsNoted n (length items) old new) is noted)

  -- the same of the first items of a list, and of the one behind them
  pub finds-item : (items : List T) (i : ℕ) (d : T) (name : List ℕ) (old new : Places) → i < length items → FindsFirst name_of (take i items) old → name ≡ name_of (get_or items i d) → IsNoted name i old new
      → FindsFirst name_of (take (i + 1) items) new
  finds-item items i d name old new within finds is noted =
      subst (λ (is : List T). FindsFirst name_of is new) (sym (take_more items i d within))
      (finds-named (take i items) (get_or items i d) name old new finds is (subst (λ k. IsNoted name k old new) (sym (length-take-le i items (omega arith))) noted))

  -- the item at the place of a name is the one that it finds
  pub found-at : (items : List T) (name : List ℕ) (i : ℕ) → place_of name_of items name ≡ Some i → slice_get items i ≡ item_of name_of items name
  found-at items name i found =
      let p : T → Bool = λ item. bytes_eq (name_of item) name in
      ap (slice_get items) (sym (at_place (position_or_len p items) (length items) i found)) ∙ sym (find_at p items)

  pub found-none : (items : List T) (name : List ℕ) → place_of name_of items name ≡ None → None ≡ item_of name_of items name
  found-none items name none =
      let p : T → Bool = λ item. bytes_eq (name_of item) name in
      sym (slice_get_past items (position_or_len p items) (no_place (position_or_len p items) (length items) none)) ∙ sym (find_at p items)

  -- an item has the name where its first one has a place
  pub has-place : (items : List T) (name : List ℕ) → is_some (place_of name_of items name) ≡ list_any (λ item. bytes_eq name (name_of item)) items
  has-place items name = some-position (λ item. bytes_eq (name_of item) name) items ∙ any_turned items
    where
      any_turned : (is : List T) → list_any (λ item. bytes_eq (name_of item) name) is ≡ list_any (λ item. bytes_eq name (name_of item)) is
      any_turned [] = refl
      any_turned (i ∷ is) = ap (λ b. b || list_any (λ item. bytes_eq (name_of item) name) is) (turned (name_of i) name) ∙ ap (λ b. bytes_eq name (name_of i) || b) (any_turned is)
