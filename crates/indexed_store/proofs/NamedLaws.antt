-- The index of a name, its definition and the others.
use Rattle.std.specs.Prelude.{◌≡◌, ◌<◌, ◌+◌, ℕ, suc, Bool, true, false, cond, List, [], ◌∷◌, None, Some, find, length, position, slice_index_or, slice_set, refl, nat_lt}
use Rattle.std.specs.List.{All, Contains, position_or_len, remove}
use Rattle.std.specs.Option.{option_map}
use Rattle.std.proofs.Common.{sym, ap, ◌∙◌, subst, inl, inr, arith}
use Rattle.std.proofs.lemmas.Bool.{cases_Bool}
use Rattle.std.proofs.lemmas.Bool.Decides.{nat_tests}
use Rattle.std.proofs.lemmas.List.Elements.{All-cons, All-head, All-tail}
use Rattle.std.specs.Str.{bytes_eq}
use Rattle.ft_base.specs.declared.definition.IndexDef.{IndexDef}
use Rattle.ft_index.specs.Index.{Index}
use Rattle.ft_machine.specs.Definitions.{Defined, index_of, with_index, without_index}
use Rattle.indexed_store.specs.DefinitionsOf.{defined, definitions_of}
use Rattle.indexed_store.specs.Named.{has_serial, is_named, without_named}

-- the definition of a name is that of the first index that has it
pub index_of-named : (indexes : List Index) (name : List ℕ) → index_of (definitions_of indexes) name ≡ option_map defined (find (is_named name) indexes)
index_of-named [] name = refl
index_of-named (index ∷ indexes) name = by_test (is_named name index) (index_of-named indexes name)
  where
    by_test : (here : Bool) → index_of (definitions_of indexes) name ≡ option_map defined (find (is_named name) indexes)
        → cond here (Some (defined index)) (index_of (definitions_of indexes) name) ≡ option_map defined (cond here (Some index) (find (is_named name) indexes))
    by_test true others = refl
    by_test false others = others

-- what holds of all indexes holds of the one of a name
pub named-has : (P : Index → Type 0) (indexes : List Index) (name : List ℕ) (index : Index) → All P indexes → find (is_named name) indexes ≡ Some index → P index
named-has P [] name index each there = cc (there)
named-has P (first ∷ indexes) name index each there = by_test (is_named name first) there (named-has P indexes name index (All-tail P first indexes each))
  where
    by_test : (here : Bool) → cond here (Some first) (find (is_named name) indexes) ≡ Some index → (find (is_named name) indexes ≡ Some index → P index) → P index
    by_test true there later = let same : first ≡ index = cc (there) in subst P same (All-head P first indexes each)
    by_test false there later = later there

-- and of the others
pub others-have : (P : Index → Type 0) (indexes : List Index) (name : List ℕ) → All P indexes → All P (without_named indexes name)
others-have P [] name each = each
others-have P (index ∷ indexes) name each = by_test (is_named name index) (others-have P indexes name (All-tail P index indexes each))
  where
    by_test : (here : Bool) → All P (without_named indexes name) → All P (cond here indexes (index ∷ without_named indexes name))
    by_test true others = All-tail P index indexes each
    by_test false others = All-cons P index (without_named indexes name) (All-head P index indexes each) others

-- the definitions of the others
pub others-defined : (indexes : List Index) (name : List ℕ) → definitions_of (without_named indexes name) ≡ without_index (definitions_of indexes) name
others-defined [] name = refl
others-defined (index ∷ indexes) name = by_test (is_named name index) (others-defined indexes name)
  where
    by_test : (here : Bool) → definitions_of (without_named indexes name) ≡ without_index (definitions_of indexes) name
        → definitions_of (cond here indexes (index ∷ without_named indexes name)) ≡ cond here (definitions_of indexes) (defined index ∷ without_index (definitions_of indexes) name)
    by_test true others = refl
    by_test false others = ap (λ (rest : List Defined). defined index ∷ rest) others

pub others-fewer : (indexes : List Index) (name : List ℕ) → length (without_named indexes name) < length indexes + 1
others-fewer [] name = omega arith
others-fewer (index ∷ indexes) name = by_test (is_named name index) (others-fewer indexes name)
  where
    by_test : (here : Bool) → length (without_named indexes name) < length indexes + 1 → length (cond here indexes (index ∷ without_named indexes name)) < length (index ∷ indexes) + 1
    by_test true others = omega arith
    by_test false others = omega (arith, others)

-- a place that was found is the first one
pub place-is : {X : Type 0} (p : X → Bool) (xs : List X) (i : ℕ) → position p xs ≡ Some i → (i ≡ position_or_len p xs) × (i < length xs)
place-is p xs i found = by_test (nat_lt (position_or_len p xs) (length xs)) refl found
  where
    by_test : (less : Bool) → nat_lt (position_or_len p xs) (length xs) ≡ less → cond less (Some (position_or_len p xs)) None ≡ Some i → (i ≡ position_or_len p xs) × (i < length xs)
    by_test true is found = let same : position_or_len p xs ≡ i = cc (found) in (sym same, grind (arith, nat_tests, is, same))
    by_test false is found = cc (found)

pub first-here : {X : Type 0} (p : X → Bool) (x : X) (xs : List X) → p x ≡ true → position_or_len p (x ∷ xs) ≡ 0
first-here p x xs passes = rw passes refl

pub first-later : {X : Type 0} (p : X → Bool) (x : X) (xs : List X) → p x ≡ false → position_or_len p (x ∷ xs) ≡ 1 + position_or_len p xs
first-later p x xs fails = rw fails refl

pub suc_is : (i n : ℕ) → i ≡ 1 + n → i ≡ suc n
suc_is i n is = omega (arith, is)

-- no place is found where no item passes
pub no-place : {X : Type 0} (p : X → Bool) (xs : List X) → position p xs ≡ None → length xs < position_or_len p xs + 1
no-place p xs none = by_test (nat_lt (position_or_len p xs) (length xs)) refl none
  where
    by_test : (less : Bool) → nat_lt (position_or_len p xs) (length xs) ≡ less → cond less (Some (position_or_len p xs)) None ≡ None → length xs < position_or_len p xs + 1
    by_test true is none = cc (none)
    by_test false is none = grind (arith, nat_tests, is)

none-named : (indexes : List Index) (name : List ℕ) → length indexes < position_or_len (is_named name) indexes + 1
    → (find (is_named name) indexes ≡ None) × (without_named indexes name ≡ indexes)
none-named [] name none = (refl, refl)
none-named (index ∷ indexes) name none = elim (cases_Bool (is_named name index)) [
  | inl y ↦ absurd (omega (arith, none, first-here (is_named name) index indexes y))
  | inr n ↦
      let others = none-named indexes name (omega (arith, none, first-later (is_named name) index indexes n)) in
      rw n (others.0, ap (λ (rest : List Index). index ∷ rest) others.1)
]

pub none-taken : (indexes : List Index) (name : List ℕ) → position (is_named name) indexes ≡ None → None ≡ find (is_named name) indexes
none-taken indexes name none = sym (none-named indexes name (no-place (is_named name) indexes none)).0

pub none-left : (indexes : List Index) (name : List ℕ) → position (is_named name) indexes ≡ None → indexes ≡ without_named indexes name
none-left indexes name none = sym (none-named indexes name (no-place (is_named name) indexes none)).1

one-named : (indexes : List Index) (name : List ℕ) (i : ℕ) (d : Index) → i ≡ position_or_len (is_named name) indexes → i < length indexes
    → (Some (slice_index_or indexes i d) ≡ find (is_named name) indexes) × (remove indexes i ≡ without_named indexes name)
one-named [] name i d is less = absurd (omega (arith, less))
one-named (index ∷ indexes) name i d is less = elim (cases_Bool (is_named name index)) [
  | inl y ↦ let zero : i ≡ 0 = is ∙ first-here (is_named name) index indexes y in rw (zero, y) (refl, refl)
  | inr n ↦
      let more : i ≡ 1 + position_or_len (is_named name) indexes = is ∙ first-later (is_named name) index indexes n in
      let others = one-named indexes name (position_or_len (is_named name) indexes) d refl (omega (arith, less, more)) in
      let up : i ≡ suc (position_or_len (is_named name) indexes) = omega (arith, more) in
      rw (up, n) (others.0, ap (λ (rest : List Index). index ∷ rest) others.1)
]

pub one-taken : (indexes : List Index) (name : List ℕ) (i : ℕ) (d : Index) → position (is_named name) indexes ≡ Some i → Some (slice_index_or indexes i d) ≡ find (is_named name) indexes
one-taken indexes name i d found = let at = place-is (is_named name) indexes i found in (one-named indexes name i d at.0 at.1).0

pub one-left : (indexes : List Index) (name : List ℕ) (i : ℕ) (d : Index) → position (is_named name) indexes ≡ Some i → remove indexes i ≡ without_named indexes name
one-left indexes name i d found = let at = place-is (is_named name) indexes i found in (one-named indexes name i d at.0 at.1).1

-- the definitions once an index takes the place of another of its name
none-replaced : (indexes : List Index) (new : Index) → length indexes < position_or_len (is_named new.def.name) indexes + 1 → definitions_of indexes ≡ with_index (definitions_of indexes) (defined new)
none-replaced [] new none = refl
none-replaced (index ∷ indexes) new none = elim (cases_Bool (is_named new.def.name index)) [
  | inl y ↦ absurd (omega (arith, none, first-here (is_named new.def.name) index indexes y))
  | inr n ↦ rw n (ap (λ (rest : List Defined). defined index ∷ rest) (none-replaced indexes new (omega (arith, none, first-later (is_named new.def.name) index indexes n))))
]

one-replaced : (indexes : List Index) (new : Index) (i : ℕ) → i ≡ position_or_len (is_named new.def.name) indexes → i < length indexes
    → definitions_of (slice_set indexes i new) ≡ with_index (definitions_of indexes) (defined new)
one-replaced [] new i is less = absurd (omega (arith, less))
one-replaced (index ∷ indexes) new i is less = elim (cases_Bool (is_named new.def.name index)) [
  | inl y ↦ let zero : i ≡ 0 = is ∙ first-here (is_named new.def.name) index indexes y in rw (zero, y) refl
  | inr n ↦
      let more : i ≡ 1 + position_or_len (is_named new.def.name) indexes = is ∙ first-later (is_named new.def.name) index indexes n in
      rw (suc_is i (position_or_len (is_named new.def.name) indexes) more, n) (ap (λ (rest : List Defined). defined index ∷ rest) (one-replaced indexes new (position_or_len (is_named new.def.name) indexes) refl (omega (arith, less, more))))
]

pub replaced-none : (indexes : List Index) (new : Index) → position (is_named new.def.name) indexes ≡ None → definitions_of indexes ≡ with_index (definitions_of indexes) (defined new)
replaced-none indexes new none = none-replaced indexes new (no-place (is_named new.def.name) indexes none)

pub replaced-one : (indexes : List Index) (new : Index) (i : ℕ) → position (is_named new.def.name) indexes ≡ Some i → definitions_of (slice_set indexes i new) ≡ with_index (definitions_of indexes) (defined new)
replaced-one indexes new i found = let at = place-is (is_named new.def.name) indexes i found in one-replaced indexes new i at.0 at.1

-- the index of a name is another one of the name once that takes its place
set-named : (indexes : List Index) (name : List ℕ) (i : ℕ) (d new : Index) → i ≡ position_or_len (is_named name) indexes → i < length indexes → new.def ≡ (slice_index_or indexes i d).def
    → find (is_named name) (slice_set indexes i new) ≡ Some new
set-named [] name i d new is less same = absurd (omega (arith, less))
set-named (index ∷ indexes) name i d new is less same = elim (cases_Bool (is_named name index)) [
  | inl y ↦
      let zero : i ≡ 0 = is ∙ first-here (is_named name) index indexes y in
      let at : new.def ≡ index.def = subst (λ (n : ℕ). new.def ≡ (slice_index_or (index ∷ indexes) n d).def) zero same in
      let named : is_named name new ≡ true = ap (λ (def : IndexDef). bytes_eq name def.name) at ∙ y in
      rw (zero, named) refl
  | inr n ↦
      let up : i ≡ suc (position_or_len (is_named name) indexes) = suc_is i (position_or_len (is_named name) indexes) (is ∙ first-later (is_named name) index indexes n) in
      let others = set-named indexes name (position_or_len (is_named name) indexes) d new refl (omega (arith, less, up))
      (subst (λ (n : ℕ). new.def ≡ (slice_index_or (index ∷ indexes) n d).def) up same) in
      rw (up, n) others
]

pub one-set : (indexes : List Index) (name : List ℕ) (i : ℕ) (d new : Index) → position (is_named name) indexes ≡ Some i → new.def ≡ (slice_index_or indexes i d).def
    → find (is_named name) (slice_set indexes i new) ≡ Some new
one-set indexes name i d new found same = let at = place-is (is_named name) indexes i found in set-named indexes name i d new at.0 at.1 same

-- the index of a serial is one of the indexes, and has the serial
pub found-serial : (serial : ℕ) (indexes : List Index) (index : Index) → find (has_serial serial) indexes ≡ Some index → Contains indexes index × (index.def.serial ≡ serial)
found-serial serial [] index found = cc (found)
found-serial serial (first ∷ indexes) index found = by_test (has_serial serial first) refl found (found-serial serial indexes index)
  where
    by_test : (here : Bool) → has_serial serial first ≡ here → cond here (Some first) (find (has_serial serial) indexes) ≡ Some index
        → (find (has_serial serial) indexes ≡ Some index → Contains indexes index × (index.def.serial ≡ serial)) → Contains (first ∷ indexes) index × (index.def.serial ≡ serial)
    by_test true here found later =
        let same : first ≡ index = cc (found) in
        let has : first.def.serial ≡ serial = grind (arith, nat_tests, here) in
        subst (λ (x : Index). Contains (first ∷ indexes) x × (x.def.serial ≡ serial)) same ((0, omega arith, refl), has)
    by_test false here found later = let more = later found in ((suc more.0.0, omega (arith, more.0.1), more.0.2), more.1)
