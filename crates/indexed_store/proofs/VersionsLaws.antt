-- New versions of a hash: which fields a set of them has, and what is left without them.
use Rattle.std.proofs.Common.{◌≡◌, ◌<◌, ◌≤◌, ◌+◌, ℕ, Bool, true, false, List, [], ◌∷◌, ◌++◌, length, take, Option, Some, None, refl, sym, ap, ◌∙◌, subst, inl, inr, arith, append_assoc}
use Rattle.std.specs.Prelude.{◌||◌, filter, if◌then◌else◌, is_some, not, slice_index_or}
use Rattle.std.specs.Cmp.{IsEquivalence}
use Rattle.std.specs.List.{AllByRecursion, IsDistinct, list_any}
use Rattle.std.specs.Map.{keys_of}
use Rattle.std.specs.Str.{bytes_eq}
use Rattle.std.proofs.lemmas.Bool.{cases_Bool}
use Rattle.std.proofs.Math.Bool.{or-false}
use Rattle.std.proofs.lemmas.Cmp.{nat_list_eq_equiv}
use Rattle.std.proofs.lemmas.List.{append-nil, take_more}
use Rattle.std.proofs.lemmas.List.Filters.{length-filter_both}
use Rattle.std.proofs.lemmas.List.Folds.{list_any-append}
use Rattle.std.proofs.lemmas.Map.Keys.{IsDistinct-head, IsDistinct-tail}
use Rattle.std.proofs.lemmas.Slice.Eq.{bytes_eq-Decides}
use Rattle.ft_base.specs.Hash.{Hash, HasDistinctFields, get_field, set_field}
use Rattle.ft_machine.specs.Writes.{without_fields}

pub same_bytes : IsEquivalence bytes_eq
same_bytes = nat_list_eq_equiv

-- a field that was set is there, and the others as before
pub found-set : (hash : Hash) (word value field : List ℕ) → is_some (get_field (set_field hash word value) field) ≡ (is_some (get_field hash field) || (bytes_eq field word || false))
found-set [] word value field = elim (cases_Bool (bytes_eq field word)) [ inl y ↦ rw y refl | inr n ↦ rw n refl ]
found-set (pair ∷ hash) word value field =
    elim (cases_Bool (bytes_eq word pair.0)) [
      | inl here ↦
          let same : word ≡ pair.0 = (bytes_eq-Decides word pair.0).0 here in
          elim (cases_Bool (bytes_eq field pair.0)) [
            | inl y ↦ rw (here, y) refl
            | inr n ↦ rw (here, same, n) (sym (or-false (is_some (get_field hash field))))
          ]
      | inr away ↦ elim (cases_Bool (bytes_eq field pair.0)) [
        | inl y ↦ rw (away, y) refl
        | inr n ↦ rw (away, n) (found-set hash word value field)
      ]
    ]

-- the fields so far, and one more
pub set-next : (old new : Hash) (fields : List (List ℕ)) (i : ℕ) (word value : List ℕ) → i < length fields → word ≡ slice_index_or fields i [] → new ≡ set_field old word value
    → ((field : List ℕ) → is_some (get_field old field) ≡ list_any (bytes_eq field) (take i fields)) → (field : List ℕ) → is_some (get_field new field) ≡ list_any (bytes_eq field) (take (i + 1) fields)
set-next old new fields i word value within is set before field =
    let more : take (i + 1) fields ≡ take i fields ++ word ∷ [] = take_more fields i [] within ∙ ap (λ (w : List ℕ). take i fields ++ w ∷ []) (sym is) in
    let now : list_any (bytes_eq field) (take (i + 1) fields) ≡ (list_any (bytes_eq field) (take i fields) || (bytes_eq field word || false)) =
    ap (list_any (bytes_eq field)) more ∙ list_any-append (bytes_eq field) (take i fields) (word ∷ []) in
    ap (λ (h : Hash). is_some (get_field h field)) set
    ∙ (found-set old word value field ∙ (ap (λ (b : Bool). b || (bytes_eq field word || false)) (before field) ∙ sym now))

-- no field of the second is in the first
abbrev Apart : Hash → Hash → Type 0
Apart left [] = Unit {0}
Apart left (pair ∷ rest) = (get_field left pair.0 ≡ None) × Apart left rest

apart-none : (rest : Hash) → Apart [] rest
apart-none [] = tt
apart-none (pair ∷ rest) = (refl, apart-none rest)

-- a new field goes last
set-new : (left : Hash) (field value : List ℕ) → get_field left field ≡ None → set_field left field value ≡ left ++ (field, value) ∷ []
set-new [] field value new = refl
set-new (pair ∷ left) field value new = elim (cases_Bool (bytes_eq field pair.0)) [
  | inl y ↦ let said : ◌≡◌ {A = Option (List ℕ)} (Some pair.1) None = rw y at new in absurd (cc (said))
  | inr n ↦ let later : get_field left field ≡ None = rw n at new in rw n (ap (λ rest. pair ∷ rest) (set-new left field value later))
]

none-push : (left : Hash) (field value other : List ℕ) → get_field left other ≡ None → bytes_eq other field ≡ false → get_field (left ++ (field, value) ∷ []) other ≡ None
none-push [] field value other none apart = rw apart refl
none-push (pair ∷ left) field value other none apart = elim (cases_Bool (bytes_eq other pair.0)) [
  | inl y ↦ let said : ◌≡◌ {A = Option (List ℕ)} (Some pair.1) None = rw y at none in absurd (cc (said))
  | inr n ↦ let later : get_field left other ≡ None = rw n at none in rw n (none-push left field value other later apart)
]

apart-push : (left rest : Hash) (field value : List ℕ) → Apart left rest → AllByRecursion (λ y. bytes_eq field y ≡ false) (keys_of rest) → Apart (left ++ (field, value) ∷ []) rest
apart-push left [] field value apart others = tt
apart-push left (pair ∷ rest) field value apart others =
    (none-push left field value pair.0 apart.0 (same_bytes.symm pair.0 field ∙ others.0), apart-push left rest field value apart.1 others.1)

-- How far a copy of the fields that pass a test has come: these are copied, and those are to come.
pub record Copies (keep : List ℕ × List ℕ → Bool) (hash left rest : Hash) : Type 0 where
  pub whole : left ++ filter keep rest ≡ filter keep hash
  pub apart : Apart left rest
  pub distinct : IsDistinct bytes_eq (keys_of rest)

pub copies-none : (keep : List ℕ × List ℕ → Bool) (hash : Hash) → HasDistinctFields hash → Copies keep hash [] hash
copies-none keep hash distinct = record { whole = refl; apart = apart-none hash; distinct = distinct }

copied : (keep : List ℕ × List ℕ → Bool) (hash left new rest : Hash) (pair : List ℕ × List ℕ) → keep pair ≡ true → new ≡ set_field left pair.0 pair.1 → Copies keep hash left (pair ∷ rest) → Copies keep hash new rest
copied keep hash left new rest pair kept set before =
    let more : new ≡ left ++ pair ∷ [] = set ∙ set-new left pair.0 pair.1 before.apart.0 in
    let whole : left ++ pair ∷ filter keep rest ≡ filter keep hash = rw kept at before.whole in
    record {
      whole = ap (λ (h : Hash). h ++ filter keep rest) more ∙ (append_assoc left (pair ∷ []) (filter keep rest) ∙ whole);
      apart = subst (λ (h : Hash). Apart h rest) (sym more) (apart-push left rest pair.0 pair.1 before.apart.1 (IsDistinct-head bytes_eq pair.0 (keys_of rest) before.distinct));
      distinct = IsDistinct-tail bytes_eq pair.0 (keys_of rest) before.distinct;
    }

passed : (keep : List ℕ × List ℕ → Bool) (hash left rest : Hash) (pair : List ℕ × List ℕ) → keep pair ≡ false → Copies keep hash left (pair ∷ rest) → Copies keep hash left rest
passed keep hash left rest pair kept before =
    let whole : left ++ filter keep rest ≡ filter keep hash = rw kept at before.whole in
    record { whole = whole; apart = before.apart.1; distinct = IsDistinct-tail bytes_eq pair.0 (keys_of rest) before.distinct }

-- the next field is copied, or passed over where another hash has it
pub copies-next : (gone hash left new next rest : Hash) (pair : List ℕ × List ℕ) → next ≡ pair ∷ rest
    → new ≡ (if is_some (get_field gone pair.0) then left else set_field left pair.0 pair.1)
    → Copies (λ (field : List ℕ × List ℕ). not (is_some (get_field gone field.0))) hash left next → Copies (λ (field : List ℕ × List ℕ). not (is_some (get_field gone field.0))) hash new rest
copies-next gone hash left new next rest pair first set before =
    let keep = λ (field : List ℕ × List ℕ). not (is_some (get_field gone field.0)) in
    let begun = subst (Copies keep hash left) first before in
    elim (cases_Bool (is_some (get_field gone pair.0))) [
      | inl there ↦ subst (λ (h : Hash). Copies keep hash h rest) (sym (rw there at set)) (passed keep hash left rest pair (ap not there) begun)
      | inr away ↦ copied keep hash left new rest pair (ap not away) (rw away at set) begun
    ]

-- all that pass are copied
pub copies-done : (keep : List ℕ × List ℕ → Bool) (hash left : Hash) → Copies keep hash left [] → left ≡ filter keep hash
copies-done keep hash left done = sym (append-nil left) ∙ done.whole

-- no more fields than before
pub filter-fewer : (keep : List ℕ × List ℕ → Bool) (hash : Hash) → length (filter keep hash) ≤ length hash
filter-fewer keep hash = omega (arith, length-filter_both keep (λ (f : List ℕ × List ℕ). not (keep f)) (λ f. refl) hash)

-- what a set of fields has is what was named
pub left-named : (hash set : Hash) (fields : List (List ℕ)) → ((field : List ℕ) → is_some (get_field set field) ≡ list_any (bytes_eq field) fields)
    → filter (λ (field : List ℕ × List ℕ). not (is_some (get_field set field.0))) hash ≡ without_fields hash fields
left-named [] set fields named = refl
left-named (pair ∷ hash) set fields named =
    let here : is_some (get_field set pair.0) ≡ list_any (bytes_eq pair.0) fields = named pair.0 in
    elim (cases_Bool (list_any (bytes_eq pair.0) fields)) [
      | inl y ↦ rw (here, y) (left-named hash set fields named)
      | inr n ↦ rw (here, n) (ap (λ rest. pair ∷ rest) (left-named hash set fields named))
    ]
