-- Names counted in two ways: how many each document has, and how many documents have each.
use Rattle.std.proofs.Common.{◌≡◌, ◌≢◌, ℕ, suc, zero, ◌+◌, ◌≤◌, Bool, false, true, cond, not, ◌||◌, List, [], ◌∷◌, length, refl, ap, sym, subst, inl, inr, ◌∙◌, arith, nat_eq, Some}
use Rattle.std.proofs.lemmas.Bool.{cases_Bool, ne_eqb}
use Rattle.std.proofs.lemmas.List.Sums.{sum_by-cons}
use Rattle.std.specs.Cmp.Lexicographic.{bytes_decides, nat_list_eq_equiv}
use Rattle.std.specs.List.{count_by, filter, list_any, sum_by}
use Rattle.std.specs.Prelude.{slice_get}
use Rattle.std.specs.Set.{distinct_count, unique_keys}
use Rattle.std.specs.Str.{bytes_eq}
use Rattle.term_dict.specs.Tags.{FieldTags, entries_in_fields, tags_of}
use Rattle.term_dict.specs.Terms.{Lists, entries_in_all, entries_of}
use Rattle.ft_index.specs.Tagging.{AreApart}
use Rattle.ft_index.proofs.AliveLaws.{same-yes}

-- sums, element by element
module _ {X : Type 0} where
  pub sum-le : (f g : X → ℕ) → ((x : X) → f x ≤ g x) → (xs : List X) → sum_by f xs ≤ sum_by g xs
  sum-le f g h [] = omega arith
  sum-le f g h (x ∷ xs) = omega (arith, sum_by-cons f x xs, sum_by-cons g x xs, h x, sum-le f g h xs)

  pub sum-plus : (f g : X → ℕ) (xs : List X) → sum_by (λ x. f x + g x) xs ≡ sum_by f xs + sum_by g xs
  sum-plus f g [] = refl
  sum-plus f g (x ∷ xs) = omega (arith, sum_by-cons (λ y. f y + g y) x xs, sum_by-cons f x xs, sum_by-cons g x xs, sum-plus f g xs)

  pub sum-none : (f : X → ℕ) → ((x : X) → f x ≡ 0) → (xs : List X) → sum_by f xs ≡ 0
  sum-none f h [] = refl
  sum-none f h (x ∷ xs) = omega (arith, sum_by-cons f x xs, h x, sum-none f h xs)

  pub count-cons : (p : X → Bool) (x : X) (xs : List X) → count_by p (x ∷ xs) ≡ cond (p x) 1 0 + count_by p xs
  count-cons p x xs = sum_by-cons (λ y. cond (p y) 1 0) x xs

  count-none : (p : X → Bool) → ((x : X) → p x ≡ false) → (xs : List X) → count_by p xs ≡ 0
  count-none p h xs = sum-none (λ x. cond (p x) 1 0) (λ x. rw (h x) refl) xs

  pub count-same : (p q : X → Bool) → ((x : X) → p x ≡ q x) → (xs : List X) → count_by p xs ≤ count_by q xs
  count-same p q h xs = sum-le (λ x. cond (p x) 1 0) (λ x. cond (q x) 1 0) (λ x. rw (h x) (omega arith)) xs

-- one, where something is so
abbrev pub one_if : Bool → ℕ
one_if b = cond b 1 0

-- sums over two lists may be taken in either order
pub sum-turned : {X Y : Type 0} (g : X → Y → ℕ) (xs : List X) (ys : List Y) → sum_by (λ x. sum_by (g x) ys) xs ≤ sum_by (λ y. sum_by (λ x. g x y) xs) ys
sum-turned g xs [] = omega (arith, sum-none (λ x. 0) (λ x. refl) xs)
sum-turned g xs (y ∷ ys) =
    omega (
      arith,
      sum-le (λ x. sum_by (g x) (y ∷ ys)) (λ x. g x y + sum_by (g x) ys) (λ x. omega (arith, sum_by-cons (g x) y ys)) xs,
      sum-plus (λ x. g x y) (λ x. sum_by (g x) ys) xs,
      sum-turned g xs ys,
      sum_by-cons (λ z. sum_by (λ x. g x z) xs) y ys,
    )

one-most : (b : Bool) → cond b 1 0 ≤ 1
one-most true = omega arith
one-most false = omega arith

pub same-name : (name : List ℕ) → bytes_eq name name ≡ true
same-name name = nat_list_eq_equiv.refl name

-- names but one
abbrev pub others : List ℕ → List (List ℕ) → List (List ℕ)
others name names = filter (λ other. not (bytes_eq name other)) names

abbrev pub distinct : List (List ℕ) → ℕ
distinct names = distinct_count bytes_eq names

any-own : (name : List ℕ) (names : List (List ℕ)) → list_any (bytes_eq name) (others name names) ≡ false
any-own name [] = refl
any-own name (first ∷ names) = elim (cases_Bool (bytes_eq name first)) [
  | inl y ↦ rw y (any-own name names)
  | inr n ↦ rw (n, n) (any-own name names)
]

pub any-other : (name other : List ℕ) (names : List (List ℕ)) → bytes_eq name other ≡ false → list_any (bytes_eq other) (others name names) ≡ list_any (bytes_eq other) names
any-other name other [] apart = refl
any-other name other (first ∷ names) apart = elim (cases_Bool (bytes_eq name first)) [
  | inl y ↦
      let same : name ≡ first = (bytes_decides name first).0 y in
      let away : bytes_eq other first ≡ false = ap (bytes_eq other) (sym same) ∙ (nat_list_eq_equiv.symm other name ∙ apart) in
      rw (y, away) (any-other name other names apart)
  | inr n ↦ rw n (ap (λ (b : Bool). bytes_eq other first || b) (any-other name other names apart))
]

-- without one of them there is at most one less
distinct-others : (name : List ℕ) (names : List (List ℕ)) → distinct names ≤ distinct (others name names) + cond (list_any (bytes_eq name) names) 1 0
distinct-others name [] = omega arith
distinct-others name (first ∷ names) = elim (cases_Bool (bytes_eq name first)) [
  | inl y ↦ elim (cases_Bool (list_any (bytes_eq first) names)) [
    | inl m ↦ rw (y, m) (omega (arith, distinct-others name names, one-most (list_any (bytes_eq name) names)))
    | inr m ↦
        let none : list_any (bytes_eq name) names ≡ false = ap (λ (n : List ℕ). list_any (bytes_eq n) names) ((bytes_decides name first).0 y) ∙ m in
        let rest : distinct names ≤ distinct (others name names) + 0 = rw none at (distinct-others name names) in
        rw (y, m) (omega (arith, rest))
  ]
  | inr n ↦ elim (cases_Bool (list_any (bytes_eq first) names)) [
    | inl m ↦
        let left : list_any (bytes_eq first) (others name names) ≡ true = any-other name first names n ∙ m in
        rw (n, left, m) (distinct-others name names)
    | inr m ↦
        let left : list_any (bytes_eq first) (others name names) ≡ false = any-other name first names n ∙ m in
        rw (n, left, m) (omega (arith, distinct-others name names))
  ]
]

-- names that are apart are distinct
pub distinct-apart : (names : List (List ℕ)) → AreApart names → unique_keys bytes_eq names ≡ names
distinct-apart [] apart = refl
distinct-apart (name ∷ names) apart = rw apart.0 (ap (λ rest. name ∷ rest) (distinct-apart names apart.1))

module _ {D : Type 0} where
  -- how many documents have a name
  abbrev pub having : (D → List (List ℕ)) → List ℕ → List D → ℕ
  having names name docs = count_by (λ d. list_any (bytes_eq name) (names d)) docs

  -- how many names all documents have
  abbrev pub named : (D → List (List ℕ)) → List D → ℕ
  named names docs = sum_by (λ d. distinct (names d)) docs

  named-others : (names : D → List (List ℕ)) (name : List ℕ) (docs : List D) → named names docs ≤ named (λ d. others name (names d)) docs + having names name docs
  named-others names name docs =
      omega (
        arith,
        sum-le (λ d. distinct (names d)) (λ d. distinct (others name (names d)) + cond (list_any (bytes_eq name) (names d)) 1 0) (λ d. distinct-others name (names d)) docs,
        sum-plus (λ d. distinct (others name (names d))) (λ d. cond (list_any (bytes_eq name) (names d)) 1 0) docs,
      )

  named-none : (names : D → List (List ℕ)) (docs : List D) → ((name : List ℕ) → having names name docs ≤ 0) → named names docs ≤ 0
  named-none names [] h = omega arith
  named-none names (d ∷ docs) h =
      omega (
        arith,
        sum_by-cons (λ e. distinct (names e)) d docs,
        by_names (names d) refl,
        named-none names docs (λ name. omega (arith, h name, count-cons (λ e. list_any (bytes_eq name) (names e)) d docs)),
      )
    where
      by_names : (ns : List (List ℕ)) → names d ≡ ns → distinct (names d) ≤ 0
      by_names [] is = rw is (omega arith)
      by_names (name ∷ rest) is =
          let has : list_any (bytes_eq name) (names d) ≡ true = rw (is, same-name name) refl in
          let one : one_if (list_any (bytes_eq name) (names d)) ≡ 1 = rw has refl in
          absurd (omega (arith, one, h name, count-cons (λ e. list_any (bytes_eq name) (names e)) d docs))

  -- where the list of each name has an entry for each document that has the name, the lists have one for each name of each document
  pub named-entered : {P : Type 0} (lists : Lists P) (names : D → List (List ℕ)) (docs : List D)
      → ((name : List ℕ) → having names name docs ≤ length (entries_of lists name)) → named names docs ≤ entries_in_all lists
  named-entered [] names docs h = named-none names docs h
  named-entered (row ∷ lists) names docs h =
      let own : having names row.0 docs ≤ length row.1.entries = rw (same-name row.0) at (h row.0) in
      omega (arith, named-entered lists (λ d. others row.0 (names d)) docs left, own, named-others names row.0 docs, sum_by-cons (λ r. length r.1.entries) row lists)
    where
      left : (name : List ℕ) → having (λ d. others row.0 (names d)) name docs ≤ length (entries_of lists name)
      left name = elim (cases_Bool (bytes_eq name row.0)) [
        | inl y ↦
            let same : name ≡ row.0 = (bytes_decides name row.0).0 y in
            omega (
              arith,
              count-none (λ d. list_any (bytes_eq name) (others row.0 (names d)))
                  (λ d. subst (λ n. list_any (bytes_eq n) (others row.0 (names d)) ≡ false) (sym same) (any-own row.0 (names d))) docs,
            )
        | inr n ↦
            let away : bytes_eq row.0 name ≡ false = nat_list_eq_equiv.symm row.0 name ∙ n in
            let here : having names name docs ≤ length (entries_of lists name) = rw n at (h name) in
            omega (
              arith,
              here,
              count-same (λ d. list_any (bytes_eq name) (others row.0 (names d))) (λ d. list_any (bytes_eq name) (names d))
                  (λ d. any-other row.0 name (names d) away) docs,
            )
      ]

-- counts by number, of as many numbers from 0 on as there are fields
abbrev pub numbered : {F : Type 0} → List F → (ℕ → ℕ) → ℕ
numbered [] x = 0
numbered (field ∷ fields) x = x 0 + numbered fields (λ i. x (suc i))

-- counts with none at one number
abbrev pub without_at : ℕ → (ℕ → ℕ) → ℕ → ℕ
without_at number x i = cond (nat_eq i number) 0 (x i)

module _ {F : Type 0} where
  pub numbered-over : (fields : List F) (y : F → ℕ) (x : ℕ → ℕ) → ((i : ℕ) (field : F) → slice_get fields i ≡ Some field → y field ≤ x i) → sum_by y fields ≤ numbered fields x
  numbered-over [] y x h = omega arith
  numbered-over (field ∷ fields) y x h =
      omega (arith, sum_by-cons y field fields, h 0 field refl, numbered-over fields y (λ i. x (suc i)) (λ i f is. h (suc i) f is))

  pub numbered-le : (fields : List F) (x y : ℕ → ℕ) → ((i : ℕ) → x i ≤ y i) → numbered fields x ≤ numbered fields y
  numbered-le [] x y h = omega arith
  numbered-le (field ∷ fields) x y h = omega (arith, h 0, numbered-le fields (λ i. x (suc i)) (λ i. y (suc i)) (λ i. h (suc i)))

  -- counts that are no lower but at one number
  numbered-but : (fields : List F) (x y : ℕ → ℕ) (at : ℕ) → ((i : ℕ) → i ≢ at → x i ≤ y i) → numbered fields x ≤ numbered fields y + x at
  numbered-but [] x y at h = omega arith
  numbered-but (field ∷ fields) x y zero h =
      omega (arith, numbered-le fields (λ i. x (suc i)) (λ i. y (suc i)) (λ i. h (suc i) (λ is. omega (arith, is))))
  numbered-but (field ∷ fields) x y (suc at) h =
      omega (arith, h 0 (λ is. omega (arith, is)), numbered-but fields (λ i. x (suc i)) (λ i. y (suc i)) at (λ i away. h (suc i) (λ is. away (omega (arith, is)))))

  -- the tags of the fields by number are all of them
  pub numbered-tags : (fields : List F) (lists : FieldTags) (x : ℕ → ℕ) → ((i : ℕ) → x i ≤ entries_in_all (tags_of lists i)) → numbered fields x ≤ entries_in_fields lists
  numbered-tags fields [] x h = omega (arith, numbered-le fields x (λ i. 0) h, numbered-zero fields)
    where
      numbered-zero : (fs : List F) → numbered fs (λ i. 0) ≡ 0
      numbered-zero [] = refl
      numbered-zero (f ∷ fs) = omega (arith, numbered-zero fs)
  numbered-tags fields (row ∷ lists) x h =
      let own : x row.0 ≤ entries_in_all row.1 = rw (same-yes row.0) at (h row.0) in
      omega (arith, own, numbered-but fields x (without_at row.0 x) row.0 kept, numbered-tags fields lists (without_at row.0 x) left, sum_by-cons (λ r. entries_in_all r.1) row lists)
    where
      kept : (i : ℕ) → i ≢ row.0 → x i ≤ without_at row.0 x i
      kept i away = rw (ne_eqb i row.0 away) (omega arith)

      left : (i : ℕ) → without_at row.0 x i ≤ entries_in_all (tags_of lists i)
      left i = elim (cases_Bool (nat_eq i row.0)) [
        | inl y ↦ rw y (omega arith)
        | inr n ↦
            let here : x i ≤ entries_in_all (tags_of lists i) = rw n at (h i) in
            rw n here
      ]
