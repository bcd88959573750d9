-- Groups that are worked out item by item are those of the whole list.
use Rattle.std.specs.Prelude.{◌≡◌, Bool, true, false, not, cond, ◌||◌, List, [], ◌∷◌, ◌++◌, map, filter, fold, refl}
use Rattle.std.proofs.Common.{sym, ◌∙◌, ap, subst, inl, inr, true≢false, append-nil, append_assoc}
use Rattle.std.specs.Bool.{Decides}
use Rattle.std.specs.List.{AllByRecursion, IsDistinct, list_any}
use Rattle.std.proofs.lemmas.Bool.{cases_Bool}
use Rattle.std.proofs.lemmas.List.Elements.{filter-append}
use Rattle.agg_pipeline.specs.Keyed.{add_first, by_key, items_of, keys_in, note}

module _ {K : Type 0} (eq : K → K → Bool) (decides : (a b : K) → Decides (eq a b) (a ≡ b)) where
  eq-refl : (a : K) → eq a a ≡ true
  eq-refl a = (decides a a).1 refl

  -- the tests of two keys in turn
  pub turned : (a b : K) (r : Bool) → eq a b ≡ r → eq b a ≡ r
  turned a b true is = (decides b a).1 (sym ((decides a b).0 is))
  turned a b false is =
      elim (cases_Bool (eq b a)) [
        | inl same ↦ absurd (true≢false (sym ((decides a b).1 (sym ((decides b a).0 same))) ∙ is))
        | inr apart ↦ apart
      ]

  -- a filter of keys, of which one may come last
  filter-add_first : (p : K → Bool) (ks : List K) (k : K) → filter p (add_first eq ks k) ≡ cond (p k) (add_first eq (filter p ks) k) (filter p ks)
  filter-add_first p [] k = refl
  filter-add_first p (j ∷ js) k =
      elim (cases_Bool (eq k j)) [
        | inl same ↦
            elim (cases_Bool (p j)) [
              | inl kept ↦ rw (same, ap p ((decides k j).0 same), kept, same) refl
              | inr gone ↦ rw (same, ap p ((decides k j).0 same), gone) refl
            ]
        | inr apart ↦
            elim (cases_Bool (p j)) [
              | inl kept ↦ elim (cases_Bool (p k)) [
                | inl last ↦ rw (apart, kept, last, apart) (ap (λ rest. j ∷ rest) (filter-add_first p js k ∙ rw last refl))
                | inr away ↦ rw (apart, kept, away) (ap (λ rest. j ∷ rest) (filter-add_first p js k ∙ rw away refl))
              ]
              | inr gone ↦ rw (apart, gone) (filter-add_first p js k)
            ]
      ]

  -- a filter leaves keys apart
  each-filter : (P : K → Type 0) (p : K → Bool) (ks : List K) → AllByRecursion P ks → AllByRecursion P (filter p ks)
  each-filter P p [] each = tt
  each-filter P p (k ∷ ks) each =
      elim (cases_Bool (p k)) [
        | inl kept ↦ rw kept (each.0, each-filter P p ks each.1)
        | inr gone ↦ rw gone (each-filter P p ks each.1)
      ]

  distinct-filter : (p : K → Bool) (ks : List K) → IsDistinct eq ks → IsDistinct eq (filter p ks)
  unfolding IsDistinct
  distinct-filter p [] apart = tt
  distinct-filter p (k ∷ ks) apart =
      elim (cases_Bool (p k)) [
        | inl kept ↦ rw kept (each-filter (λ j. eq k j ≡ false) p ks apart.0, distinct-filter p ks apart.1)
        | inr gone ↦ rw gone (distinct-filter p ks apart.1)
      ]

  each-others : (k : K) (ks : List K) → AllByRecursion (λ j. eq k j ≡ false) (filter (λ j. not (eq k j)) ks)
  each-others k [] = tt
  each-others k (j ∷ js) =
      elim (cases_Bool (eq k j)) [
        | inl same ↦ rw same (each-others k js)
        | inr apart ↦ rw apart (apart, each-others k js)
      ]

  -- whether a key is among others, once those of another key are gone
  any-others : (k other : K) (ks : List K) → eq k other ≡ false → list_any (eq k) (filter (λ j. not (eq other j)) ks) ≡ list_any (eq k) ks
  any-others k other [] apart = refl
  any-others k other (j ∷ js) apart =
      elim (cases_Bool (eq other j)) [
        | inl same ↦ rw (same, sym (ap (eq k) ((decides other j).0 same)), apart) (any-others k other js apart)
        | inr kept ↦ rw kept (ap (λ rest. eq k j || rest) (any-others k other js apart))
      ]

  module _ {X : Type 0} (key : X → K) where
    pub keys-push : (xs : List X) (x : X) → keys_in eq key (xs ++ x ∷ []) ≡ add_first eq (keys_in eq key xs) (key x)
    keys-push [] x = refl
    keys-push (y ∷ ys) x =
        ap (λ rest. key y ∷ filter (λ k. not (eq (key y) k)) rest) (keys-push ys x)
        ∙ (ap (λ rest. key y ∷ rest) (filter-add_first (λ k. not (eq (key y) k)) (keys_in eq key ys) (key x))
        ∙ by_test (filter (λ k. not (eq (key y) k)) (keys_in eq key ys)) (eq (key y) (key x)) refl)
      where
        by_test : (others : List K) (r : Bool) → eq (key y) (key x) ≡ r → key y ∷ cond (not r) (add_first eq others (key x)) others ≡ add_first eq (key y ∷ others) (key x)
        by_test others true is = rw (turned (key y) (key x) true is) refl
        by_test others false is = rw (turned (key y) (key x) false is) refl

    distinct-keys : (xs : List X) → IsDistinct eq (keys_in eq key xs)
    unfolding IsDistinct
    distinct-keys [] = tt
    distinct-keys (x ∷ xs) = (each-others (key x) (keys_in eq key xs), distinct-filter (λ k. not (eq (key x) k)) (keys_in eq key xs) (distinct-keys xs))

    -- a key that is not among the keys has no items
    items-none : (xs : List X) (k : K) → list_any (eq k) (keys_in eq key xs) ≡ false → items_of eq key xs k ≡ []
    items-none [] k none = refl
    items-none (x ∷ xs) k none =
        elim (cases_Bool (eq k (key x))) [
          | inl same ↦ absurd (true≢false (rw same at none))
          | inr apart ↦
              let rest : list_any (eq k) (filter (λ j. not (eq (key x) j)) (keys_in eq key xs)) ≡ false = rw apart at none in
              rw apart (items-none xs k (sym (any-others k (key x) (keys_in eq key xs) apart) ∙ rest))
        ]

    module _ {A : Type 0} (made : List X → A) (add : A → X → A) (start : A) (empty : made [] ≡ start) (push : (xs : List X) (x : X) → made (xs ++ x ∷ []) ≡ add (made xs) x) where
      -- what is made of a key's items once one more came
      made-same : (xs : List X) (x : X) (k : K) → eq k (key x) ≡ true → made (items_of eq key (xs ++ x ∷ []) k) ≡ add (made (items_of eq key xs k)) x
      made-same xs x k same = ap made (filter-append (λ y. eq k (key y)) xs (x ∷ []) ∙ rw same refl) ∙ push (items_of eq key xs k) x

      made-other : (xs : List X) (x : X) (k : K) → eq k (key x) ≡ false → made (items_of eq key (xs ++ x ∷ []) k) ≡ made (items_of eq key xs k)
      made-other xs x k apart = ap made (filter-append (λ y. eq k (key y)) xs (x ∷ []) ∙ (rw apart (append-nil (items_of eq key xs k))))

      abbrev entry : List X → K → K × A
      entry xs k = (k, made (items_of eq key xs k))

      others-same : (xs : List X) (x : X) (ks : List K) → AllByRecursion (λ k. eq (key x) k ≡ false) ks → map (entry (xs ++ x ∷ [])) ks ≡ map (entry xs) ks
      others-same xs x [] each = refl
      others-same xs x (k ∷ ks) each =
          ap (λ a. (k, a) ∷ map (entry (xs ++ x ∷ [])) ks) (made-other xs x k (turned (key x) k false each.0))
          ∙ ap (λ rest. entry xs k ∷ rest) (others-same xs x ks each.1)

      note-keys : (xs : List X) (x : X) (ks : List K) → IsDistinct eq ks → (list_any (eq (key x)) ks ≡ false → items_of eq key xs (key x) ≡ [])
          → map (entry (xs ++ x ∷ [])) (add_first eq ks (key x)) ≡ note eq key add start (map (entry xs) ks) x
      unfolding IsDistinct
      note-keys xs x [] apart none =
          ap (λ a. (key x, a) ∷ []) (made-same xs x (key x) (eq-refl (key x)) ∙ ap (λ a. add a x) (ap made (none refl) ∙ empty))
      note-keys xs x (k ∷ ks) apart none =
          elim (cases_Bool (eq (key x) k)) [
            | inl same ↦
                let each : AllByRecursion (λ j. eq (key x) j ≡ false) ks = subst (λ j. AllByRecursion (λ i. eq j i ≡ false) ks) (sym ((decides (key x) k).0 same)) apart.0 in
                rw same
                (ap (λ a. (k, a) ∷ map (entry (xs ++ x ∷ [])) ks) (made-same xs x k (turned (key x) k true same))
                ∙ ap (λ rest. (k, add (made (items_of eq key xs k)) x) ∷ rest) (others-same xs x ks each))
            | inr differ ↦
                rw differ
                (ap (λ a. (k, a) ∷ map (entry (xs ++ x ∷ [])) (add_first eq ks (key x))) (made-other xs x k (turned (key x) k false differ))
                ∙ ap (λ rest. entry xs k ∷ rest) (note-keys xs x ks apart.1 (λ missing. none (rw differ missing))))
          ]

      -- one more item is noted in the table of the groups
      pub by_key-push : (xs : List X) (x : X) → by_key eq key made (xs ++ x ∷ []) ≡ note eq key add start (by_key eq key made xs) x
      by_key-push xs x = ap (map (entry (xs ++ x ∷ []))) (keys-push xs x) ∙ note-keys xs x (keys_in eq key xs) (distinct-keys xs) (items-none xs (key x))

      -- and so to take the items in as they come gives what is made of the items of each key
      pub folded : (ys xs : List X) → fold (note eq key add start) (by_key eq key made ys) xs ≡ by_key eq key made (ys ++ xs)
      folded ys [] = ap (by_key eq key made) (sym (append-nil ys))
      folded ys (x ∷ xs) =
          ap (λ table. fold (note eq key add start) table xs) (sym (by_key-push ys x))
          ∙ (folded (ys ++ x ∷ []) xs ∙ ap (by_key eq key made) (append_assoc ys (x ∷ []) xs))
