-- Groups of items that are the same, where that is to have equal keys.
use Rattle.std.proofs.Common.{◌≡◌, Bool, true, false, not, cond, List, [], ◌∷◌, ◌++◌, map, refl, ◌∙◌, ap, inl, inr}
use Rattle.std.specs.Prelude.{filter}
use Rattle.std.specs.Bool.{Decides}
use Rattle.std.proofs.lemmas.Bool.{cases_Bool}
use Rattle.agg_pipeline.specs.Groups.{firsts, groups, members}
use Rattle.agg_pipeline.specs.Keyed.{add_first, by_key, items_of, keys_in}
use Rattle.agg_pipeline.proofs.KeyedLaws.{turned}

module _ {X K : Type 0} (eq : K → K → Bool) (decides : (a b : K) → Decides (eq a b) (a ≡ b)) (key : X → K) where
  abbrev pub same : X → X → Bool
  same x y = eq (key x) (key y)

  -- a filter that does not tell the same items apart, of which one may come last
  filter-add_first : (p : X → Bool) → ((x y : X) → same x y ≡ true → p x ≡ p y) → (zs : List X) (x : X)
      → filter p (add_first same zs x) ≡ cond (p x) (add_first same (filter p zs) x) (filter p zs)
  filter-add_first p blind [] x = refl
  filter-add_first p blind (z ∷ zs) x =
      elim (cases_Bool (same x z)) [
        | inl alike ↦
            elim (cases_Bool (p z)) [
              | inl kept ↦ rw (alike, blind x z alike, kept, alike) refl
              | inr gone ↦ rw (alike, blind x z alike, gone) refl
            ]
        | inr apart ↦
            elim (cases_Bool (p z)) [
              | inl kept ↦ elim (cases_Bool (p x)) [
                | inl last ↦ rw (apart, kept, last, apart) (ap (λ rest. z ∷ rest) (filter-add_first p blind zs x ∙ rw last refl))
                | inr away ↦ rw (apart, kept, away) (ap (λ rest. z ∷ rest) (filter-add_first p blind zs x ∙ rw away refl))
              ]
              | inr gone ↦ rw (apart, gone) (filter-add_first p blind zs x)
            ]
      ]

  -- the first items, once one more came
  pub firsts-push : (xs : List X) (x : X) → firsts same (xs ++ x ∷ []) ≡ add_first same (firsts same xs) x
  firsts-push [] x = refl
  firsts-push (y ∷ ys) x =
      ap (λ rest. y ∷ filter (λ z. not (same y z)) rest) (firsts-push ys x)
      ∙ (ap (λ rest. y ∷ rest) (filter-add_first (λ z. not (same y z)) (λ a b alike. ap (λ k. not (eq (key y) k)) ((decides (key a) (key b)).0 alike)) (firsts same ys) x)
      ∙ by_test (filter (λ z. not (same y z)) (firsts same ys)) (same y x) refl)
    where
      by_test : (others : List X) (r : Bool) → same y x ≡ r → y ∷ cond (not r) (add_first same others x) others ≡ add_first same (y ∷ others) x
      by_test others true is = rw (turned eq decides (key y) (key x) true is) refl
      by_test others false is = rw (turned eq decides (key y) (key x) false is) refl

  filter-map : (p : K → Bool) (zs : List X) → filter p (map key zs) ≡ map key (filter (λ z. p (key z)) zs)
  filter-map p [] = refl
  filter-map p (z ∷ zs) =
      elim (cases_Bool (p (key z))) [
        | inl kept ↦ rw kept (ap (λ rest. key z ∷ rest) (filter-map p zs))
        | inr gone ↦ rw gone (filter-map p zs)
      ]

  -- the keys are those of the first items
  keys-firsts : (xs : List X) → keys_in eq key xs ≡ map key (firsts same xs)
  keys-firsts [] = refl
  keys-firsts (x ∷ xs) =
      ap (λ rest. key x ∷ filter (λ k. not (eq (key x) k)) rest) (keys-firsts xs)
      ∙ ap (λ rest. key x ∷ rest) (filter-map (λ k. not (eq (key x) k)) (firsts same xs))

  -- what is made of the items of each key is what is made of each group
  pub each_group : {A B : Type 0} (made : List X → A) (f : K × A → B) (g : List X → B) → ((k : K) (ys : List X) → f (k, made ys) ≡ g ys) → (xs : List X)
      → map f (by_key eq key made xs) ≡ map g (groups same xs)
  each_group {A} {B} made f g is xs = ap (λ keys. map f (map (λ k. (k, made (items_of eq key xs k))) keys)) (keys-firsts xs) ∙ by_first (firsts same xs)
    where
      by_first : (zs : List X) → map f (map (λ k. (k, made (items_of eq key xs k))) (map key zs)) ≡ map g (map (members same xs) zs)
      by_first [] = refl
      by_first (z ∷ zs) =
          ap (λ b. b ∷ map f (map (λ k. (k, made (items_of eq key xs k))) (map key zs))) (is (key z) (items_of eq key xs (key z)))
          ∙ ap (λ (rest : List B). g (members same xs z) ∷ rest) (by_first zs)
