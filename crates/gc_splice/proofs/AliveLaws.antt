-- Which entries are live, of lists one behind another.
use Rattle.std.proofs.Common.{◌≡◌, ℕ, suc, ◌≤◌, ◌+◌, ◌∷◌, [], ◌++◌, List, length, take, Bool, true, false, cond, ◌&&◌, refl, ap, ◌∙◌, arith, ◌<◌, filter, map}
use Rattle.std.specs.List.{AllByRecursion}
use Rattle.std.proofs.lemmas.List.Elements.{filter-append}
use Rattle.gc_splice.specs.Alive.{alive, all_alive}

pub and_false : (b : Bool) → (b && false) ≡ false
and_false true = refl
and_false false = refl

module _ {P : Type 0} where
  pub recursion_first : (F : ℕ × P → Type 0) (xs ys : List (ℕ × P)) → AllByRecursion F (xs ++ ys) → AllByRecursion F xs
  recursion_first F [] ys a = tt
  recursion_first F (x ∷ xs) ys a = (a.0, recursion_first F xs ys a.1)

  pub recursion_second : (F : ℕ × P → Type 0) (xs ys : List (ℕ × P)) → AllByRecursion F (xs ++ ys) → AllByRecursion F ys
  recursion_second F [] ys a = a
  recursion_second F (x ∷ xs) ys a = recursion_second F xs ys a.1

module _ {P : Type 0} (live : ℕ → Bool) where
  pub alive_append : (xs ys : List (ℕ × P)) → alive live (xs ++ ys) ≡ alive live xs ++ alive live ys
  alive_append xs ys = filter-append (λ e. live e.0) xs ys

  pub all_append : (xs ys : List (ℕ × P)) → all_alive live (xs ++ ys) ≡ (all_alive live xs && all_alive live ys)
  all_append [] ys = refl
  all_append (x ∷ xs) ys = by (live x.0) (all_append xs ys)
    where
      by : (b : Bool) → all_alive live (xs ++ ys) ≡ (all_alive live xs && all_alive live ys) → (b && all_alive live (xs ++ ys)) ≡ ((b && all_alive live xs) && all_alive live ys)
      by true h = h
      by false h = refl

  -- one more entry that is live
  pub all_more : (es : List (ℕ × P)) (i : ℕ) (e : ℕ × P) → take (i + 1) es ≡ take i es ++ e ∷ [] → live e.0 ≡ true → all_alive live (take i es) ≡ true → all_alive live (take (i + 1) es) ≡ true
  all_more es i e h t a = ap (λ x. all_alive live x) h ∙ all_append (take i es) (e ∷ []) ∙ ap (λ b. b && (live e.0 && true)) a ∙ ap (λ b. b && true) t

  -- an entry that is dead
  pub all_not : (es xs : List (ℕ × P)) (e : ℕ × P) (more : List (ℕ × P)) → es ≡ xs ++ e ∷ more → live e.0 ≡ false → all_alive live es ≡ false
  all_not es xs e more h t = ap (λ x. all_alive live x) h ∙ all_append xs (e ∷ more) ∙ ap (λ b. all_alive live xs && (b && all_alive live more)) t ∙ and_false (all_alive live xs)

  fewer_step : (e : ℕ × P) (es : List (ℕ × P)) → length (alive live es) ≤ length es → (b : Bool) → length (cond b (e ∷ alive live es) (alive live es)) ≤ suc (length es)
  fewer_step e es h true = omega (arith, h)
  fewer_step e es h false = omega (arith, h)

  pub fewer_alive : (es : List (ℕ × P)) → length (alive live es) ≤ length es
  fewer_alive [] = omega arith
  fewer_alive (e ∷ es) = fewer_step e es (fewer_alive es) (live e.0)

  -- where each entry is live, all stay
  pub all_kept : (es : List (ℕ × P)) → all_alive live es ≡ true → alive live es ≡ es
  all_kept [] h = refl
  all_kept (e ∷ es) h = by (live e.0) (all_kept es) h
    where
      by : (b : Bool) → (all_alive live es ≡ true → alive live es ≡ es) → (b && all_alive live es) ≡ true → cond b (e ∷ alive live es) (alive live es) ≡ e ∷ es
      by true more k = ap (λ x. e ∷ x) (more k)
      by false more k = absurd (let no : ⊥ = cc (k) in no)

  -- where as many are live as there are, each is
  pub all_counted : (es : List (ℕ × P)) → length (alive live es) ≡ length es → all_alive live es ≡ true
  all_counted [] h = refl
  all_counted (e ∷ es) h = by (live e.0) (fewer_alive es) (all_counted es) h
    where
      by : (b : Bool) → length (alive live es) ≤ length es → (length (alive live es) ≡ length es → all_alive live es ≡ true) → length (cond b (e ∷ alive live es) (alive live es)) ≡ suc (length es) → (b && all_alive live es) ≡ true
      by true few same l = same (omega (arith, l))
      by false few same l = absurd (omega (arith, few, l))

  -- where fewer are live than there are, not each is
  pub not_all : (es : List (ℕ × P)) → length (alive live es) < length es → all_alive live es ≡ false
  not_all es few = by (all_alive live es) refl
    where
      by : (b : Bool) → all_alive live es ≡ b → b ≡ false
      by true h = absurd (omega (arith, few, ap length (all_kept es h)))
      by false h = refl

  -- as many ids are live as entries
  pub counted_ids : (es : List (ℕ × P)) → length (filter live (map (λ e. e.0) es)) ≡ length (alive live es)
  counted_ids [] = refl
  counted_ids (e ∷ es) = by (live e.0) (counted_ids es)
    where
      by : (b : Bool) → length (filter live (map (λ e. e.0) es)) ≡ length (alive live es) → length (cond b (e.0 ∷ filter live (map (λ e. e.0) es)) (filter live (map (λ e. e.0) es))) ≡ length (cond b (e ∷ alive live es) (alive live es))
      by true h = ap (λ n. suc n) h
      by false h = h

  -- what holds of each entry holds of each that is live
  pub all_of_alive : (Q : ℕ × P → Type 0) (es : List (ℕ × P)) → AllByRecursion Q es → AllByRecursion Q (alive live es)
  all_of_alive Q [] a = tt
  all_of_alive Q (e ∷ es) a = by (live e.0) (all_of_alive Q es a.1)
    where
      by : (b : Bool) → AllByRecursion Q (alive live es) → AllByRecursion Q (cond b (e ∷ alive live es) (alive live es))
      by true more = (a.0, more)
      by false more = more
