-- What one more item changes.
use Rattle.std.proofs.Common.{◌≡◌, List, [], ◌∷◌, ◌++◌, Result, IfOk, map, sym, ap, ◌∙◌, subst}
use Rattle.std.specs.List.{All, AllByRecursion}
use Rattle.std.proofs.lemmas.List.{map-append}
use Rattle.std.proofs.lemmas.List.Elements.{All-append, All-from_recursion}
use Rattle.list_plan.specs.Plans.{Gains}
use Rattle.list_plan.proofs.UnionLaws.{all_apart, all_joined}

module _ {X E : Type 0} (made : Result X E) (old new : List X) (gains : Gains made old new) where
  -- a fact of what was made is one of the item
  pub of_item : (P : X → Type 0) → IfOk made P → P gains.item
  of_item P fact = subst (λ (r : Result X E). IfOk r P) gains.was fact

  pub all_more : (P : X → Type 0) → AllByRecursion P old → IfOk made P → AllByRecursion P new
  all_more P all fact = subst (AllByRecursion P) (sym gains.items) (all_joined P old (gains.item ∷ []) all (of_item P fact, tt))

  pub each_more : (P : X → Type 0) → All P old → IfOk made P → All P new
  each_more P all fact =
      subst (All P) (sym gains.items) (All-append P old (gains.item ∷ []) all (All-from_recursion P (gains.item ∷ []) (of_item P fact, tt)))

  -- what a fact of each saved so far, and saves at the item
  pub same_more : {B : Type 0} (P : X → Type 0) (a b c : B) → (AllByRecursion P old → b ≡ a) → IfOk made (λ x. P x → c ≡ b) → AllByRecursion P new → c ≡ a
  same_more P a b c before here all =
      let apart = all_apart P old (gains.item ∷ []) (subst (AllByRecursion P) gains.items all) in
      of_item (λ x. P x → c ≡ b) here apart.1.0 ∙ before apart.0

  pub map_more : {B : Type 0} (f : X → B) (b : B) (bs : List B) → map f old ≡ bs → IfOk made (λ x. f x ≡ b) → map f new ≡ bs ++ b ∷ []
  map_more f b bs before here =
      ap (map f) gains.items ∙ map-append f old (gains.item ∷ []) ∙ ap (λ xs. xs ++ f gains.item ∷ []) before ∙ ap (λ y. bs ++ y ∷ []) (of_item (λ x. f x ≡ b) here)
