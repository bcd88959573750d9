-- One layer of what an iterator stands for.
use Rattle.std.proofs.Common.{◌≡◌, ℕ, ◌+◌, true, false, not, List, [], ◌∷◌, map, max, refl, sym, ap, ◌∙◌, Box, Global}
use Rattle.std.specs.List.{AllByRecursion, flat_map}
use Rattle.std.proofs.lemmas.List.Folds.{flat_map-map}
use Rattle.id_iters.specs.Fitting.{ahead_leaves, leaves_of, leaves_of_ahead, leaves_step}
use Rattle.id_iters.specs.Held.{Held}
use Rattle.id_iters.specs.Leaves.{leaf_has, phrase_ids}
use Rattle.id_iters.specs.Places.{LeafReady, LeavesReady}
use Rattle.id_iters.specs.Ready.{ready_step, keeps_step, some_living, ReadyAt, AheadAt, Keeps}
use Rattle.id_iters.specs.Sets.{About, set_step, ahead_step, about, about_ahead, all_have, any_has, deepest, in_set}
use Rattle.id_iters.specs.Stretch.{Tells, Stretch, limit_of}
use Rattle.id_iters.specs.declared.iter.Iter.{Iter}
use Rattle.id_iters.specs.declared.iter.Ahead.{Ahead}
use Rattle.id_iters.specs.declared.leaf.Leaf.{Leaf}
use Rattle.id_iters.specs.declared.phrase.PhraseIter.{PhraseIter}
use Rattle.id_iters.specs.declared.iter.Iter.TheOpen as layer
use Rattle.id_iters.specs.declared.iter.Iter.TheVariants as variant
use Rattle.id_iters.specs.declared.iter.Iter.TheFolds as folds
use Rattle.id_iters.specs.declared.iter.Iter.TheViews as views

-- a fact of each item, over a map
all_map : {X Y : Type 0} (v : X → Y) (P : Y → Type 0) (xs : List X) → AllByRecursion (λ x. P (v x)) xs ≡ AllByRecursion P (map v xs)
all_map v P [] = refl
all_map v P (x ∷ xs) = λ i. P (v x) × all_map v P xs i

-- one map over another
maps : {X Y Z : Type 0} (v : X → Y) (f : Y → Z) (xs : List X) → map (λ x. f (v x)) xs ≡ map f (map v xs)
maps v f [] = refl
maps v f (x ∷ xs) = λ i. f (v x) ∷ maps v f xs i

module _ (held : Held) where
  pub about_leaf : (leaf : Leaf) → about held (variant.Leaf leaf) ≡ record { has = leaf_has held leaf; depth = 1 }
  about_leaf leaf = ap (about held) (sym (variant.rolls-Leaf leaf)) ∙ folds.fold-roll-Iter About About (set_step held) ahead_step (layer.Leaf leaf)

  pub about_and : (parts : List Iter) → about held (variant.And parts) ≡ record { has = all_have (map (about held) parts); depth = 1 + deepest (map (about held) parts) }
  about_and parts = ap (about held) (sym (variant.rolls-And parts)) ∙ folds.fold-roll-Iter About About (set_step held) ahead_step (layer.And parts)

  pub about_or : (parts : List Ahead) (stretch : Stretch) → about held (variant.Or parts stretch) ≡ record { has = any_has (map (about_ahead held) parts); depth = 1 + deepest (map (about_ahead held) parts) }
  about_or parts stretch = ap (about held) (sym (variant.rolls-Or parts stretch)) ∙ folds.fold-roll-Iter About About (set_step held) ahead_step (layer.Or parts stretch)

  pub about_not : (part : Box Ahead Global) → about held (variant.Not part) ≡ record { has = λ id. not ((about_ahead held part.value).has id); depth = 1 + (about_ahead held part.value).depth }
  about_not part = ap (about held) (sym (variant.rolls-Not part)) ∙ folds.fold-roll-Iter About About (set_step held) ahead_step (layer.Not part)

  pub about_optional : (part : Box Iter Global) → about held (variant.Optional part) ≡ record { has = λ id. true; depth = 1 + (about held part.value).depth }
  about_optional part = ap (about held) (sym (variant.rolls-Optional part)) ∙ folds.fold-roll-Iter About About (set_step held) ahead_step (layer.Optional part)

  pub about_phrase : (phrase : PhraseIter) → about held (variant.Phrase phrase) ≡ record { has = phrase_ids held phrase; depth = 1 }
  about_phrase phrase = ap (about held) (sym (variant.rolls-Phrase phrase)) ∙ folds.fold-roll-Iter About About (set_step held) ahead_step (layer.Phrase phrase)

  pub about_all : about held variant.All ≡ record { has = λ id. true; depth = 1 }
  about_all = ap (about held) (sym variant.rolls-All) ∙ folds.fold-roll-Iter About About (set_step held) ahead_step layer.All

  pub about_empty : about held variant.Empty ≡ record { has = λ id. false; depth = 1 }
  about_empty = ap (about held) (sym variant.rolls-Empty) ∙ folds.fold-roll-Iter About About (set_step held) ahead_step layer.Empty

  pub about_inner : (a : Ahead) → about_ahead held a ≡ about held (views.out-Ahead a).iter
  about_inner a = folds.fold_out-Ahead About About (set_step held) ahead_step a

  abbrev step : (X Y : Type 0) → (X → Iter) → (Y → Ahead) → (X → ℕ → Type 0) → (Y → ℕ → Type 0) → layer.Iter-F X Y → ℕ → Type 0
  step = ready_step held

  abbrev step' : (X Y : Type 0) → (X → Iter) → (Y → Ahead) → (X → ℕ → Type 0) → (Y → ℕ → Type 0) → layer.Ahead-F X Y → ℕ → Type 0
  step' = keeps_step held

  natural : (X Y : Type 0) (v : X → Iter) (v' : Y → Ahead) (k : Iter → ℕ → Type 0) (k' : Ahead → ℕ → Type 0) (d : layer.Iter-F X Y)
      → step X Y v v' (λ x. k (v x)) (λ y. k' (v' y)) d ≡ step Iter Ahead (λ x. x) (λ y. y) k k' (folds.map-Iter X Y Iter Ahead v v' d)
  natural X Y v v' k k' (layer.Leaf leaf) = refl
  natural X Y v v' k k' (layer.And parts) = λ i from. all_map v (λ p. k p from) parts i
  natural X Y v v' k k' (layer.Or parts stretch) = λ i from.
      all_map v' (λ p. k' p (max from (limit_of stretch))) parts i
      × Tells (some_living held (maps v' (about_ahead held) parts i)) stretch from
  natural X Y v v' k k' (layer.Not part) = refl
  natural X Y v v' k k' (layer.Optional part) = refl
  natural X Y v v' k k' layer.All = refl
  natural X Y v v' k k' (layer.Phrase phrase) = refl
  natural X Y v v' k k' layer.Empty = refl

  natural' : (X Y : Type 0) (v : X → Iter) (v' : Y → Ahead) (k : Iter → ℕ → Type 0) (k' : Ahead → ℕ → Type 0) (d : layer.Ahead-F X Y)
      → step' X Y v v' (λ x. k (v x)) (λ y. k' (v' y)) d ≡ step' Iter Ahead (λ x. x) (λ y. y) k k' (folds.map-Ahead X Y Iter Ahead v v' d)
  natural' X Y v v' k k' d = refl

  ready_layer : (d : layer.Iter-F Iter Ahead) (from : ℕ) → ReadyAt held (views.roll-Iter d) from ≡ step Iter Ahead (λ x. x) (λ y. y) (ReadyAt held) (AheadAt held) d from
  ready_layer d from = λ i. folds.rec-roll-Iter (ℕ → Type 0) (ℕ → Type 0) step step' natural d i from

  pub ready_and : (parts : List Iter) (from : ℕ) → ReadyAt held (variant.And parts) from ≡ AllByRecursion (λ p. ReadyAt held p from) parts
  ready_and parts from = ap (λ v. ReadyAt held v from) (sym (variant.rolls-And parts)) ∙ ready_layer (layer.And parts) from

  pub ready_or : (parts : List Ahead) (stretch : Stretch) (from : ℕ)
      → ReadyAt held (variant.Or parts stretch) from ≡ (AllByRecursion (λ p. AheadAt held p (max from (limit_of stretch))) parts × Tells (some_living held (map (about_ahead held) parts)) stretch from)
  ready_or parts stretch from = ap (λ v. ReadyAt held v from) (sym (variant.rolls-Or parts stretch)) ∙ ready_layer (layer.Or parts stretch) from

  pub ready_not : (part : Box Ahead Global) (from : ℕ) → ReadyAt held (variant.Not part) from ≡ AheadAt held part.value from
  ready_not part from = ap (λ v. ReadyAt held v from) (sym (variant.rolls-Not part)) ∙ ready_layer (layer.Not part) from

  pub ready_leaf : (leaf : Leaf) (from : ℕ) → ReadyAt held (variant.Leaf leaf) from ≡ LeafReady held leaf from
  ready_leaf leaf from = ap (λ v. ReadyAt held v from) (sym (variant.rolls-Leaf leaf)) ∙ ready_layer (layer.Leaf leaf) from

  pub ready_rolled : (a : layer.Ahead-F Iter Ahead) (from : ℕ) → AheadAt held (views.roll-Ahead a) from ≡ Keeps (in_set held a.iter) (ReadyAt held a.iter) a.asked a.next from
  ready_rolled a from = λ i. folds.rec-roll-Ahead (ℕ → Type 0) (ℕ → Type 0) step step' natural' a i from

  pub ready_all : (from : ℕ) → ReadyAt held variant.All from ≡ Unit {0}
  ready_all from = ap (λ v. ReadyAt held v from) (sym variant.rolls-All) ∙ ready_layer layer.All from

  pub ready_phrase : (phrase : PhraseIter) (from : ℕ) → ReadyAt held (variant.Phrase phrase) from ≡ LeavesReady held phrase.words from
  ready_phrase phrase from = ap (λ v. ReadyAt held v from) (sym (variant.rolls-Phrase phrase)) ∙ ready_layer (layer.Phrase phrase) from

  pub ready_optional : (part : Box Iter Global) (from : ℕ) → ReadyAt held (variant.Optional part) from ≡ Unit {0}
  ready_optional part from = ap (λ v. ReadyAt held v from) (sym (variant.rolls-Optional part)) ∙ ready_layer (layer.Optional part) from

  pub ready_empty : (from : ℕ) → ReadyAt held variant.Empty from ≡ Unit {0}
  ready_empty from = ap (λ v. ReadyAt held v from) (sym variant.rolls-Empty) ∙ ready_layer layer.Empty from

-- ---- the leaves of parts put together

pub leaves_and : (parts : List Iter) → leaves_of (variant.And parts) ≡ flat_map leaves_of parts
leaves_and parts =
    ap leaves_of (sym (variant.rolls-And parts)) ∙ folds.fold-roll-Iter (List Leaf) (List Leaf) leaves_step ahead_leaves (layer.And parts)
    ∙ flat_map-map (λ (leaves : List Leaf). leaves) leaves_of parts

pub leaves_or : (parts : List Ahead) (stretch : Stretch) → leaves_of (variant.Or parts stretch) ≡ flat_map leaves_of_ahead parts
leaves_or parts stretch =
    ap leaves_of (sym (variant.rolls-Or parts stretch)) ∙ folds.fold-roll-Iter (List Leaf) (List Leaf) leaves_step ahead_leaves (layer.Or parts stretch)
    ∙ flat_map-map (λ (leaves : List Leaf). leaves) leaves_of_ahead parts
