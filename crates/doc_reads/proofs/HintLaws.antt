-- Hints that fit the leaves of an iterator are open in their lists.
use Rattle.std.proofs.Common.{ℕ, List, [], ◌∷◌, sym, subst}
use Rattle.std.specs.List.{AllByRecursion}
use Rattle.std.proofs.lemmas.List.Elements.{All-from_recursion}
use Rattle.id_iters.specs.Fitting.{AreOpenBehind, HintsFit, IsOpenAt}
use Rattle.id_iters.specs.Held.{Held}
use Rattle.id_iters.specs.declared.hint.Hint.{Hint}
use Rattle.id_iters.specs.declared.leaf.Leaf.{Leaf}
use Rattle.id_iters.specs.declared.list_name.ListName.{ListName}

module _ (held : Held) (after : ℕ) where
  each-open : (leaves : List Leaf) (hints : List Hint) → HintsFit held after leaves hints → AllByRecursion (λ (hint : Hint). IsOpenAt held hint.list after hint.place) hints
  each-open [] [] fit = tt
  each-open [] (hint ∷ hints) fit = absurd fit
  each-open (leaf ∷ leaves) [] fit = tt
  each-open (leaf ∷ leaves) (hint ∷ hints) fit =
      (subst (λ (name : ListName). IsOpenAt held name after hint.place) (sym fit.0.list) fit.0.place, each-open leaves hints fit.1)

  pub fit-open : (leaves : List Leaf) (hints : List Hint) → HintsFit held after leaves hints → AreOpenBehind held after hints
  fit-open leaves hints fit = All-from_recursion (λ (hint : Hint). IsOpenAt held hint.list after hint.place) hints (each-open leaves hints fit)
