-- At which places leaves stand, and which hints fit them.
use Rattle.std.proofs.Common.{◌≡◌, ℕ, List, [], ◌∷◌, Option, Some, None, IsSome, slice_index_or, sym, ap, ◌∙◌, subst}
use Rattle.std.specs.List.{All, AllByRecursion}
use Rattle.std.proofs.lemmas.List.Elements.{All-contains, All-from_recursion, recursion_from_All}
use Rattle.inverted_list.specs.Listing.{Listing}
use Rattle.inverted_list.specs.Places.{number_of}
use Rattle.inverted_list.specs.declared.place.Place.{Place}
use Rattle.id_iters.specs.Fitting.{HasFitting, IsOpenAt, IsPlaced}
use Rattle.id_iters.specs.Held.{Held}
use Rattle.id_iters.specs.Places.{IsOpenedIn, IsSoundIn}
use Rattle.id_iters.specs.declared.hint.Hint.{Hint}
use Rattle.id_iters.specs.declared.leaf.Leaf.{Leaf}
use Rattle.id_iters.specs.declared.list_name.ListName.{ListName}
use Rattle.id_iters.specs.declared.list_name.ListName.TheVariants as names
use Rattle.list_plan.specs.Known.{KnowsAll}
use Rattle.list_plan.specs.Plans.{AllKnown, AllOpen}

-- ---- a list has one place that is opened behind an id

alike_in : {P : Type 0} (list : Option (Listing P)) (after : ℕ) (a b : Place) → IsSoundIn list a → IsOpenedIn list after a → IsSoundIn list b → IsOpenedIn list after b → a ≡ b
alike_in None after a b sound opened also again = opened ∙ sym again
alike_in (Some list) after a b sound opened also again =
    let stands = sound opened.0 in
    let others = also again.0 in
    let marker = opened.0 ∙ sym again.0 in
    let last = opened.1 ∙ sym again.1 in
    let block = stands ∙ ap (λ n. number_of n list) last ∙ sym others in
    λ i. record { marker = marker i; block = block i; last = last i }

alike : (held : Held) (list : ListName) (after : ℕ) (a b : Place) → IsOpenAt held list after a → IsOpenAt held list after b → a ≡ b
alike held (names.Word text) after a b one other = alike_in (held.words text) after a b one.sound one.opened other.sound other.opened
alike held (names.Tag field text) after a b one other = alike_in (held.tags field text) after a b one.sound one.opened other.sound other.opened
alike held (names.Range field low) after a b one other = alike_in (held.ranges field low) after a b one.sound one.opened other.sound other.opened

-- ---- each leaf

module _ (held : Held) (after : ℕ) (hints : List Hint) where
  placed : (leaf : Leaf) → IsOpenAt held leaf.list after leaf.place → IsPlaced held after hints leaf
  placed leaf opened = record { opened = opened; hinted = λ k d inside fits. alike held leaf.list after leaf.place (slice_index_or hints k d).place opened fits.place }

  each_placed : (leaves : List Leaf) → AllOpen held after leaves → AllByRecursion (IsPlaced held after hints) leaves
  each_placed [] all = tt
  each_placed (leaf ∷ leaves) all = (placed leaf all.0, each_placed leaves all.1)

  pub all_placed : (leaves : List Leaf) → AllOpen held after leaves → All (IsPlaced held after hints) leaves
  all_placed leaves all = All-from_recursion (IsPlaced held after hints) leaves (each_placed leaves all)

  module _ (known : ListName → Option Place) (knows : KnowsAll held after known hints) where
    one_known : (leaf : Leaf) → HasFitting held after hints leaf → IsSome (known leaf.list)
    one_known leaf found =
        let opens = subst (λ (name : ListName). IsOpenAt held name after found.hint.place) (sym found.fits.list) found.fits.place in
        subst (λ (name : ListName). IsSome (known name)) found.fits.list
        (All-contains (λ (hint : Hint). IsOpenAt held hint.list after hint.place → IsSome (known hint.list)) hints found.hint knows found.among opens)

    each_known : (leaves : List Leaf) → AllByRecursion (HasFitting held after hints) leaves → AllKnown known leaves
    each_known [] all = tt
    each_known (leaf ∷ leaves) all = (one_known leaf all.0, each_known leaves all.1)

    pub all_known : (leaves : List Leaf) → All (HasFitting held after hints) leaves → AllKnown known leaves
    all_known leaves all = each_known leaves (recursion_from_All (HasFitting held after hints) leaves all)
