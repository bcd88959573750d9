-- What a planned part tells of its ids, from where on it may be asked, and of its leaves.
use Rattle.std.specs.Prelude.{◌≡◌, ℕ, ℤ, List, ◌∷◌, [], Bool, IsSome, Option, Result, Ok, ◌++◌}
use Rattle.std.specs.List.{AllByRecursion, list_any}
use Rattle.ft_base.specs.declared.query.Fields.{Fields}
use Rattle.id_iters.specs.Fitting.{IsOpenAt, leaves_of}
use Rattle.id_iters.specs.Held.{Held}
use Rattle.id_iters.specs.Leaves.{list_has}
use Rattle.id_iters.specs.Ready.{Ready}
use Rattle.id_iters.specs.Sets.{about}
use Rattle.id_iters.specs.declared.leaf.Leaf.{Leaf}
use Rattle.id_iters.specs.declared.list_name.ListName.{ListName}
use Rattle.inverted_list.specs.declared.place.Place.{Place}
use Rattle.list_plan.specs.declared.size.Planned.{Planned}

-- the ids of a planned part
abbrev pub ids_of : Held → Planned → ℕ → Bool
ids_of held planned = (about held planned.iter).has

-- the part has all ids or none, whatever lists there are
abbrev pub HasAllIf : Bool → Planned → Type 0
HasAllIf all planned = (held : Held) → ids_of held planned ≡ (λ id. all)

-- it may be asked from any number on, whatever lists there are
abbrev pub AlwaysReady : Planned → Type 0
AlwaysReady planned = (held : Held) (from : ℕ) → Ready held planned.iter from

-- each part may be asked from a number on
abbrev pub AllReady : Held → List Planned → ℕ → Type 0
AllReady held plans from = AllByRecursion (λ (planned : Planned). Ready held planned.iter from) plans

-- each leaf's list is open behind the ids up to a number
abbrev pub AllOpen : Held → ℕ → List Leaf → Type 0
AllOpen held after leaves = AllByRecursion (λ (leaf : Leaf). IsOpenAt held leaf.list after leaf.place) leaves

-- a place is known in each leaf's list
abbrev pub AllKnown : (ListName → Option Place) → List Leaf → Type 0
AllKnown known leaves = AllByRecursion (λ (leaf : Leaf). IsSome (known leaf.list)) leaves

-- the same of the leaves of each part
abbrev pub PartsOpen : Held → ℕ → List Planned → Type 0
PartsOpen held after plans = AllByRecursion (λ (planned : Planned). AllOpen held after (leaves_of planned.iter)) plans

abbrev pub PartsKnown : (ListName → Option Place) → List Planned → Type 0
PartsKnown known plans = AllByRecursion (λ (planned : Planned). AllKnown known (leaves_of planned.iter)) plans

-- where a place is known in the list of each leaf of a part, one is known in those of other parts' leaves
abbrev pub KnowsLeavesOf : List Planned → Planned → Type 0
KnowsLeavesOf plans made = (known : ListName → Option Place) → AllKnown known (leaves_of made.iter) → PartsKnown known plans

-- Parts are put together to others that have the same ids in all, may be asked where they could, and have the same leaves.
pub record Joins (old new : List Planned) : Type 0 where
  pub set : (held : Held) (id : ℕ) → list_any (λ planned. ids_of held planned id) new ≡ list_any (λ planned. ids_of held planned id) old
  pub ready : (held : Held) (from : ℕ) → AllReady held old from → AllReady held new from
  pub placed : (held : Held) (after : ℕ) → PartsOpen held after old → PartsOpen held after new
  pub known : (known : ListName → Option Place) → PartsKnown known new → PartsKnown known old

-- What was made is there, and went behind the others.
pub record Gains {X E : Type 0} (made : Result X E) (old new : List X) : Type 0 where
  pub item : X
  pub was : made ≡ Ok item
  pub items : new ≡ old ++ item ∷ []

-- whether some list of these names has an id
abbrev pub some_has : Held → List ListName → Fields → ℤ → ℤ → ℕ → Bool
some_has held names looked low high id = list_any (λ name. list_has held name looked low high id) names
