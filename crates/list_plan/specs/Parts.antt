-- Parts that may be negated, and what they are put together to.
use Rattle.std.specs.Prelude.{◌≡◌, ◌&&◌, ◌++◌, ◌∷◌, [], not, ℕ, Bool, List, Option, if◌then◌else◌}
use Rattle.std.specs.List.{AllByRecursion, list_all, list_any}
use Rattle.id_iters.specs.Fitting.{leaves_of}
use Rattle.id_iters.specs.Held.{Held}
use Rattle.id_iters.specs.Ready.{Ready}
use Rattle.id_iters.specs.declared.list_name.ListName.{ListName}
use Rattle.inverted_list.specs.declared.place.Place.{Place}
use Rattle.list_plan.specs.Plans.{AllKnown, AllOpen, AllReady, PartsKnown, PartsOpen, ids_of}
use Rattle.list_plan.specs.declared.parts.Part.{Part}
use Rattle.list_plan.specs.declared.size.Planned.{Planned}

-- whether a part has an id: the planned set has it, or where the part is negated has it not
abbrev pub part_has : Held → Part → ℕ → Bool
part_has held part id = if part.negated then not (ids_of held part.planned id) else ids_of held part.planned id

-- each part may be asked from a number on
abbrev pub AllPartsReady : Held → List Part → ℕ → Type 0
AllPartsReady held parts from = AllByRecursion (λ (part : Part). Ready held part.planned.iter from) parts

-- the list of each leaf of each part is open behind the ids up to a number
abbrev pub AllPartsOpen : Held → ℕ → List Part → Type 0
AllPartsOpen held after parts = AllByRecursion (λ (part : Part). AllOpen held after (leaves_of part.planned.iter)) parts

-- a place is known in the list of each leaf of each part
abbrev pub AllPartsKnown : (ListName → Option Place) → List Part → Type 0
AllPartsKnown known parts = AllByRecursion (λ (part : Part). AllKnown known (leaves_of part.planned.iter)) parts

-- A part is made of others: it may be asked where they could, its lists are open where theirs are, and where a place is known in each
-- list of its leaves, one is known in each of theirs.
pub record IsMadeOf (parts : List Part) (made : Part) : Type 0 where
  pub ready : (held : Held) (from : ℕ) → AllPartsReady held parts from → Ready held made.planned.iter from
  pub placed : (held : Held) (after : ℕ) → AllPartsOpen held after parts → AllOpen held after (leaves_of made.planned.iter)
  pub known : (known : ListName → Option Place) → AllKnown known (leaves_of made.planned.iter) → AllPartsKnown known parts

-- the part that has what every part has
pub record IsEvery (parts : List Part) (made : Part) : Type 0 where
  pub set : (held : Held) (id : ℕ) → part_has held made id ≡ list_all (λ part. part_has held part id) parts
  pub of : IsMadeOf parts made

-- the part that has what some part has
pub record IsAny (parts : List Part) (made : Part) : Type 0 where
  pub set : (held : Held) (id : ℕ) → part_has held made id ≡ list_any (λ part. part_has held part id) parts
  pub of : IsMadeOf parts made

-- Parts are sets of which every one has an id, and sets of which none has it. Those that have all ids are left out.
pub record Splits (parts : List Part) (found denied : List Planned) : Type 0 where
  pub set : (held : Held) (id : ℕ)
      → (list_all (λ planned. ids_of held planned id) found && not (list_any (λ planned. ids_of held planned id) denied)) ≡ list_all (λ part. part_has held part id) parts
  pub ready : (held : Held) (from : ℕ) → AllPartsReady held parts from → AllReady held found from × AllReady held denied from
  pub placed : (held : Held) (after : ℕ) → AllPartsOpen held after parts → PartsOpen held after found × PartsOpen held after denied
  pub known : (known : ListName → Option Place) → PartsKnown known found → PartsKnown known denied → AllPartsKnown known parts

-- one more part goes to the sets where it belongs
pub record Sorts (part : Part) (found denied more others : List Planned) : Type 0 where
  pub splits : (parts : List Part) → Splits parts found denied → Splits (parts ++ part ∷ []) more others

-- Sets of which every one has an id, and sets of which none has it, are sets of which every one has it.
pub record Combines (found denied all : List Planned) : Type 0 where
  pub set : (held : Held) (id : ℕ)
      → list_all (λ planned. ids_of held planned id) all ≡ (list_all (λ planned. ids_of held planned id) found && not (list_any (λ planned. ids_of held planned id) denied))
  pub ready : (held : Held) (from : ℕ) → AllReady held found from → AllReady held denied from → AllReady held all from
  pub placed : (held : Held) (after : ℕ) → PartsOpen held after found → PartsOpen held after denied → PartsOpen held after all
  pub known : (known : ListName → Option Place) → PartsKnown known all → PartsKnown known found × PartsKnown known denied

-- the set of what no set has
pub record Denies (plans : List Planned) (made : Planned) : Type 0 where
  pub set : (held : Held) (id : ℕ) → ids_of held made id ≡ not (list_any (λ planned. ids_of held planned id) plans)
  pub ready : (held : Held) (from : ℕ) → AllReady held plans from → Ready held made.iter from
  pub placed : (held : Held) (after : ℕ) → PartsOpen held after plans → AllOpen held after (leaves_of made.iter)
  pub known : (known : ListName → Option Place) → AllKnown known (leaves_of made.iter) → PartsKnown known plans

-- the part that has what every found set has and no denied one
pub record JoinsSides (found denied : List Planned) (made : Part) : Type 0 where
  pub set : (held : Held) (id : ℕ)
      → part_has held made id ≡ (list_all (λ planned. ids_of held planned id) found && not (list_any (λ planned. ids_of held planned id) denied))
  pub ready : (held : Held) (from : ℕ) → AllReady held found from → AllReady held denied from → Ready held made.planned.iter from
  pub placed : (held : Held) (after : ℕ) → PartsOpen held after found → PartsOpen held after denied → AllOpen held after (leaves_of made.planned.iter)
  pub known : (known : ListName → Option Place) → AllKnown known (leaves_of made.planned.iter) → PartsKnown known found × PartsKnown known denied
