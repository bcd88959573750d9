-- What is kept when parts go into a union.
use Rattle.std.specs.Prelude.{◌≡◌, ◌||◌, ℕ, Bool, List, Option}
use Rattle.std.specs.List.{AllByRecursion, list_any}
use Rattle.id_iters.specs.Fitting.{leaves_of_ahead}
use Rattle.id_iters.specs.Held.{Held}
use Rattle.id_iters.specs.Ready.{AheadReady}
use Rattle.id_iters.specs.Sets.{about_ahead}
use Rattle.id_iters.specs.declared.iter.Ahead.{Ahead}
use Rattle.id_iters.specs.declared.list_name.ListName.{ListName}
use Rattle.inverted_list.specs.declared.place.Place.{Place}
use Rattle.list_plan.specs.Plans.{AllKnown, AllOpen, AllReady, PartsKnown, PartsOpen, ids_of}
use Rattle.list_plan.specs.declared.size.Planned.{Planned}

-- whether some part of a union has an id, and what is told of each
abbrev pub some_part : Held → List Ahead → ℕ → Bool
some_part held parts id = list_any (λ part. (about_ahead held part).has id) parts

abbrev pub EachReady : Held → List Ahead → ℕ → Type 0
EachReady held parts from = AllByRecursion (λ (part : Ahead). AheadReady held part from) parts

abbrev pub EachOpen : Held → ℕ → List Ahead → Type 0
EachOpen held after parts = AllByRecursion (λ (part : Ahead). AllOpen held after (leaves_of_ahead part)) parts

abbrev pub EachKnown : (ListName → Option Place) → List Ahead → Type 0
EachKnown known parts = AllByRecursion (λ (part : Ahead). AllKnown known (leaves_of_ahead part)) parts

-- Of the plans that were left some went to the parts of a union. Together they have the same ids, may be asked where they
-- could, and have the same leaves.
pub record Gathers (left : List Planned) (parts : List Ahead) (fewer : List Planned) (more : List Ahead) : Type 0 where
  pub set : (held : Held) (id : ℕ)
      → (list_any (λ planned. ids_of held planned id) fewer || some_part held more id) ≡ (list_any (λ planned. ids_of held planned id) left || some_part held parts id)
  pub ready : (held : Held) (from : ℕ) → AllReady held left from → EachReady held parts from → AllReady held fewer from × EachReady held more from
  pub placed : (held : Held) (after : ℕ) → PartsOpen held after left → EachOpen held after parts → PartsOpen held after fewer × EachOpen held after more
  pub known : (known : ListName → Option Place) → PartsKnown known fewer → EachKnown known more → PartsKnown known left × EachKnown known parts
