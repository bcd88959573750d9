-- What a worker does with the links of its door.
use Rattle.std.specs.Prelude.{◌≡◌, Bool, true, false, List, [], ◌∷◌, ◌++◌, ⊤, Some, None}
use Rattle.std.specs.declared.option.Option.{Option}
use Rattle.fs_ports.specs.Causes.{Rose}
use Rattle.fs_ports.specs.Doors.{AtDoor, NoneComes}
use Rattle.fs_ports.specs.declared.clock.Clock as Clock
use Rattle.fs_ports.specs.declared.link.Link as Link
use Rattle.ft_engine.specs.Entries.{Entry}
use Rattle.turn_gate.specs.Known.{GateName, Known}
use Rattle.ft_server.specs.Callers.{Called}
use Rattle.ft_server.specs.Ends.{Ends}
use Rattle.ft_server.specs.Passes.{IsOf}
use Rattle.ft_server.specs.Prompt.{MayBeRead}
use Rattle.ft_server.specs.Session.{told}
use Rattle.ft_server.specs.declared.connection.End.{End}

-- A link as it was accepted, as it was handed back, and how its connection ended.
pub record Visit (L : Type 0) : Type 0 where
  pub link : L
  pub back : L
  pub end : End

module _ {L : Type 0} where
  -- Visits are held last first. These are their links, first first.
  abbrev pub accepted : List (Visit L) → List L
  accepted [] = []
  accepted (visit ∷ visits) = accepted visits ++ visit.link ∷ []

  abbrev pub returned : List (Visit L) → List L
  returned [] = []
  returned (visit ∷ visits) = returned visits ++ visit.back ∷ []

  -- Where they are told, these links were the first to come.
  abbrev pub Took : Option (List L) → Option (List L) → List L → Type 0
  Took None None links = ⊤
  Took None (Some after) links = ⊥
  Took (Some before) None links = ⊥
  Took (Some before) (Some after) links = before ≡ links ++ after

  -- Where they are told, these links were handed back.
  abbrev pub Returned : Option (List L) → Option (List L) → List L → Type 0
  Returned None None links = ⊤
  Returned None (Some after) links = ⊥
  Returned (Some before) None links = ⊥
  Returned (Some before) (Some after) links = after ≡ before ++ links

  -- A door gave no link: the accept failed and was counted, or no further one is to come, and only that has changed.
  abbrev pub GivesNone : AtDoor L → AtDoor L → Bool → Type 0
  GivesNone before after true = (after ≡ record before { faults = after.faults }) × Rose before.faults after.faults
  GivesNone before after false = (after ≡ record before { faults = after.faults; ended = true }) × NoneComes before.coming

module _ {L C : Type 0} (port : Link.Ghosts L) (watch : Clock.Ghosts C) where
  -- Each link may be read where all that came whole over it was answered, by a caller of any server.
  abbrev pub AllMayBeRead : Type 0
  AllMayBeRead = (gate : GateName) (pass : Known Entry) (link : L) (clock : C) → IsOf gate pass → MayBeRead port watch gate pass link clock

module _ {L C : Type 0} (port : Link.Ghosts L) (watch : Clock.Ghosts C) (gate : GateName) where
  -- One connection leads from a pass and a clock to a pass and a clock.
  pub record Connects (pass pass' : Known Entry) (clock clock' : C) (visit : Visit L) : Type 0 where
    pub legal : IsOf gate pass'
    pub same : pass'.caller ≡ pass.caller
    pub ends : Ends (Called pass pass') visit.end (told port watch visit.link clock) (told port watch visit.back clock')

  -- From one pass and clock to another by these visits, of which the last stands first.
  abbrev pub Served : List (Visit L) → Known Entry → C → Known Entry → C → Type 0
  Served [] pass clock pass' clock' = (pass' ≡ pass) × (clock' ≡ clock)
  Served (visit ∷ visits) pass clock pass' clock' =
      (mid : Known Entry) × (moment : C) × Served visits pass clock mid moment × Connects mid pass' moment clock' visit

  module _ {D : Type 0} (at : D → AtDoor L) where
    -- What a worker did up to here, when no link of its door is out.
    pub record Visited (pass : Known Entry) (door : D) (clock : C) (pass' : Known Entry) (door' : D) (clock' : C) : Type 0 where
      pub visits : List (Visit L)
      pub served : Served visits pass clock pass' clock'
      pub legal : IsOf gate pass'
      pub same : pass'.caller ≡ pass.caller
      pub idle : (at door').out ≡ false
      pub took : Took (at door).coming (at door').coming (accepted visits)
      pub gave : Returned (at door).back (at door').back (returned visits)

    -- What a worker gives back: it failed only where its door did, and else the door has ended.
    pub record WorkerDone (pass : Known Entry) (door : D) (clock : C) (pass' : Known Entry) (door' : D) (clock' : C) (failed : Bool) : Type 0 where
      pub visited : Visited pass door clock pass' door' clock'
      pub failed_by : failed ≡ true → Rose (at door).faults (at door').faults
      pub ended : failed ≡ false → ((at door').ended ≡ true) × NoneComes (at door').coming
